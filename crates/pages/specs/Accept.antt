-- A page (01, section 4) is accepted exactly when each of these holds, down to its records' fields; no order of tests is in it.
use Rattle.std.specs.Prelude.{ℕ, ◌+◌, ◌-◌, ◌≤◌, ◌≡◌, ◌↔◌, ◌⊎◌, List, [], ◌∷◌, length, drop, replicate, Option, Some, Ok}
use Rattle.error.specs.Answer.{check_class}
use Rattle.octets.specs.Bytes.{byte_at, part, Bytes}
use Rattle.octets.specs.Number.{u16_at, u32_at, u64_at}
use Rattle.crc.specs.Crc.{crc32c_with_zero}
use Rattle.volume.specs.declared.TreeRef.{TreeRef}
use Rattle.volume.specs.declared.TreeKind.{TreeKind}
use Rattle.volume.specs.Accept.{PageRefHolds}
use Rattle.page.specs.declared.Page.{Page}
use Rattle.page.specs.Page.{decode_page}
use Rattle.pages.specs.Records.{LeafRecords, InternalRecords}

-- READING-RULES 7.2, tests 1 to 5: the caller's part; the place asks for B of 1,024 too, and `LevelHolds` makes test 6: no page has a level above 7
pub record CallerHolds (reference : TreeRef) (uuid : List ℕ) (kind : TreeKind) (parent_generation blocks : ℕ) (page : List ℕ) : Type 0 where
  pub size : length page ≡ 4096
  pub geometry : 1024 ≤ blocks
  pub place : PageRefHolds reference kind blocks
  pub volume : uuid ≡ replicate (length uuid) 0 → ⊥
  pub not_newer : reference.generation ≤ parent_generation

-- section 4: a leaf is of kind 1 and level 0, an internal page of kind 2 and a level from 1 to 7
abbrev pub LeafOrInternal : List ℕ → Type 0
LeafOrInternal page = (byte_at page 12 ≡ 1) × (byte_at page 14 ≡ 0) ⊎ (byte_at page 12 ≡ 2) × (1 ≤ byte_at page 14) × (byte_at page 14 ≤ 7)

-- section 4: it is one of these, and its level is the expected one, if one is given
pub record LevelHolds (expected_level : Option ℕ) (page : List ℕ) : Type 0 where
  pub kind : LeafOrInternal page
  pub expected : (n : ℕ) → expected_level ≡ Some n → byte_at page 14 ≡ n

-- section 4: tree kind 1 catalog, 2 allocation, 3 cleanup, 4 workspace
abbrev pub KindByte : TreeKind → ℕ → Type 0
KindByte TreeKind.Catalog byte = byte ≡ 1
KindByte TreeKind.Allocation byte = byte ≡ 2
KindByte TreeKind.Cleanup byte = byte ≡ 3
KindByte TreeKind.Workspace byte = byte ≡ 4

-- section 4, READING-RULES 7.2, tests 7 to 21: the header's fields
pub record HeaderHolds (reference : TreeRef) (uuid : List ℕ) (kind : TreeKind) (expected_level : Option ℕ) (blocks : ℕ) (page : List ℕ) : Type 0 where
  -- `CFSXPAGE`
  pub magic_is : part page 0 8 ≡ 0x43 ∷ 0x46 ∷ 0x53 ∷ 0x58 ∷ 0x50 ∷ 0x41 ∷ 0x47 ∷ 0x45 ∷ []
  pub revision : u16_at page 8 ≡ 1
  pub flags : u16_at page 10 ≡ 0
  pub level : LevelHolds expected_level page
  pub tree_kind : KindByte kind (byte_at page 13)
  pub zero_15 : byte_at page 15 ≡ 0
  pub block : u64_at page 16 ≡ reference.block
  pub generation : u64_at page 24 ≡ reference.generation
  pub payload_fits : u16_at page 34 ≤ 4016
  pub zero_36 : part page 36 4 ≡ replicate 4 0
  pub uuid_is : part page 40 16 ≡ uuid
  pub total_fits : u64_at page 56 ≤ blocks
  pub total_allowed : (kind ≡ TreeKind.Catalog → ⊥) → u64_at page 56 ≡ 0
  pub checksum : u32_at page 64 ≡ crc32c_with_zero page 64 68
  pub zero_68 : part page 68 12 ≡ replicate 12 0

-- section 4: the payload, from byte 80 on as long as the u16 at 34 says, holds the records that the u16 at 32 counts: a leaf's with the total at 56, or an internal page's, two children at least; zeros follow
pub record ContentHolds (kind : TreeKind) (blocks : ℕ) (page : List ℕ) : Type 0 where
  pub leaf : byte_at page 12 ≡ 1 → LeafRecords kind blocks (u64_at page 24) (part page 80 (u16_at page 34)) (u16_at page 32) (u64_at page 56)
  pub internal : byte_at page 12 ≡ 2 → InternalRecords kind blocks (u64_at page 24) (part page 80 (u16_at page 34)) (u16_at page 32) × (2 ≤ u16_at page 32)
  pub padding : drop (80 + u16_at page 34) page ≡ replicate (4016 - u16_at page 34) 0

-- section 4: what holds of an accepted page
pub record PageHolds (reference : TreeRef) (uuid : List ℕ) (kind : TreeKind) (parent_generation : ℕ) (expected_level : Option ℕ) (blocks : ℕ) (page : List ℕ) : Type 0 where
  pub caller : CallerHolds reference uuid kind parent_generation blocks page
  pub header : HeaderHolds reference uuid kind expected_level blocks page
  pub content : ContentHolds kind blocks page

-- section 4: what is answered of it: level, total and count as they stand in it, and where its payload starts and ends
pub record PageStates (page : List ℕ) (answer : Page) : Type 0 where
  pub level : answer.level ≡ byte_at page 14
  pub total : answer.data_blocks ≡ u64_at page 56
  pub count : answer.count ≡ u16_at page 32
  pub start : answer.start ≡ 80
  pub end : answer.end ≡ 80 + u16_at page 34

-- `decode_page` accepts a block of bytes exactly when these hold, and then answers what it states
abbrev pub PageExactly : Type 0
PageExactly =
    (reference : TreeRef) (uuid : List ℕ) (kind : TreeKind) (parent_generation : ℕ) (expected_level : Option ℕ) (blocks : ℕ) (page : List ℕ) (answer : Page)
    → Bytes page → (decode_page reference uuid kind parent_generation expected_level blocks page ≡ Ok answer) ↔ (PageHolds reference uuid kind parent_generation expected_level blocks page × PageStates page answer)

-- section 4, "Return classes": it answers class 0 exactly on such blocks of bytes
abbrev pub PageAcceptedExactly : Type 0
PageAcceptedExactly =
    (reference : TreeRef) (uuid : List ℕ) (kind : TreeKind) (parent_generation : ℕ) (expected_level : Option ℕ) (blocks : ℕ) (page : List ℕ)
    → Bytes page → (check_class (decode_page reference uuid kind parent_generation expected_level blocks page) ≡ 0) ↔ PageHolds reference uuid kind parent_generation expected_level blocks page
