-- What the checks of the other trees' records, of leaf records and of internal records accept (01, section 5; READING-RULES 8.3 and 11 to 14), as plain
-- conditions on fields: no order of tests and no mode is in them. "Page generation" is that of the page that holds the record.
use Rattle.std.specs.Prelude.{ℕ, ◌+◌, ◌-◌, ◌*◌, ◌^◌, ◌≤◌, ◌<◌, ◌≡◌, ◌↔◌, ◌⊎◌, true, cond, eqb, List, length, replicate, Ok}
use Rattle.error.specs.declared.Validation.{Validation}
use Rattle.octets.specs.Bytes.{byte_at, part, bit_set}
use Rattle.octets.specs.Number.{u32_at, u64_at, big_at}
use Rattle.volume.specs.declared.TreeRef.{TreeRef}
use Rattle.volume.specs.declared.TreeKind.{TreeKind}
use Rattle.volume.specs.Accept.{NonReserved, NonReservedRun, TreeRefHolds, PageRefHolds}
use Rattle.volume.specs.References.{ref_at}
use Rattle.group.specs.Accept.{GroupHolds}
use Rattle.record.specs.Allocation.{validate_allocation_group}
use Rattle.record.specs.Cleanup.{validate_retirement, validate_detached_tree, validate_orphan_marker, validate_cleanup_key_value}
use Rattle.record.specs.Workspace.{validate_workspace_key, validate_workspace_run}
use Rattle.record.specs.Internal.{validate_internal_record}
use Rattle.record.specs.Leaf.{validate_leaf_record, leaf_record_blocks}
use Rattle.records.specs.Catalog.{OwnerHolds, KeyHolds, InodeHolds, EntryHolds, ExtentHolds}

-- ---- the allocation tree

-- READING-RULES 5.3, 11 and 14: a group's number, in the key's eight bytes, big-endian, is below the number of groups, so its first block is below B; and B + 16,383 fits 64 bits
pub record GroupKeyHolds (key : List ℕ) (blocks : ℕ) : Type 0 where
  pub key_size : length key ≡ 8
  pub sum : blocks + 16383 < 2 ^ 64
  pub number : 16384 * big_at key 0 < blocks

-- READING-RULES 5.3 and 11: each block of group g, past the volume's end too, that is below 512, or not below B - 512, has its bit set
abbrev pub ReservedTaken : List ℕ → ℕ → ℕ → Type 0
ReservedTaken value g blocks = (block : ℕ) → 16384 * g ≤ block → block < 16384 * (g + 1) → (block < 512) ⊎ (blocks ≤ block + 512) → bit_set value (block - 16384 * g) ≡ true

-- READING-RULES 11: such a key, and a bitmap of 2,048 bytes
pub record AllocationHolds (key value : List ℕ) (blocks : ℕ) : Type 0 where
  pub key_holds : GroupKeyHolds key blocks
  pub value_size : length value ≡ 2048
  pub reserved : ReservedTaken value (big_at key 0) blocks

-- ---- the cleanup tree

-- READING-RULES 12.2: a retired run of non-reserved blocks: in the key a generation, from 1 to the page's, and the first block; in the value the count, and a zero
pub record RetirementHolds (key value : List ℕ) (blocks page_generation : ℕ) : Type 0 where
  pub key_size : length key ≡ 17
  pub value_size : length value ≡ 8
  pub generation_least : 1 ≤ big_at key 1
  pub not_newer : big_at key 1 ≤ page_generation
  pub run : NonReservedRun (big_at key 9) (u32_at value 0) blocks
  -- (where B fits 64 bits, this follows)
  pub fits : big_at key 9 + u32_at value 0 < 2 ^ 64
  pub zero_4 : u32_at value 4 ≡ 0

-- READING-RULES 12.2: a detached tree: a job and an owner, a range of kinds from 1 to 4, six zeros, and a reference that isn't newer than the page
pub record DetachedHolds (key value : List ℕ) (blocks page_generation : ℕ) : Type 0 where
  pub key_size : length key ≡ 9
  pub value_size : length value ≡ 32
  pub job : OwnerHolds (big_at key 1)
  pub owner : OwnerHolds (u64_at value 0)
  pub low : 1 ≤ byte_at value 8
  pub ordered : byte_at value 8 ≤ byte_at value 9
  pub high : byte_at value 9 ≤ 4
  pub zeros : part value 10 6 ≡ replicate 6 0
  pub tree : TreeRefHolds (ref_at value 16) blocks
  pub not_newer : u64_at value 24 ≤ page_generation

-- READING-RULES 12.2: an orphan marker: an object, and no value
pub record OrphanHolds (key value : List ℕ) : Type 0 where
  pub key_size : length key ≡ 9
  pub value_size : length value ≡ 0
  pub object : OwnerHolds (big_at key 1)

-- READING-RULES 12.1: which of the three a record is, byte 0 of its key says
pub data CleanupHolds : List ℕ → List ℕ → ℕ → ℕ → Type 0 where
  retirement : {key value : List ℕ} {blocks page_generation : ℕ} → byte_at key 0 ≡ 1 → RetirementHolds key value blocks page_generation → CleanupHolds key value blocks page_generation
  detached : {key value : List ℕ} {blocks page_generation : ℕ} → byte_at key 0 ≡ 2 → DetachedHolds key value blocks page_generation → CleanupHolds key value blocks page_generation
  orphan : {key value : List ℕ} {blocks page_generation : ℕ} → byte_at key 0 ≡ 3 → OrphanHolds key value → CleanupHolds key value blocks page_generation

-- ---- the workspace tree

-- READING-RULES 13: a run's first block, in the key's eight bytes, big-endian, is non-reserved
pub record RunKeyHolds (key : List ℕ) (blocks : ℕ) : Type 0 where
  pub key_size : length key ≡ 8
  pub first : NonReserved (big_at key 0) blocks

-- READING-RULES 13: a run: from its first block on so many non-reserved blocks
pub record WorkspaceHolds (key value : List ℕ) (blocks : ℕ) : Type 0 where
  pub key_size : length key ≡ 8
  pub value_size : length value ≡ 4
  pub run : NonReservedRun (big_at key 0) (u32_at value 0) blocks
  -- (where B fits 64 bits, this follows)
  pub fits : big_at key 0 + u32_at value 0 ≤ 2 ^ 64

-- ---- leaf records

-- READING-RULES 8.3: a catalog record by its key's kind: an inode, a directory entry, an extent or a checksum group
pub data CatalogHolds : List ℕ → List ℕ → ℕ → Type 0 where
  inode : {key value : List ℕ} {blocks : ℕ} → byte_at key 8 ≡ 1 → InodeHolds value blocks → CatalogHolds key value blocks
  entry : {key value : List ℕ} {blocks : ℕ} → byte_at key 8 ≡ 2 → EntryHolds value → CatalogHolds key value blocks
  extent : {key value : List ℕ} {blocks : ℕ} → byte_at key 8 ≡ 3 → ExtentHolds key value blocks → CatalogHolds key value blocks
  group : {key value : List ℕ} {blocks : ℕ} → byte_at key 8 ≡ 4 → GroupHolds key value → CatalogHolds key value blocks

-- READING-RULES 8.3: a leaf record, by the tree's kind
abbrev pub LeafHolds : TreeKind → List ℕ → List ℕ → ℕ → ℕ → Type 0
LeafHolds TreeKind.Catalog key value blocks page_generation = KeyHolds key × CatalogHolds key value blocks
LeafHolds TreeKind.Allocation key value blocks page_generation = AllocationHolds key value blocks
LeafHolds TreeKind.Cleanup key value blocks page_generation = CleanupHolds key value blocks page_generation
LeafHolds TreeKind.Workspace key value blocks page_generation = WorkspaceHolds key value blocks

-- section 5: only extents count blocks in their leaf's total: catalog records whose key has kind 3, the u32 at 8 of the value
abbrev pub blocks_counted : TreeKind → List ℕ → List ℕ → ℕ
blocks_counted TreeKind.Catalog key value = cond (eqb (byte_at key 8) 3) (u32_at value 8) 0
blocks_counted TreeKind.Allocation key value = 0
blocks_counted TreeKind.Cleanup key value = 0
blocks_counted TreeKind.Workspace key value = 0

-- ---- internal records

-- READING-RULES 14: a cleanup tree's key: a retirement's, with a generation from 1 to the page's and a non-reserved block, or a job's or an object's
pub data CleanupKeyHolds : List ℕ → ℕ → ℕ → Type 0 where
  retirement : {key : List ℕ} {blocks page_generation : ℕ} → byte_at key 0 ≡ 1 → length key ≡ 17 → 1 ≤ big_at key 1 → big_at key 1 ≤ page_generation → NonReserved (big_at key 9) blocks → CleanupKeyHolds key blocks page_generation
  job_or_object : {key : List ℕ} {blocks page_generation : ℕ} → (byte_at key 0 ≡ 2) ⊎ (byte_at key 0 ≡ 3) → length key ≡ 9 → OwnerHolds (big_at key 1) → CleanupKeyHolds key blocks page_generation

-- READING-RULES 14: a key, by the tree's kind
abbrev pub InternalKeyHolds : TreeKind → List ℕ → ℕ → ℕ → Type 0
InternalKeyHolds TreeKind.Catalog key blocks page_generation = KeyHolds key
InternalKeyHolds TreeKind.Allocation key blocks page_generation = GroupKeyHolds key blocks
InternalKeyHolds TreeKind.Cleanup key blocks page_generation = CleanupKeyHolds key blocks page_generation
InternalKeyHolds TreeKind.Workspace key blocks page_generation = RunKeyHolds key blocks

-- READING-RULES 14: an internal record: a key of its tree, and in 16 bytes the reference of a page that isn't newer than its parent
pub record InternalHolds (kind : TreeKind) (key value : List ℕ) (blocks page_generation : ℕ) : Type 0 where
  pub key_holds : InternalKeyHolds kind key blocks page_generation
  pub value_size : length value ≡ 16
  pub child : PageRefHolds (ref_at value 0) kind blocks
  pub not_newer : u64_at value 8 ≤ page_generation

-- ---- exactly

-- section 5: a record's sizes, the four bytes of its two lengths among them; READING-RULES 8.2 asks them of a record by itself that is to be written
pub record Sized (key value : List ℕ) : Type 0 where
  pub key_low : 1 ≤ length key
  pub key_high : length key ≤ 1024
  pub size : 4 + length key + length value ≤ 3072

-- section 5, READING-RULES 8.2, 8.3 and 11 to 14: each check accepts exactly when that holds, whatever the mode; an internal record's then gives the child's reference, a leaf record's its blocks
pub record RecordsExactly : Type 0 where
  pub allocation_group : (key value : List ℕ) (blocks : ℕ) (mode : Validation) → (validate_allocation_group key value blocks mode ≡ Ok tt) ↔ AllocationHolds key value blocks
  pub retirement : (key value : List ℕ) (blocks page_generation : ℕ) (mode : Validation) → (validate_retirement key value blocks page_generation mode ≡ Ok tt) ↔ RetirementHolds key value blocks page_generation
  pub detached_tree : (key value : List ℕ) (blocks page_generation : ℕ) (mode : Validation) → (validate_detached_tree key value blocks page_generation mode ≡ Ok tt) ↔ DetachedHolds key value blocks page_generation
  pub orphan_marker : (key value : List ℕ) (mode : Validation) → (validate_orphan_marker key value mode ≡ Ok tt) ↔ OrphanHolds key value
  pub cleanup : (key value : List ℕ) (blocks page_generation : ℕ) (mode : Validation) → (validate_cleanup_key_value key value blocks page_generation mode ≡ Ok tt) ↔ CleanupHolds key value blocks page_generation
  pub workspace_key : (key : List ℕ) (blocks : ℕ) (mode : Validation) → (validate_workspace_key key blocks mode ≡ Ok tt) ↔ RunKeyHolds key blocks
  pub workspace_run : (key value : List ℕ) (blocks : ℕ) (mode : Validation) → (validate_workspace_run key value blocks mode ≡ Ok tt) ↔ WorkspaceHolds key value blocks
  pub internal_record : (kind : TreeKind) (key value : List ℕ) (blocks page_generation : ℕ) (mode : Validation) (reference : TreeRef) → (validate_internal_record kind key value blocks page_generation mode ≡ Ok reference) ↔ (InternalHolds kind key value blocks page_generation × (reference ≡ ref_at value 0))
  pub leaf_record : (kind : TreeKind) (key value : List ℕ) (blocks page_generation : ℕ) (mode : Validation) (n : ℕ) → (validate_leaf_record kind key value blocks page_generation mode ≡ Ok n) ↔ (LeafHolds kind key value blocks page_generation × (n ≡ blocks_counted kind key value))
  pub to_be_written : (kind : TreeKind) (key value : List ℕ) (blocks generation n : ℕ) → (leaf_record_blocks kind key value blocks generation ≡ Ok n) ↔ (Sized key value × LeafHolds kind key value blocks generation × (n ≡ blocks_counted kind key value))
