-- What is accepted, as plain lists of conditions (01, section 3); no order of tests is in them. That they say what the chains of checks say is
-- proved in proofs/LabelAccept and proofs/Accept.
use Rattle.std.specs.Prelude.{ℕ, ◌+◌, ◌-◌, ◌*◌, ◌^◌, ◌≤◌, ◌<◌, ◌≡◌, ◌↔◌, ◌⊎◌, List, [], ◌∷◌, ◌++◌, length, replicate, Option, Some, None, Ok}
use Rattle.octets.specs.Bytes.{part}
use Rattle.octets.specs.Number.{u16_at, u32_at, u64_at}
use Rattle.crc.specs.Crc.{crc32c_with_zero}
use Rattle.volume.specs.declared.TreeRef.{TreeRef}
use Rattle.volume.specs.References.{ref_at}
use Rattle.volume.specs.Accept.{TreeRefHolds}
use Rattle.utf8.specs.Rfc3629.{Utf8}
use Rattle.utf8.specs.Plain.{HasCharacter, MayStand}
use Rattle.root.specs.declared.Label.{Label}
use Rattle.root.specs.declared.Root.{Root}
use Rattle.root.specs.Label.{label_of, label_new}
use Rattle.root.specs.Root.{root_of, root_decode}

-- ---- labels

-- section 3: what holds of a label
pub record LabelHolds (text : List ℕ) : Type 0 where
  pub utf8_is : Utf8 text
  pub least : 1 ≤ length text
  pub most : length text ≤ 255
  pub no_dot : text ≡ 0x2E ∷ [] → ⊥
  pub no_dots : text ≡ 0x2E ∷ 0x2E ∷ [] → ⊥
  pub characters : (p : ℕ) → HasCharacter p text → MayStand p

-- `Label::new` accepts a text exactly when these hold, and gives the label that holds it
abbrev pub LabelExactly : Type 0
LabelExactly = (text : List ℕ) (label : Label) → (label_new text ≡ Ok label) ↔ (LabelHolds text × (label ≡ label_of text))

-- ---- roots

-- section 3, READING-RULES 6.2: a tree's reference, on a volume of so many blocks: it isn't newer than the root
pub record TreeHolds (reference : TreeRef) (generation blocks : ℕ) : Type 0 where
  pub reference_holds : TreeRefHolds reference blocks
  pub not_newer : reference.generation ≤ generation

-- section 3: what holds of an accepted root
pub record RootHolds (s : List ℕ) (slot blocks : ℕ) : Type 0 where
  -- where it stands
  pub size : length s ≡ 4096
  pub geometry : 1024 ≤ blocks
  pub place : (slot ≡ 256) ⊎ (slot ≡ blocks - 257)
  -- what it is
  pub checksum : u32_at s 4092 ≡ crc32c_with_zero s 4092 4096
  -- `CFSXROOT`
  pub magic_is : part s 0 8 ≡ 0x43 ∷ 0x46 ∷ 0x53 ∷ 0x58 ∷ 0x52 ∷ 0x4F ∷ 0x4F ∷ 0x54 ∷ []
  pub revision : u32_at s 8 ≡ 1
  pub record_bytes : u32_at s 12 ≡ 4096
  pub allocation_bytes : u32_at s 16 ≡ 4096
  pub unit_bytes : u32_at s 20 ≡ 65536
  -- its label, or none, and zeros after it
  pub label_most : u16_at s 184 ≤ 255
  pub padding : part s (186 + u16_at s 184) (4092 - (186 + u16_at s 184)) ≡ replicate (4092 - (186 + u16_at s 184)) 0
  pub label : (u16_at s 184 ≡ 0) ⊎ LabelHolds (part s 186 (u16_at s 184))
  -- what this reader supports, and the reserve
  pub features : u64_at s 128 ≡ 0
  pub profile : u32_at s 136 ≡ 2
  pub state : u32_at s 140 ≡ 0
  pub reserve : u64_at s 144 ≡ 16384
  -- the root's own slot, its volume and its generation
  pub self_block : u64_at s 40 ≡ slot
  pub own_blocks : u64_at s 56 ≡ blocks
  pub uuid : part s 24 16 ≡ replicate 16 0 → ⊥
  pub generation : 1 ≤ u64_at s 48
  -- the three trees, in three blocks
  pub catalog : TreeHolds (ref_at s 64) (u64_at s 48) blocks
  pub allocation : TreeHolds (ref_at s 80) (u64_at s 48) blocks
  pub cleanup : TreeHolds (ref_at s 96) (u64_at s 48) blocks
  pub catalog_allocation : u64_at s 64 ≡ u64_at s 80 → ⊥
  pub catalog_cleanup : u64_at s 64 ≡ u64_at s 96 → ⊥
  pub allocation_cleanup : u64_at s 80 ≡ u64_at s 96 → ⊥
  -- the workspace: a bank root, a generation from 1 to the root's, and a cursor at a group of the volume
  pub workspace : (u64_at s 160 ≡ 32) ⊎ (u64_at s 160 ≡ blocks - 96)
  pub workspace_generation_least : 1 ≤ u64_at s 168
  pub workspace_not_newer : u64_at s 168 ≤ u64_at s 48
  pub cursor : 16384 * u64_at s 176 < blocks
  -- the numbers; three trees have three blocks, so B - 1,027 never goes below 0
  pub next_object_least : 2 ≤ u64_at s 112
  pub next_object_most : u64_at s 112 ≤ 2 ^ 63 - 1
  pub next_job_least : 1 ≤ u64_at s 152
  pub next_job_most : u64_at s 152 ≤ 2 ^ 63 - 1
  pub free : u64_at s 120 + 1027 ≤ blocks

-- `Root::decode` accepts a block exactly when these hold, and gives the root that stands in it
abbrev pub RootExactly : Type 0
RootExactly = (s : List ℕ) (slot blocks : ℕ) (root : Root) → (root_decode s slot blocks ≡ Ok root) ↔ (RootHolds s slot blocks × (root ≡ root_of s))

-- section 3: the reference that stands at an offset: its block, then its generation
pub record RefStands (s : List ℕ) (offset : ℕ) (reference : TreeRef) : Type 0 where
  pub block : reference.block ≡ u64_at s offset
  pub generation : reference.generation ≡ u64_at s (offset + 8)

-- section 3: no label where its length is 0, else one of that length, its text from byte 186 on, and zeros after it
abbrev pub LabelStands : List ℕ → Option Label → Type 0
LabelStands s None = u16_at s 184 ≡ 0
LabelStands s (Some label) = (1 ≤ u16_at s 184) × (label.len ≡ u16_at s 184) × (label.bytes ≡ part s 186 (u16_at s 184) ++ replicate (255 - u16_at s 184) 0)

-- section 3: what is answered of a root: each field as it stands in the block
pub record RootStates (s : List ℕ) (root : Root) : Type 0 where
  pub label : LabelStands s root.label
  pub uuid : root.uuid ≡ part s 24 16
  pub generation : root.generation ≡ u64_at s 48
  pub blocks : root.blocks ≡ u64_at s 56
  pub catalog : RefStands s 64 root.catalog
  pub allocation : RefStands s 80 root.allocation
  pub cleanup : RefStands s 96 root.cleanup
  pub next_object : root.next_object ≡ u64_at s 112
  pub free_blocks : root.free_blocks ≡ u64_at s 120
  pub next_job : root.next_job ≡ u64_at s 152
  pub workspace : RefStands s 160 root.workspace
  pub workspace_cursor : root.workspace_cursor ≡ u64_at s 176

-- `Root::decode` answers what stands in the block
abbrev pub RootTold : Type 0
RootTold = (s : List ℕ) (slot blocks : ℕ) (root : Root) → root_decode s slot blocks ≡ Ok root → RootStates s root
