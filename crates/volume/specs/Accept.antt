-- What the checks of block counts, references, slots and UUIDs accept, which blocks the tests of blocks take, and which numbers are groups' (01, section 2; READING-RULES 5.2, 5.3 and 6.2), as plain conditions: no order of tests and no mode is in them.
use Rattle.std.specs.Prelude.{ℕ, ◌+◌, ◌-◌, ◌*◌, ◌≤◌, ◌<◌, ◌≡◌, ◌↔◌, ◌⊎◌, true, List, length, replicate, Ok}
use Rattle.error.specs.declared.Validation.{Validation}
use Rattle.volume.specs.declared.TreeRef.{TreeRef}
use Rattle.volume.specs.declared.TreeKind.{TreeKind}
use Rattle.volume.specs.Blocks.{is_nonreserved_block, is_bank_block, is_bank_root}
use Rattle.volume.specs.Groups.{groups_of}
use Rattle.volume.specs.References.{validate_blocks, validate_tree_ref, validate_page_ref, validate_root_slot, validate_uuid}

-- section 2: a non-reserved block, 512 up to but not including B - 512
pub record NonReserved (block blocks : ℕ) : Type 0 where
  pub low : 512 ≤ block
  pub high : block + 512 < blocks

-- READING-RULES 9.4, 12.2 and 13: so many blocks, one at least, from a first one on, all of them non-reserved
pub record NonReservedRun (first count blocks : ℕ) : Type 0 where
  pub count_least : 1 ≤ count
  pub low : 512 ≤ first
  pub high : first + count + 512 ≤ blocks

-- section 2: a bank block, 32 to 95 or B - 96 to B - 33, B being at least 1,024
pub record BankBlock (block blocks : ℕ) : Type 0 where
  pub geometry : 1024 ≤ blocks
  pub place : (32 ≤ block) × (block ≤ 95) ⊎ (blocks - 96 ≤ block) × (block ≤ blocks - 33)

-- READING-RULES 5.2: a reference to a tree names a generation and a non-reserved block
pub record TreeRefHolds (reference : TreeRef) (blocks : ℕ) : Type 0 where
  pub generation : 1 ≤ reference.generation
  pub block : NonReserved reference.block blocks

-- READING-RULES 5.2: the block of a page lies in the banks in the workspace, and is non-reserved in the other trees
abbrev pub PageLies : TreeKind → ℕ → ℕ → Type 0
PageLies TreeKind.Catalog block blocks = NonReserved block blocks
PageLies TreeKind.Allocation block blocks = NonReserved block blocks
PageLies TreeKind.Cleanup block blocks = NonReserved block blocks
PageLies TreeKind.Workspace block blocks = BankBlock block blocks

-- READING-RULES 5.2: a reference to a page names a generation and a block that lies right
pub record PageRefHolds (reference : TreeRef) (kind : TreeKind) (blocks : ℕ) : Type 0 where
  pub generation : 1 ≤ reference.generation
  pub block : PageLies kind reference.block blocks

-- section 2: a root's slot is 256 or B - 257, B being at least 1,024
pub record RootSlotHolds (slot blocks : ℕ) : Type 0 where
  pub geometry : 1024 ≤ blocks
  pub place : (slot ≡ 256) ⊎ (slot ≡ blocks - 257)

-- section 2, READING-RULES 5.2 and 6.2: each check accepts, and each test of a block holds, exactly when that holds, whatever the mode; a bank root is 32 or B - 96
pub record VolumeExactly : Type 0 where
  pub blocks : (blocks : ℕ) (mode : Validation) → (validate_blocks blocks mode ≡ Ok tt) ↔ (1024 ≤ blocks)
  pub nonreserved_block : (block blocks : ℕ) → (is_nonreserved_block block blocks ≡ true) ↔ NonReserved block blocks
  pub bank_block : (block blocks : ℕ) → (is_bank_block block blocks ≡ true) ↔ BankBlock block blocks
  pub bank_root : (block blocks : ℕ) → (is_bank_root block blocks ≡ true) ↔ ((1024 ≤ blocks) × ((block ≡ 32) ⊎ (block ≡ blocks - 96)))
  pub tree_ref : (reference : TreeRef) (blocks : ℕ) (mode : Validation) → (validate_tree_ref reference blocks mode ≡ Ok tt) ↔ TreeRefHolds reference blocks
  pub page_ref : (reference : TreeRef) (kind : TreeKind) (blocks : ℕ) (mode : Validation) → (validate_page_ref reference kind blocks mode ≡ Ok tt) ↔ PageRefHolds reference kind blocks
  pub root_slot : (slot blocks : ℕ) (mode : Validation) → (validate_root_slot slot blocks mode ≡ Ok tt) ↔ RootSlotHolds slot blocks
  pub uuid : (uuid : List ℕ) (mode : Validation) → (validate_uuid uuid mode ≡ Ok tt) ↔ (uuid ≡ replicate (length uuid) 0 → ⊥)
  -- READING-RULES 5.3: a number is that of a group exactly when the group's first block is one of the volume's
  pub groups : (group blocks : ℕ) → (group < groups_of blocks) ↔ (16384 * group < blocks)
