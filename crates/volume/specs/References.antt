-- The checks of block counts, references, slots and UUIDs (01, section 2, for block counts and slots, READING-RULES 5.2 and 6.2 for references and UUIDs, in the order of the Rust's `validate_page_ref` and its like).
use Rattle.std.specs.Prelude.{ℕ, ◌+◌, Bool, not, ◌&&◌, cond, List, [], ◌∷◌, leb, eqb}
use Rattle.error.specs.declared.Validation.{Validation}
use Rattle.error.specs.Answer.{Check}
use Rattle.error.specs.Answer.{violation_of}
use Rattle.error.specs.Demand.{Demand, ◌otherwise◌, passing, demands}
use Rattle.error.specs.Reason as reason
use Rattle.octets.specs.Bytes.{all_zero}
use Rattle.octets.specs.Number.{u64_at}
use Rattle.volume.specs.Blocks.{is_nonreserved_block, is_bank_block, is_root_slot}
use Rattle.volume.specs.declared.TreeRef.{TreeRef}
use Rattle.volume.specs.declared.TreeKind.{TreeKind}

-- 01, section 4: tree kind 1 catalog, 2 allocation, 3 cleanup, 4 workspace
abbrev pub tree_kind_value : TreeKind → ℕ
tree_kind_value TreeKind.Catalog = 1
tree_kind_value TreeKind.Allocation = 2
tree_kind_value TreeKind.Cleanup = 3
tree_kind_value TreeKind.Workspace = 4

-- 01, section 4: tree kinds are numbered 1 to 4
abbrev pub is_tree_kind_value : ℕ → Bool
is_tree_kind_value n = leb 1 n && leb n 4

-- 01, section 4: the tree kind of a number from 1 to 4; of any other it is the workspace, and callers test first
unfoldable pub tree_kind_of : ℕ → TreeKind
tree_kind_of n = cond (eqb n 1) TreeKind.Catalog (cond (eqb n 2) TreeKind.Allocation (cond (eqb n 3) TreeKind.Cleanup TreeKind.Workspace))

-- 01, section 3: a stored reference is block u64, generation u64
abbrev pub ref_at : List ℕ → ℕ → TreeRef
ref_at s offset = record { block = u64_at s offset; generation = u64_at s (offset + 8) }

-- 01, section 2: B is at least 1,024
abbrev pub blocks_demands : ℕ → Validation → List Demand
blocks_demands blocks mode = leb 1024 blocks otherwise violation_of mode reason.device_has_no_usable_block_range ∷ []

-- 01, "Return classes": the first that fails answers
unfoldable pub validate_blocks : ℕ → Validation → Check
validate_blocks blocks mode = demands (blocks_demands blocks mode)

-- READING-RULES 5.2: B is at least 1,024; a reference names a generation, and its block lies where pages of its tree do
abbrev pub ref_demands : TreeRef → ℕ → Validation → Bool → ℕ → List Demand
ref_demands reference blocks mode lies why =
    passing (validate_blocks blocks mode)
    ∷ (not (eqb reference.generation 0) && lies) otherwise violation_of mode why
    ∷ []

-- `validate_tree_ref`, READING-RULES 5.2: it names a block that is not reserved
abbrev pub tree_ref_demands : TreeRef → ℕ → Validation → List Demand
tree_ref_demands reference blocks mode = ref_demands reference blocks mode (is_nonreserved_block reference.block blocks) reason.invalid_tree_reference

-- 01, "Return classes": the first that fails answers
unfoldable pub validate_tree_ref : TreeRef → ℕ → Validation → Check
validate_tree_ref reference blocks mode = demands (tree_ref_demands reference blocks mode)

-- `validate_page_ref`, READING-RULES 5.2: a reference to a page of the workspace names a bank block
abbrev pub workspace_ref_demands : TreeRef → ℕ → Validation → List Demand
workspace_ref_demands reference blocks mode = ref_demands reference blocks mode (is_bank_block reference.block blocks) reason.invalid_workspace_page_reference

-- 01, "Return classes": the first that fails answers
unfoldable pub validate_workspace_ref : TreeRef → ℕ → Validation → Check
validate_workspace_ref reference blocks mode = demands (workspace_ref_demands reference blocks mode)

-- `validate_page_ref`, READING-RULES 5.2: pages of the workspace lie in the banks, those of the other trees outside the reserved blocks
abbrev pub validate_page_ref : TreeRef → TreeKind → ℕ → Validation → Check
validate_page_ref reference TreeKind.Catalog blocks mode = validate_tree_ref reference blocks mode
validate_page_ref reference TreeKind.Allocation blocks mode = validate_tree_ref reference blocks mode
validate_page_ref reference TreeKind.Cleanup blocks mode = validate_tree_ref reference blocks mode
validate_page_ref reference TreeKind.Workspace blocks mode = validate_workspace_ref reference blocks mode

-- 01, section 2: B is at least 1,024; a root stands in one of the two slots
abbrev pub root_slot_demands : ℕ → ℕ → Validation → List Demand
root_slot_demands slot blocks mode =
    passing (validate_blocks blocks mode)
    ∷ is_root_slot slot blocks otherwise violation_of mode reason.invalid_root_slot
    ∷ []

-- 01, "Return classes": the first that fails answers
unfoldable pub validate_root_slot : ℕ → ℕ → Validation → Check
validate_root_slot slot blocks mode = demands (root_slot_demands slot blocks mode)

-- `validate_uuid`, READING-RULES 6.2: a UUID is not all zeros
abbrev pub uuid_demands : List ℕ → Validation → List Demand
uuid_demands uuid mode = not (all_zero uuid) otherwise violation_of mode reason.zero_volume_uuid ∷ []

-- 01, "Return classes": the first that fails answers
unfoldable pub validate_uuid : List ℕ → Validation → Check
validate_uuid uuid mode = demands (uuid_demands uuid mode)
