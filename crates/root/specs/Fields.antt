-- The rules of a root's fields (01, section 3: `validate_root_fields`), in the Rust's order.
use Rattle.std.specs.Prelude.{ℕ, ◌-◌, ◌^◌, Bool, not, ◌&&◌, List, [], ◌∷◌, leb, ltb, eqb}
use Rattle.error.specs.declared.Validation.{Validation}
use Rattle.error.specs.Answer.{Check}
use Rattle.error.specs.Answer.{violation_of}
use Rattle.error.specs.Demand.{Demand, ◌otherwise◌, passing, demands}
use Rattle.error.specs.Reason as reason
use Rattle.volume.specs.Blocks.{is_bank_root}
use Rattle.volume.specs.Groups.{groups_of}
use Rattle.volume.specs.References.{validate_blocks, validate_root_slot, validate_uuid, validate_tree_ref, validate_page_ref}
use Rattle.volume.specs.declared.TreeKind.{TreeKind}
use Rattle.root.specs.declared.Root.{Root}

-- `MAX_ID`: the next number when none is left, one above the last owner number (01, section 5)
abbrev pub max_id : ℕ
max_id = 2 ^ 63 - 1

-- `validate_root_fields`, READING-RULES 6.2: the volume and the slot, the UUID, the generation and the blocks, and the workspace cursor
abbrev pub general_demands : Root → ℕ → ℕ → Validation → List Demand
general_demands r slot blocks mode =
    passing (validate_blocks blocks mode)
    ∷ passing (validate_root_slot slot blocks mode)
    ∷ passing (validate_uuid r.uuid mode)
    ∷ (not (eqb r.generation 0) && eqb r.blocks blocks) otherwise violation_of mode reason.invalid_root_generation_or_geometry
    ∷ ltb r.workspace_cursor (groups_of blocks) otherwise violation_of mode reason.workspace_scan_cursor_exceeds_geometry
    ∷ []

-- 01, "Return classes": the first that fails answers
unfoldable pub check_general : Root → ℕ → ℕ → Validation → Check
check_general r slot blocks mode = demands (general_demands r slot blocks mode)

-- `validate_root_fields`, READING-RULES 6.2: the references of the three trees, each by itself
abbrev pub refs_demands : Root → ℕ → Validation → List Demand
refs_demands r blocks mode =
    passing (validate_tree_ref r.catalog blocks mode)
    ∷ passing (validate_tree_ref r.allocation blocks mode)
    ∷ passing (validate_tree_ref r.cleanup blocks mode)
    ∷ []

-- 01, "Return classes": the first that fails answers
unfoldable pub check_refs : Root → ℕ → Validation → Check
check_refs r blocks mode = demands (refs_demands r blocks mode)

-- `validate_root_fields`, READING-RULES 6.2: the workspace's reference names a bank root, and is not newer than the root
abbrev pub workspace_demands : Root → ℕ → Validation → List Demand
workspace_demands r blocks mode =
    passing (validate_page_ref r.workspace TreeKind.Workspace blocks mode)
    ∷ (is_bank_root r.workspace.block blocks && leb r.workspace.generation r.generation) otherwise violation_of mode reason.invalid_workspace_root
    ∷ []

-- 01, "Return classes": the first that fails answers
unfoldable pub check_workspace : Root → ℕ → Validation → Check
check_workspace r blocks mode = demands (workspace_demands r blocks mode)

-- three distinct numbers
abbrev pub are_apart : ℕ → ℕ → ℕ → Bool
are_apart a b c = not (eqb a b) && not (eqb a c) && not (eqb b c)

-- none is above a limit
abbrev pub are_up_to : ℕ → ℕ → ℕ → ℕ → Bool
are_up_to a b c limit = leb a limit && leb b limit && leb c limit

-- `validate_root_fields`, READING-RULES 6.2: the three trees together: three distinct blocks, none newer than the root
abbrev pub trees_demands : Root → Validation → List Demand
trees_demands r mode =
    are_apart r.catalog.block r.allocation.block r.cleanup.block otherwise violation_of mode reason.root_tree_references_share_a_block
    ∷ are_up_to r.catalog.generation r.allocation.generation r.cleanup.generation r.generation otherwise violation_of mode reason.root_tree_generation_is_newer_than_root
    ∷ []

-- 01, "Return classes": the first that fails answers
unfoldable pub check_trees : Root → Validation → Check
check_trees r mode = demands (trees_demands r mode)

-- `validate_root_fields`, READING-RULES 6.2: next object 2..2^63 - 1, next job 1..2^63 - 1, and at most B - 1,027 free blocks: all but the reserved ones and one block for each of the three trees
abbrev pub numbers_demands : Root → ℕ → Validation → List Demand
numbers_demands r blocks mode =
    (leb 2 r.next_object && leb r.next_object max_id) otherwise violation_of mode reason.invalid_next_object_id
    ∷ (leb 1 r.next_job && leb r.next_job max_id) otherwise violation_of mode reason.invalid_next_cleanup_job_id
    ∷ leb r.free_blocks (blocks - 1027) otherwise violation_of mode reason.free_block_count_exceeds_geometry
    ∷ []

-- 01, "Return classes": the first that fails answers
unfoldable pub check_numbers : Root → ℕ → Validation → Check
check_numbers r blocks mode = demands (numbers_demands r blocks mode)

-- `validate_root_fields`, READING-RULES 6.2: all checks of a root's fields, group by group, in order
abbrev pub field_demands : Root → ℕ → ℕ → Validation → List Demand
field_demands r slot blocks mode =
    passing (check_general r slot blocks mode)
    ∷ passing (check_refs r blocks mode)
    ∷ passing (check_workspace r blocks mode)
    ∷ passing (check_trees r mode)
    ∷ passing (check_numbers r blocks mode)
    ∷ []

-- 01, "Return classes": the first that fails answers
unfoldable pub validate_root_fields : Root → ℕ → ℕ → Validation → Check
validate_root_fields r slot blocks mode = demands (field_demands r slot blocks mode)
