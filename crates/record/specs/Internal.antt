-- Records of internal pages (01, section 5: field rules are the Rust's, here those of `validate_internal_record`): a key of the tree's kind, and a reference to a page.
use Rattle.std.specs.Prelude.{ℕ, not, ◌&&◌, ◌||◌, cond, List, [], ◌∷◌, leb, eqb, length}
use Rattle.error.specs.declared.Validation.{Validation}
use Rattle.error.specs.Answer.{Check}
use Rattle.std.specs.Prelude.{Result, Ok, Err}
use Rattle.error.specs.declared.Error.{Error}
use Rattle.error.specs.Answer.{Number}
use Rattle.error.specs.Answer.{class_of, reason_of, violation_of, number_check}
use Rattle.error.specs.Demand.{Demand, ◌otherwise◌, passing, outcome, demands}
use Rattle.error.specs.Reason as reason
use Rattle.volume.specs.declared.TreeRef.{TreeRef}
use Rattle.volume.specs.declared.TreeKind.{TreeKind}
use Rattle.volume.specs.Blocks.{is_nonreserved_block}
use Rattle.volume.specs.References.{ref_at, validate_page_ref}
use Rattle.catalog.specs.Keys.{validate_owner_id, validate_catalog_key}
use Rattle.record.specs.Allocation.{group_number, validate_group_index}
use Rattle.record.specs.Cleanup.{cleanup_kind, cleanup_number, cleanup_block}
use Rattle.record.specs.Workspace.{validate_workspace_key}

-- `validate_internal_record`, READING-RULES 14: what is asked of an allocation tree's key, in order
abbrev pub allocation_key_demands : List ℕ → ℕ → Validation → List Demand
allocation_key_demands key blocks mode =
    eqb (length key) 8 otherwise violation_of mode reason.invalid_allocation_internal_key
    ∷ passing (validate_group_index (group_number key) blocks reason.allocation_internal_key reason.allocation_internal_key_range mode)
    ∷ []

-- 01, "Return classes": the first that fails answers
unfoldable pub allocation_internal_key : List ℕ → ℕ → Validation → Check
allocation_internal_key key blocks mode = demands (allocation_key_demands key blocks mode)

-- `validate_internal_record`, READING-RULES 14: what is asked of a retirement's key, in order: a generation that isn't 0 and not above the page's, and a block that is not reserved
abbrev pub retirement_key_demands : ℕ → ℕ → ℕ → ℕ → Validation → List Demand
retirement_key_demands generation first blocks page_generation mode =
    (not (eqb generation 0) && leb generation page_generation) otherwise violation_of mode reason.invalid_retirement_generation
    ∷ is_nonreserved_block first blocks otherwise violation_of mode reason.invalid_retirement_block
    ∷ []

-- 01, "Return classes": the first that fails answers
unfoldable pub retirement_key : ℕ → ℕ → ℕ → ℕ → Validation → Check
retirement_key generation first blocks page_generation mode = demands (retirement_key_demands generation first blocks page_generation mode)

-- `validate_internal_record`, READING-RULES 14: a cleanup tree's key by its kind: 1 with 17 bytes, a retirement; 2 or 3 with 9, a job or an object; any other is refused
unfoldable pub cleanup_internal_key : List ℕ → ℕ → ℕ → Validation → Check
cleanup_internal_key key blocks page_generation mode =
    cond (eqb (cleanup_kind key) 1 && eqb (length key) 17) (retirement_key (cleanup_number key) (cleanup_block key) blocks page_generation mode)
    (cond ((eqb (cleanup_kind key) 2 || eqb (cleanup_kind key) 3) && eqb (length key) 9) (validate_owner_id (cleanup_number key) mode)
    (Err (violation_of mode reason.invalid_cleanup_internal_key)))

-- `validate_internal_record`, READING-RULES 14: a key by its tree's kind
unfoldable pub internal_key : TreeKind → List ℕ → ℕ → ℕ → Validation → Check
internal_key TreeKind.Catalog key blocks page_generation mode = number_check (validate_catalog_key key mode)
internal_key TreeKind.Allocation key blocks page_generation mode = allocation_internal_key key blocks mode
internal_key TreeKind.Cleanup key blocks page_generation mode = cleanup_internal_key key blocks page_generation mode
internal_key TreeKind.Workspace key blocks page_generation mode = validate_workspace_key key blocks mode

-- `validate_internal_record`, READING-RULES 14: the value is the child's reference
abbrev pub child_ref : List ℕ → TreeRef
child_ref value = ref_at value 0

-- `validate_internal_record`, READING-RULES 14: what is asked of the child, in order: a reference to a page of the tree, whose generation is not above the page's
abbrev pub child_demands : TreeRef → TreeKind → ℕ → ℕ → Validation → List Demand
child_demands reference kind blocks page_generation mode =
    passing (validate_page_ref reference kind blocks mode)
    ∷ leb reference.generation page_generation otherwise violation_of mode reason.child_generation_is_newer_than_parent
    ∷ []

-- `validate_internal_record`, READING-RULES 14: what is asked of an internal record, in order: its key, its value's 16 bytes, and the child
abbrev pub internal_demands : TreeKind → List ℕ → List ℕ → ℕ → ℕ → Validation → List Demand
internal_demands kind key value blocks page_generation mode =
    passing (internal_key kind key blocks page_generation mode)
    ∷ eqb (length value) 16 otherwise violation_of mode reason.internal_value_is_not_a_tree_reference
    ∷ child_demands (child_ref value) kind blocks page_generation mode

-- the answer of an internal record: the page that it names, or a refusal
abbrev pub Child : Type 0
Child = Result TreeRef Error

-- 01, "Return classes": the first that fails answers; else the child's reference
unfoldable pub validate_internal_record : TreeKind → List ℕ → List ℕ → ℕ → ℕ → Validation → Child
validate_internal_record kind key value blocks page_generation mode = outcome (internal_demands kind key value blocks page_generation mode) (Ok (child_ref value))

-- 01, "Return classes": class, reason, block and generation of the page that the record names
unfoldable pub child_words : Child → List ℕ
child_words (Ok reference) = 0 ∷ 0 ∷ reference.block ∷ reference.generation ∷ []
child_words (Err e) = class_of e ∷ reason_of e ∷ 0 ∷ 0 ∷ []

-- that answer, as that of a check that gives a number: the block of the page that the record names
abbrev pub child_block : Child → Number
child_block (Ok reference) = Ok reference.block
child_block (Err e) = Err e
