-- Records of the cleanup tree (01, section 5: field rules are the Rust's, here those of `validate_cleanup_key_value`): retired runs of blocks (1), detached trees (2), orphans (3).
use Rattle.std.specs.Prelude.{ℕ, Bool, not, ◌&&◌, ◌||◌, cond, List, [], ◌∷◌, ◌++◌, leb, eqb, length}
use Rattle.error.specs.declared.Validation.{Validation}
use Rattle.error.specs.Answer.{Check}
use Rattle.std.specs.Prelude.{Err}
use Rattle.error.specs.Answer.{violation_of}
use Rattle.error.specs.Demand.{Demand, ◌otherwise◌, passing, demands}
use Rattle.error.specs.Reason as reason
use Rattle.octets.specs.Bytes.{byte_at, part, all_zero}
use Rattle.octets.specs.Number.{u32_at, u64_at, big_at}
use Rattle.volume.specs.declared.TreeRef.{TreeRef}
use Rattle.volume.specs.References.{ref_at, validate_tree_ref}
use Rattle.volume.specs.Numbers.{sum_fits}
use Rattle.volume.specs.Blocks.{is_nonreserved_run}
use Rattle.catalog.specs.Keys.{validate_owner_id}

-- `validate_cleanup_key_value`, READING-RULES 12.1: byte 0 of the key, the record's kind
abbrev pub cleanup_kind : List ℕ → ℕ
cleanup_kind key = byte_at key 0

-- `validate_cleanup_key_value`, READING-RULES 12.1: u64 at 1 of the key, big-endian, a generation, a job or an object
abbrev pub cleanup_number : List ℕ → ℕ
cleanup_number key = big_at key 1

-- `validate_cleanup_key_value`, READING-RULES 12.1: u64 at 9 of the key, big-endian, a retirement's first block
abbrev pub cleanup_block : List ℕ → ℕ
cleanup_block key = big_at key 9

-- `validate_cleanup_key_value`, READING-RULES 12.2: a generation that isn't 0 and not above the page's, a count that isn't 0, a reserved field of 0, and a run of non-reserved blocks
unfoldable pub is_retirement_range : ℕ → ℕ → ℕ → ℕ → ℕ → ℕ → Bool
is_retirement_range generation first count reserved blocks page_generation =
    not (eqb generation 0) && leb generation page_generation && not (eqb count 0) && eqb reserved 0 && is_nonreserved_run first count blocks

-- `validate_cleanup_key_value`, READING-RULES 12.2: what is asked of a retirement's numbers, in order
abbrev pub retirement_range_demands : ℕ → ℕ → ℕ → ℕ → ℕ → ℕ → Validation → List Demand
retirement_range_demands generation first count reserved blocks page_generation mode =
    sum_fits first count otherwise violation_of mode reason.retirement_range
    ∷ is_retirement_range generation first count reserved blocks page_generation otherwise violation_of mode reason.invalid_retirement_range
    ∷ []

-- `validate_cleanup_key_value`, READING-RULES 12.2: what is asked of a retirement, in order; its count is the u32 at 0, its reserved field the u32 at 4
abbrev pub retirement_demands : List ℕ → List ℕ → ℕ → ℕ → Validation → List Demand
retirement_demands key value blocks page_generation mode =
    (eqb (length key) 17 && eqb (length value) 8) otherwise violation_of mode reason.invalid_retirement_record
    ∷ retirement_range_demands (cleanup_number key) (cleanup_block key) (u32_at value 0) (u32_at value 4) blocks page_generation mode

-- 01, "Return classes": the first that fails answers
unfoldable pub validate_retirement : List ℕ → List ℕ → ℕ → ℕ → Validation → Check
validate_retirement key value blocks page_generation mode = demands (retirement_demands key value blocks page_generation mode)

-- `validate_cleanup_key_value`, READING-RULES 12.2: bytes 8 and 9, a detached tree's low and high kind, are 1 to 4 and low not above high, and six zeros follow
unfoldable pub is_kind_range : List ℕ → Bool
is_kind_range value =
    leb 1 (byte_at value 8) && leb (byte_at value 8) 4 && (leb 1 (byte_at value 9) && leb (byte_at value 9) 4)
    && leb (byte_at value 8) (byte_at value 9) && all_zero (part value 10 6)

-- `validate_cleanup_key_value`, READING-RULES 12.2: a detached tree's job, in the key, and its owner, the u64 at 0, are owner numbers
abbrev pub detached_owner_demands : List ℕ → List ℕ → Validation → List Demand
detached_owner_demands key value mode =
    passing (validate_owner_id (cleanup_number key) mode)
    ∷ passing (validate_owner_id (u64_at value 0) mode)
    ∷ []

-- `validate_cleanup_key_value`, READING-RULES 12.2: a reference to a tree, whose generation is not above the page's
abbrev pub not_newer_demands : TreeRef → ℕ → ℕ → Validation → List Demand
not_newer_demands reference blocks page_generation mode =
    passing (validate_tree_ref reference blocks mode)
    ∷ leb reference.generation page_generation otherwise violation_of mode reason.detached_tree_reference_is_newer
    ∷ []

-- `validate_cleanup_key_value`, READING-RULES 12.2: what is asked of a detached tree, in order: the lengths, job and owner, the kinds, and the reference at 16
abbrev pub detached_tree_demands : List ℕ → List ℕ → ℕ → ℕ → Validation → List Demand
detached_tree_demands key value blocks page_generation mode =
    (eqb (length key) 9 && eqb (length value) 32) otherwise violation_of mode reason.invalid_detached_tree_job
    ∷ detached_owner_demands key value mode
    ++ (is_kind_range value otherwise violation_of mode reason.invalid_detached_tree_kind_range ∷ not_newer_demands (ref_at value 16) blocks page_generation mode)

-- 01, "Return classes": the first that fails answers
unfoldable pub validate_detached_tree : List ℕ → List ℕ → ℕ → ℕ → Validation → Check
validate_detached_tree key value blocks page_generation mode = demands (detached_tree_demands key value blocks page_generation mode)

-- `validate_cleanup_key_value`, READING-RULES 12.2: what is asked of an orphan marker, in order: a key of 9 bytes and no value, and the object in the key
abbrev pub orphan_marker_demands : List ℕ → List ℕ → Validation → List Demand
orphan_marker_demands key value mode =
    (eqb (length key) 9 && eqb (length value) 0) otherwise violation_of mode reason.invalid_orphan_marker
    ∷ passing (validate_owner_id (cleanup_number key) mode)
    ∷ []

-- 01, "Return classes": the first that fails answers
unfoldable pub validate_orphan_marker : List ℕ → List ℕ → Validation → Check
validate_orphan_marker key value mode = demands (orphan_marker_demands key value mode)

-- `validate_cleanup_key_value`, READING-RULES 12.2: a record by its kind: 1 retirement, 2 detached tree, 3 orphan marker; any other is refused
unfoldable pub cleanup_record : List ℕ → List ℕ → ℕ → ℕ → Validation → Check
cleanup_record key value blocks page_generation mode =
    cond (eqb (cleanup_kind key) 1) (validate_retirement key value blocks page_generation mode)
    (cond (eqb (cleanup_kind key) 2) (validate_detached_tree key value blocks page_generation mode)
    (cond (eqb (cleanup_kind key) 3) (validate_orphan_marker key value mode)
    (Err (violation_of mode reason.unknown_cleanup_record_kind))))

-- `validate_cleanup_key_value`, READING-RULES 12.1: a key has 9 or 17 bytes
abbrev pub is_cleanup_length : ℕ → Bool
is_cleanup_length n = eqb n 9 || eqb n 17

-- `validate_cleanup_key_value`, READING-RULES 12.1 and 12.2: what is asked of a cleanup record, in order
abbrev pub cleanup_demands : List ℕ → List ℕ → ℕ → ℕ → Validation → List Demand
cleanup_demands key value blocks page_generation mode =
    is_cleanup_length (length key) otherwise violation_of mode reason.invalid_cleanup_key_length
    ∷ passing (cleanup_record key value blocks page_generation mode)
    ∷ []

-- 01, "Return classes": the first that fails answers
unfoldable pub validate_cleanup_key_value : List ℕ → List ℕ → ℕ → ℕ → Validation → Check
validate_cleanup_key_value key value blocks page_generation mode = demands (cleanup_demands key value blocks page_generation mode)
