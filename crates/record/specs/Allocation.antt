-- Allocation groups (01, section 5: field rules are the Rust's, here those of `validate_allocation_group`): a bitmap of 16,384 blocks, a taken block's bit set.
use Rattle.std.specs.Prelude.{ℕ, ◌+◌, ◌-◌, ◌%◌, Bool, ◌&&◌, List, [], ◌∷◌, eqb, ltb, length}
use Rattle.error.specs.declared.Validation.{Validation}
use Rattle.error.specs.Answer.{Check}
use Rattle.error.specs.Answer.{violation_of, number_of}
use Rattle.error.specs.Demand.{Demand, ◌otherwise◌, passing, is_passed, demands}
use Rattle.error.specs.Reason as reason
use Rattle.octets.specs.Bytes.{bit_set}
use Rattle.octets.specs.Number.{big_at}
use Rattle.octets.specs.Below.{every}
use Rattle.volume.specs.declared.GroupBlocks.{GroupBlocks}
use Rattle.volume.specs.Groups.{allocation_group_blocks, allocation_group_count, reserved_group_blocks}

-- `validate_allocation_group`, READING-RULES 11: the number of a group is below the volume's count of groups; where blocks + 16,383 passes 64 bits, the mode's refusal takes the place of its class 3; the caller names both reasons
abbrev pub group_index_demands : ℕ → ℕ → ℕ → ℕ → Validation → List Demand
group_index_demands group blocks uncounted outside mode =
    is_passed (allocation_group_count blocks) otherwise violation_of mode uncounted
    ∷ ltb group (number_of (allocation_group_count blocks)) otherwise violation_of mode outside
    ∷ []

-- 01, "Return classes": the first that fails answers
unfoldable pub validate_group_index : ℕ → ℕ → ℕ → ℕ → Validation → Check
validate_group_index group blocks uncounted outside mode = demands (group_index_demands group blocks uncounted outside mode)

-- `validate_allocation_group`, READING-RULES 11: a block's bit is set in the bitmap of its group
abbrev pub block_taken : List ℕ → ℕ → Bool
block_taken value block = bit_set value (block % allocation_group_blocks)

-- each block from start up to but not including end is taken
unfoldable pub taken_between : List ℕ → ℕ → ℕ → Bool
taken_between value start end = every (λ i. block_taken value (start + i)) (end - start)

-- each block of two ranges is taken
abbrev pub all_taken : List ℕ → GroupBlocks → Bool
all_taken value ranges = taken_between value ranges.low_start ranges.low_end && taken_between value ranges.high_start ranges.high_end

-- `validate_allocation_group`, READING-RULES 11: the blocks of a group that can never be allocated are taken
unfoldable pub reserved_taken : List ℕ → ℕ → ℕ → Bool
reserved_taken value group blocks = all_taken value (reserved_group_blocks group blocks)

-- `validate_allocation_group`, READING-RULES 11: u64 at 0 of the key, big-endian, the group's number
abbrev pub group_number : List ℕ → ℕ
group_number key = big_at key 0

-- `validate_allocation_group`, READING-RULES 11: what is asked of a group, in order
abbrev pub allocation_group_demands : List ℕ → List ℕ → ℕ → Validation → List Demand
allocation_group_demands key value blocks mode =
    (eqb (length key) 8 && eqb (length value) 2048) otherwise violation_of mode reason.invalid_allocation_group
    ∷ passing (validate_group_index (group_number key) blocks reason.allocation_group_index reason.allocation_group_index_out_of_range mode)
    ∷ reserved_taken value (group_number key) blocks otherwise violation_of mode reason.reserved_allocation_bit_is_free
    ∷ []

-- 01, "Return classes": the first that fails answers
unfoldable pub validate_allocation_group : List ℕ → List ℕ → ℕ → Validation → Check
validate_allocation_group key value blocks mode = demands (allocation_group_demands key value blocks mode)
