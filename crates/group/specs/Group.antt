-- Checksum groups (01, section 6): 32 bitmap bytes, then up to 256 words of four bytes.
use Rattle.std.specs.Prelude.{ℕ, ◌+◌, ◌-◌, ◌*◌, ◌/◌, ◌%◌, ◌^◌, Bool, not, ◌&&◌, ◌||◌, cond, List, [], ◌∷◌, ltb, leb, eqb, length, Some, None, Ok}
use Rattle.error.specs.declared.Error.TheVariants.{Corrupt}
use Rattle.error.specs.declared.Validation.{Validation}
use Rattle.error.specs.Answer.{Check}
use Rattle.error.specs.Answer.{violation_of}
use Rattle.error.specs.Demand.{Demand, ◌otherwise◌, outcome, demands}
use Rattle.error.specs.Reason as reason
use Rattle.octets.specs.Below.{every, through}
use Rattle.octets.specs.Bytes.{bit_set, padded_to}
use Rattle.octets.specs.Number.{u32_at, big_at, within}
use Rattle.group.specs.Slots.{Slot}

-- 01, section 6: slot s is present if bit s % 8 of byte s / 8 is set
abbrev pub present : List ℕ → ℕ → Bool
present g s = bit_set g s

-- 01, "What demand 3 compares": its word is the u32 at 32 + 4 s
abbrev pub word : List ℕ → ℕ → ℕ
word g s = u32_at g (32 + 4 * s)

-- 01, section 6: the slots of a stored group: through the last present one
unfoldable pub stored_slots : List ℕ → ℕ
stored_slots g = through (present g) 256

-- 01, section 6: how many bytes a stored group has: the bitmap and the words of those slots
abbrev pub stored_bytes : List ℕ → ℕ
stored_bytes g = 32 + 4 * stored_slots g

-- `checksum_slot`, READING-RULES 10: there are 256 slots, the bitmap is whole, and a present slot's word lies within the group
abbrev pub slot_demands : List ℕ → ℕ → List Demand
slot_demands g s =
    (ltb s 256 && leb 32 (length g)) otherwise Corrupt reason.checksum_group_slot
    ∷ (not (present g s) || within g (32 + 4 * s) 4) otherwise Corrupt reason.checksum_group_slot
    ∷ []

-- 01, "Return classes": the first that fails answers; else the word of a present slot, or that it is a hole
unfoldable pub checksum_slot : List ℕ → ℕ → Slot
checksum_slot g s = outcome (slot_demands g s) (Ok (cond (present g s) (Some (word g s)) None))

-- `compact_group`: how many bytes of the group's front: those of its stored form; of another length than 1,056 none
unfoldable pub compact_bytes : List ℕ → ℕ
compact_bytes g = cond (eqb (length g) 1056) (stored_bytes g) 0

-- `expand_group`: the bytes lent, at most the first 1,056, then zeros
abbrev pub expand_group : List ℕ → List ℕ
expand_group value = padded_to 1056 value

-- `validate_checksum_group`, READING-RULES 10: a whole bitmap, then 1 to 256 whole words
unfoldable pub right_size : ℕ → Bool
right_size n = leb 36 n && leb n 1056 && eqb ((n - 32) % 4) 0

-- 01, section 6: a stored group ends at its last present slot
unfoldable pub is_compact : List ℕ → Bool
is_compact value = eqb (length value) (stored_bytes value)

-- 01, section 6: a slot is present, or its word is 0
abbrev pub hole_zero : List ℕ → ℕ → Bool
hole_zero g s = present g s || eqb (word g s) 0

-- 01, section 6: a stored group holds zero in each hole
unfoldable pub holes_zero : List ℕ → Bool
holes_zero value = every (hole_zero value) (stored_slots value)

-- `MAX_CHECKSUM_GROUP`: the largest index of a group: a file has 2^63 - 1 bytes at most, a group 256 units of 65,536
abbrev pub max_checksum_group : ℕ
max_checksum_group = (2 ^ 63 - 1) / (256 * 65536)

-- `validate_checksum_group`, READING-RULES 10: what is asked of a group, in order; a key under 17 bytes is refused before the value is looked at (01, section 5)
abbrev pub group_demands : List ℕ → List ℕ → Validation → List Demand
group_demands key value mode =
    leb 17 (length key) otherwise violation_of mode reason.invalid_catalog_key
    ∷ (leb (big_at key 9) max_checksum_group && right_size (length value)) otherwise violation_of mode reason.invalid_checksum_group
    ∷ is_compact value otherwise violation_of mode reason.checksum_group_is_not_compact
    ∷ holes_zero value otherwise violation_of mode reason.hole_checksum_is_nonzero
    ∷ []

-- 01, "Return classes": the first that fails answers
unfoldable pub validate_checksum_group : List ℕ → List ℕ → Validation → Check
validate_checksum_group key value mode = demands (group_demands key value mode)
