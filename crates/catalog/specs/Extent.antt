-- Extents (01, section 5: field rules are the Rust's, here those of `validate_extent`).
use Rattle.std.specs.Prelude.{Ok}
use Rattle.std.specs.Prelude.{ℕ, ◌+◌, ◌^◌, Bool, not, ◌&&◌, List, [], ◌∷◌, leb, eqb, length}
use Rattle.error.specs.declared.Validation.{Validation}
use Rattle.error.specs.Answer.{Number}
use Rattle.error.specs.Answer.{violation_of}
use Rattle.error.specs.Demand.{Demand, ◌otherwise◌, outcome}
use Rattle.error.specs.Reason as reason
use Rattle.octets.specs.Number.{u32_at, u64_at}
use Rattle.volume.specs.Numbers.{sum_fits}
use Rattle.volume.specs.Blocks.{is_nonreserved_run}
use Rattle.catalog.specs.Keys.{key_number}

-- `validate_extent`, READING-RULES 9.4: u64 at 9 of the key, big-endian, its first logical block
abbrev pub extent_logical : List ℕ → ℕ
extent_logical key = key_number key

-- `validate_extent`, READING-RULES 9.4: u64 at 0, its first block in the volume
abbrev pub extent_physical : List ℕ → ℕ
extent_physical value = u64_at value 0

-- `validate_extent`, READING-RULES 9.4: u32 at 8, how many blocks it has
abbrev pub extent_count : List ℕ → ℕ
extent_count value = u32_at value 8

-- `validate_extent`, READING-RULES 9.4: u32 at 12, reserved
abbrev pub extent_reserved : List ℕ → ℕ
extent_reserved value = u32_at value 12

-- `validate_extent`, READING-RULES 9.4: a count that isn't 0, a reserved field of 0, a logical end of at most 2^51 (01, section 5), a first block that is non-reserved, and an end by B - 512
unfoldable pub is_extent_range : ℕ → ℕ → ℕ → ℕ → ℕ → Bool
is_extent_range logical physical count reserved blocks =
    not (eqb count 0) && eqb reserved 0 && leb (logical + count) (2 ^ 51) && is_nonreserved_run physical count blocks

-- `validate_extent`, READING-RULES 9.4: what is asked of an extent's numbers, in order: both ends fit 64 bits, and the range is right
abbrev pub extent_range_demands : ℕ → ℕ → ℕ → ℕ → ℕ → Validation → List Demand
extent_range_demands logical physical count reserved blocks mode =
    sum_fits physical count otherwise violation_of mode reason.extent_physical_range
    ∷ sum_fits logical count otherwise violation_of mode reason.extent_logical_range
    ∷ is_extent_range logical physical count reserved blocks otherwise violation_of mode reason.invalid_extent_range
    ∷ []

-- `validate_extent`, READING-RULES 9.4: what is asked of an extent, in order; a key under 17 bytes is an invalid catalog key, before the value is looked at (01, section 5)
abbrev pub extent_demands : List ℕ → List ℕ → ℕ → Validation → List Demand
extent_demands key value blocks mode =
    leb 17 (length key) otherwise violation_of mode reason.invalid_catalog_key
    ∷ eqb (length value) 16 otherwise violation_of mode reason.invalid_extent_length
    ∷ extent_range_demands (extent_logical key) (extent_physical value) (extent_count value) (extent_reserved value) blocks mode

-- 01, "Return classes": the first that fails answers; else the count of its blocks
unfoldable pub validate_extent : List ℕ → List ℕ → ℕ → Validation → Number
validate_extent key value blocks mode = outcome (extent_demands key value blocks mode) (Ok (extent_count value))
