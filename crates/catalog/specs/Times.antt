-- Timestamps (01, section 5, and the Rust's `validate_timestamp_range` and `validate_timestamp`): signed seconds, counted from 1970, and nanoseconds.
use Rattle.std.specs.Prelude.{ℕ, ◌+◌, ◌^◌, Bool, cond, ◌&&◌, List, [], ◌∷◌, leb, ltb, eqb, ℤ, pos, neg_ℤ, ◌-ℤ◌}
use Rattle.std.specs.Int.Signed.{le_z}
use Rattle.error.specs.declared.Validation.{Validation}
use Rattle.error.specs.Answer.{Check}
use Rattle.error.specs.Answer.{violation_of}
use Rattle.error.specs.Demand.{Demand, ◌otherwise◌, passing, demands}
use Rattle.error.specs.Reason as reason
use Rattle.octets.specs.Number.{u32_at, u64_at}

-- 01, section 5: seconds -11644473600 to 253402300799 (the years 1601 through 9999)
unfoldable pub seconds_in_range : ℤ → Bool
seconds_in_range seconds = le_z (neg_ℤ (pos 11644473600)) seconds && le_z seconds (pos 253402300799)

-- `validate_timestamp_range`, READING-RULES 9.2: what is asked of a time's numbers, in order: the seconds, and at most 999999999 nanoseconds
abbrev pub timestamp_range_demands : ℤ → ℕ → Validation → List Demand
timestamp_range_demands seconds nanos mode =
    seconds_in_range seconds otherwise violation_of mode reason.timestamp_seconds_out_of_range
    ∷ leb nanos 999999999 otherwise violation_of mode reason.timestamp_nanoseconds_out_of_range
    ∷ []

-- 01, "Return classes": the first that fails answers
unfoldable pub validate_timestamp_range : ℤ → ℕ → Validation → Check
validate_timestamp_range seconds nanos mode = demands (timestamp_range_demands seconds nanos mode)

-- READING-RULES 2: a stored word of 64 bits read as signed: from 2^63 on it stands for the word minus 2^64
unfoldable pub signed_number : ℕ → ℤ
signed_number word = cond (ltb word (2 ^ 63)) (pos word) (pos word -ℤ pos (2 ^ 64))

-- `validate_timestamp`, READING-RULES 9.2: i64 at an offset, a stored time's seconds
abbrev pub seconds_at : List ℕ → ℕ → ℤ
seconds_at value offset = signed_number (u64_at value offset)

-- `validate_timestamp`, READING-RULES 9.2: u32 8 bytes behind its seconds, a stored time's nanoseconds
abbrev pub nanos_at : List ℕ → ℕ → ℕ
nanos_at value offset = u32_at value (offset + 8)

-- `validate_timestamp`, READING-RULES 9.2: what is asked of a stored time, in order: its numbers, and zero in the u32 12 bytes behind its seconds
abbrev pub timestamp_demands : List ℕ → ℕ → Validation → List Demand
timestamp_demands value offset mode =
    passing (validate_timestamp_range (seconds_at value offset) (nanos_at value offset) mode)
    ∷ eqb (u32_at value (offset + 12)) 0 otherwise violation_of mode reason.timestamp_reserved_bytes
    ∷ []

-- 01, "Return classes": the first that fails answers
unfoldable pub validate_timestamp : List ℕ → ℕ → Validation → Check
validate_timestamp value offset mode = demands (timestamp_demands value offset mode)
