-- What private functions promise. No public promise rests on these.
use Rattle.std.specs.Prelude.{ℕ, ◌-◌, ◌*◌, ◌%◌, ◌≤◌, ◌<◌, ◌≡◌, ◌≢◌, Bool, ◌||◌, List, eqb, length, slice_index, Option, MatchOption}
use Rattle.octets.specs.Below.{every}
use Rattle.octets.specs.Bytes.{bit}
use Rattle.octets.specs.Number.{u32_at}

-- the place of the last byte that isn't 0, none where each is 0
abbrev pub IsLastNonzero : List ℕ → Option ℕ → Type 0
IsLastNonzero s place =
    MatchOption place ((k : ℕ) → k < length s → slice_index s k ≡ 0)
    (λ i. (i < length s) × (slice_index s i ≢ 0) × ((k : ℕ) → i < k → k < length s → slice_index s k ≡ 0))

-- slot j of a bitmap byte is present, or its word is 0, by the byte and its eight words
abbrev pub slot_zero : ℕ → List ℕ → ℕ → Bool
slot_zero bits words j = eqb (bit bits j) 1 || eqb (u32_at words (4 * j)) 0

-- the same of its first slots
unfoldable pub slots_zero : ℕ → List ℕ → ℕ → Bool
slots_zero bits words n = every (slot_zero bits words) n

-- a whole bitmap, then 1 to 256 whole words
pub record Sized (n : ℕ) : Type 0 where
  pub long : 36 ≤ n
  pub short : n ≤ 1056
  pub whole : (n - 32) % 4 ≡ 0
