-- What private functions promise. No public promise rests on these.
use Rattle.std.specs.Prelude.{ℕ, zero, suc, ◌+◌, ◌≤◌, ◌<◌, ◌≡◌, Bool, true, cond, List, [], ◌∷◌, ◌++◌, length, take, drop, Result, Ok}
use Rattle.error.specs.declared.Error.{Error}
use Rattle.error.specs.declared.Validation.{Validation}
use Rattle.error.specs.Answer.{Number, number_of}
use Rattle.error.specs.Demand.{passing, outcome}
use Rattle.octets.specs.Number.{u64_at}
use Rattle.lookup.specs.Record.{key_len, value_len, split_record, is_record}
use Rattle.lookup.specs.Sorted.{offset_of}
use Rattle.lookup.specs.declared.Lengths.{Lengths}
use Rattle.walk.specs.Records.{Own, form_demands, form_check, own_answer, join_demands, next_total}
use Rattle.walk.specs.declared.Turn.{Turn}

-- ---- one turn of the walk: the checks of `Records`, with the numbers that the next turn needs

-- the lengths of a record whose form is right
unfoldable pub form_of : List ℕ → ℕ → List ℕ → Validation → Result Lengths Error
form_of rest left previous mode = outcome (form_demands rest left previous mode) (Ok (record { key_len = key_len rest; value_len = value_len rest }))

-- the same with the number of a record that passes its own rules too
unfoldable pub turn_of : Validation → Own → List ℕ → ℕ → List ℕ → Result Turn Error
turn_of mode own rest left previous =
    outcome (passing (form_check rest left previous mode) ∷ passing (own_answer own rest) ∷ [])
    (Ok (record { key_len = key_len rest; value_len = value_len rest; number = number_of (own_answer own rest) }))

-- the total after a record whose number fits those of the earlier records
unfoldable pub join_of : Bool → ℕ → List ℕ → ℕ → Validation → Number
join_of leaf total seen n mode = outcome (join_demands leaf total seen n mode) (Ok (next_total leaf total n))

-- ---- the children's blocks of the first records, as they are stored: the first 8 bytes of each value

-- the block in the record at the start of s
abbrev pub stored_block : List ℕ → ℕ
stored_block s = u64_at s (4 + key_len s)

-- those of the first n records
unfoldable pub stored_blocks : List ℕ → ℕ → List ℕ
stored_blocks rest zero = []
stored_blocks rest (suc n) = stored_blocks rest n ++ (stored_block (drop (offset_of rest n) rest) ∷ [])

-- the children's blocks so far; a leaf has none
abbrev pub blocks_of : Bool → List ℕ → ℕ → List ℕ
blocks_of leaf rest n = cond leaf [] (stored_blocks rest n)

-- the first n records are whole
abbrev pub Whole : List ℕ → ℕ → Type 0
Whole rest n = (j : ℕ) → j < n → is_record (split_record (drop (offset_of rest j) rest)) ≡ true

-- the array of blocks seen so far holds those of the first n records, as long as there is room
pub record Kept (seen rest : List ℕ) (n : ℕ) : Type 0 where
  pub room : length seen ≡ 192
  pub whole : Whole rest n
  pub front : n ≤ 192 → take n seen ≡ stored_blocks rest n
