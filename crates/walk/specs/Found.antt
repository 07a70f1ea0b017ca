-- What a lookup finds in a payload (01, "What demand 3 compares"): the key and value of the first record that it answers.
use Rattle.std.specs.Prelude.{ℕ, ◌-◌, List, length, drop, Option, Some, None}
use Rattle.octets.specs.Bytes.{part}
use Rattle.lookup.specs.Floor.{floor_answer, next_record}
use Rattle.lookup.specs.declared.Answer.{Answer}
use Rattle.lookup.specs.declared.Step.{Step}

-- no record, or one with this key and value
pub data Finding : Type 0 where
  nothing : Finding
  found : (key value : List ℕ) → Finding

-- the record at a step's places
abbrev pub step_found : List ℕ → Option Step → Finding
step_found rest (Some s) = found (part rest s.key_start (s.key_end - s.key_start)) (part rest s.key_end (s.value_end - s.key_end))
step_found rest None = nothing

-- the first of so many records at the front of `rest`
abbrev pub first_of : List ℕ → ℕ → Finding
first_of rest remaining = step_found rest (next_record rest remaining)

-- the first of the records that a lookup answers
abbrev pub answer_found : List ℕ → Option Answer → Finding
answer_found payload (Some a) = first_of (drop a.from payload) a.remaining
answer_found payload None = nothing

-- the lookup of a key in a payload of so many records, by a scratch
abbrev pub lookup_in : List ℕ → ℕ → List ℕ → List ℕ → Finding
lookup_in payload count key scratch = answer_found payload (floor_answer payload count key (length scratch))
