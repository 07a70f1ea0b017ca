-- The fields of a call as they are handed over.
use Rattle.std.specs.Prelude.{ℕ, ◌≤◌, ◌≡◌, List, length, take}
use Rattle.octets.specs.Bytes.{padded_to}
use Rattle.calls.specs.declared.tell.Fields.TheInside.{Inside}

-- so many fields, and seven places, 0 behind the last
abbrev pub told : List ℕ → Inside
told fields = record { count = length fields; values = padded_to 7 fields }

-- the fields that are handed over
abbrev pub fields_told : Inside → List ℕ
fields_told f = take f.count f.values

-- up to seven fields, and nothing but them
abbrev pub IsTold : Inside → Type 0
IsTold f = (f.count ≤ 7) × (told (fields_told f) ≡ f)
