-- The [P] cases of 01, section 7, computed from the definitions: keys `b` and `d`, each with an empty value; `proofs/Cases` carries them all.
use Rattle.std.specs.Prelude.{◌≡◌, Bool, true, false, List, [], ◌∷◌, ℕ, eqb, Option, Some, None}
use Rattle.error.specs.Demand.{all_true}
use Rattle.lookup.specs.Floor.{floor_at}
use Rattle.lookup.specs.declared.Floor.{Floor}

-- the two records, one behind the other
abbrev pub two_records : List ℕ
two_records = 1 ∷ 0 ∷ 0 ∷ 0 ∷ 98 ∷ 1 ∷ 0 ∷ 0 ∷ 0 ∷ 100 ∷ []

-- the lookup found none
abbrev pub is_none : Option Floor → Bool
is_none (Some f) = false
is_none None = true

-- the lookup found the record of that index
abbrev pub is_at : ℕ → Option Floor → Bool
is_at n (Some f) = eqb f.index n
is_at n None = false

-- with a scratch of so many entries: `a` finds none, `b` and `c` index 0, `da` index 1
unfoldable pub cases : ℕ → List Bool
cases entries =
    is_none (floor_at two_records 2 (97 ∷ []) entries)
    ∷ is_at 0 (floor_at two_records 2 (98 ∷ []) entries)
    ∷ is_at 0 (floor_at two_records 2 (99 ∷ []) entries)
    ∷ is_at 1 (floor_at two_records 2 (100 ∷ 97 ∷ []) entries)
    ∷ []

-- they hold by walking, with no scratch, and by halving, with a scratch of 2 entries
abbrev pub CasesHold : Type 0
CasesHold = (all_true (cases 0) ≡ true) × (all_true (cases 2) ≡ true)
