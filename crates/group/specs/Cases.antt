-- The [P] cases of 01, section 6, computed from the definitions; one theorem, `proofs/Cases`, carries them all.
use Rattle.std.specs.Prelude.{◌≡◌, Bool, true, List, [], ◌∷◌, eqb, replicate}
use Rattle.error.specs.Demand.{all_true}
use Rattle.group.specs.Group.{compact_bytes}

-- section 6: how long the stored form is
unfoldable pub cases : List Bool
cases =
    -- byte 0 = 5, rest 0: 44 bytes
    eqb (compact_bytes (5 ∷ replicate 1055 0)) 44
    -- no bit: 32 bytes
    ∷ eqb (compact_bytes (replicate 1056 0)) 32
    ∷ []

-- each of them is true
abbrev pub CasesHold : Type 0
CasesHold = all_true cases ≡ true
