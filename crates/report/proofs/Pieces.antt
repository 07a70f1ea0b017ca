-- Texts laid one behind the other, as equations.
use Prim.Native.Nat.{ℕ, ◌+◌, ◌-◌, min}
use mathlib.Core.Path.{◌≡◌, refl, sym}
use mathlib.Core.List.{List, [], ◌∷◌, ◌++◌}
use lib.ListN.{length, length-append}
use lib.Seq.{sets, length-sets}
use Rattle.octets.proofs.Lay.{laid_then}

-- two texts, one behind the other
pub sets_two : (out : List ℕ) (at : ℕ) (a b : List ℕ) → sets out at (a ++ b) ≡ sets (sets out at a) (at + min (length a) (length out - at)) b
sets_two out at a b = sym (laid_then {out = out} {a = a} {after = sets out at a} {b = b} {at = at} (record { stands = refl; ends = refl }) (record { stands = refl; ends = refl })).stands

-- a byte in front of a text
pub sets_more : (out : List ℕ) (at x : ℕ) (b : List ℕ) → sets out at (x ∷ b) ≡ sets (sets out at (x ∷ [])) (at + min 1 (length out - at)) b
sets_more out at x b = sets_two out at (x ∷ []) b

-- with these the check puts a line together by itself
pub ruleset pieces = (sets_two, sets_more, length-append, length-sets)
