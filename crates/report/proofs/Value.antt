-- The digits of a number, read again, give the number.
use Prim.Native.Nat.{ℕ, zero, suc, ◌+◌, ◌-◌, ◌*◌, ◌/◌, ◌%◌, ◌^◌, ◌<◌}
use mathlib.Core.Path.{◌≡◌, refl, sym, ◌∙◌}
use mathlib.Core.Bool.{Bool, true, false, cond}
use mathlib.Core.List.{List, [], ◌∷◌, ◌++◌}
use native.Mathlib.Omega.{arith}
use borrow.Author.Tests.{eqb-true}
use lib.Dec.{eqb}
use Rattle.report.specs.Text.{leading, decimal}

-- a number read digit by digit, from the value of what stands in front
abbrev decimal_value : ℕ → List ℕ → ℕ
decimal_value front [] = front
decimal_value front (digit ∷ text) = decimal_value (10 * front + (digit - 48)) text

more : (front : ℕ) (text : List ℕ) (d : ℕ) → decimal_value front (text ++ ((48 + d) ∷ [])) ≡ 10 * decimal_value front text + d
more front [] d = omega arith
more front (c ∷ text) d = more (10 * front + (c - 48)) text d

leading_value : (k n : ℕ) → n < 10 ^ k → decimal_value 0 (leading k n) ≡ n
leading_value zero n h = omega arith
leading_value (suc k) n h = go (eqb n 0) refl (leading_value k (n / 10))
  where
    go : (t : Bool) → eqb n 0 ≡ t → (n / 10 < 10 ^ k → decimal_value 0 (leading k (n / 10)) ≡ n / 10) → decimal_value 0 (cond t [] (leading k (n / 10) ++ ((48 + n % 10) ∷ []))) ≡ n
    go true e shorter = sym (eqb-true n 0 e)
    go false e shorter = more 0 (leading k (n / 10)) (n % 10) ∙ rw (shorter (omega arith)) (omega arith)

pub decimal_value_lem : (n : ℕ) → n < 2 ^ 64 → decimal_value 0 (decimal n) ≡ n
unfolding decimal
decimal_value_lem n h = more 0 (leading 19 (n / 10)) (n % 10) ∙ rw (leading_value 19 (n / 10) (omega arith)) (omega arith)
