-- The last lines are short.
use Prim.Native.Nat.{ℕ, zero, suc, ◌+◌, ◌/◌, ◌%◌, ◌≤◌}
use mathlib.Core.Bool.{Bool, true, false, cond}
use mathlib.Core.List.{[], ◌∷◌, ◌++◌}
use native.Mathlib.Omega.{arith}
use lib.Dec.{eqb}
use lib.ListN.{length, length-append}
use Rattle.report.specs.Text.{leading, decimal, number_field}
use Rattle.report.specs.Line.{newline, cut_line, end_line}

few_digits : (k n : ℕ) → length (leading k n) ≤ k
few_digits zero n = omega arith
few_digits (suc k) n = go (eqb n 0) (few_digits k (n / 10))
  where
    go : (t : Bool) → length (leading k (n / 10)) ≤ k → length (cond t [] (leading k (n / 10) ++ ((48 + n % 10) ∷ []))) ≤ suc k
    go true h = omega arith
    go false h = omega (arith, length-append (leading k (n / 10)) ((48 + n % 10) ∷ []))

decimal_short : (n : ℕ) → length (decimal n) ≤ 20
unfolding decimal
decimal_short n = omega (arith, length-append (leading 19 (n / 10)) ((48 + n % 10) ∷ []), few_digits 19 (n / 10))

pub cut_short : (n : ℕ) → length (cut_line n) ≤ 32768
unfolding cut_line
cut_short n = omega (arith, length-append (decimal n) (32 ∷ 99 ∷ 117 ∷ 116 ∷ newline), decimal_short n)

pub end_short : (n : ℕ) → length (end_line n) ≤ 32768
unfolding end_line number_field
end_short n =
    omega (arith, length-append ((101 ∷ 110 ∷ 100 ∷ []) ++ number_field n) newline, length-append (101 ∷ 110 ∷ 100 ∷ []) (number_field n), decimal_short n)
