-- The library's digits of a number are those of the definition.
use Prim.Native.Nat.{ℕ, zero, suc, ◌+◌, ◌/◌, ◌%◌, ◌^◌, ◌≤◌, ◌<◌}
use mathlib.Core.Path.{◌≡◌, refl, sym, ◌∙◌}
use mathlib.Core.List.{[], ◌∷◌, ◌++◌}
use native.Mathlib.Decide.{dec_le}
use native.Mathlib.Omega.{arith}
use borrow.Author.Tests.{eq-eqb, ne_eqb}
use Rattle.std.specs.Fmt.{decimal as told}
use Rattle.std.proofs.lemmas.Fmt.{decimal_digit, decimal_step}
use Rattle.report.specs.Text.{leading, decimal}

none_left : (k n : ℕ) → n ≡ 0 → leading k n ≡ []
none_left zero n e = refl
none_left (suc k) n e = rw (eq-eqb n 0 e)

some_left : (k n : ℕ) → (n ≡ 0 → ⊥) → leading (suc k) n ≡ leading k (n / 10) ++ ((48 + n % 10) ∷ [])
some_left k n h = rw (ne_eqb n 0 h)

-- the last digit, behind those of the rest
last : (k n : ℕ) → n < 2 ^ 64 → n < 10 ^ suc k → ((m : ℕ) → (m ≡ 0 → ⊥) → m < 2 ^ 64 → m < 10 ^ k → leading k m ≡ told m) → leading k (n / 10) ++ ((48 + n % 10) ∷ []) ≡ told n
last k n h b more = go (dec_le 10 n)
  where
    go : Dec (10 ≤ n) → leading k (n / 10) ++ ((48 + n % 10) ∷ []) ≡ told n
    go (yes l) = rw (more (n / 10) (λ e. omega arith) (omega arith) (omega arith)) (sym (decimal_step n l h))
    go (no l) =
        let m : n % 10 ≡ n = omega arith in
        rw (none_left k (n / 10) (omega arith), decimal_digit n (omega arith), m)

leading_same : (k n : ℕ) → (n ≡ 0 → ⊥) → n < 2 ^ 64 → n < 10 ^ k → leading k n ≡ told n
leading_same zero n z h b = absurd (omega arith)
leading_same (suc k) n z h b = some_left k n z ∙ last k n h b (leading_same k)

pub decimal_same : (n : ℕ) → n < 2 ^ 64 → decimal n ≡ told n
unfolding decimal
decimal_same n h = last 19 n h (omega arith) (leading_same 19)
