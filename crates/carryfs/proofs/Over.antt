-- A refusal in words: two numbers at the front of zeros.
use Prim.Native.Nat.{ℕ, zero, suc, min}
use mathlib.Core.Path.{◌≡◌, refl}
use mathlib.Core.List.{[], ◌∷◌, ◌++◌}
use native.Mathlib.Omega.{arith}
use lib.ListN.{take, drop, replicate}
use Rattle.std.proofs.lemmas.List.{take-replicate}

-- two numbers laid over zeros, as many of them as there is room for
pub two_over : (n a b : ℕ) → take (min n 2) (a ∷ b ∷ []) ++ drop (min n 2) (replicate n 0) ≡ take n (a ∷ b ∷ replicate n 0)
two_over zero a b = refl
two_over (suc zero) a b = refl
two_over (suc (suc n)) a b =
    let m : min (suc (suc n)) 2 ≡ 2 = omega arith in
    rw (m, take-replicate {X = ℕ} n (suc (suc n)) 0 (omega arith)) refl
