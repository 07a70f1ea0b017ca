-- Bytes joined by `|` are 0 where each is.
use mathlib.Core.Path.{◌≡◌, refl, sym, ap, ◌∙◌}
use mathlib.Core.Bool.{Bool, true, false, ◌&&◌, and-true}
use mathlib.Core.Logic.{◌⊎◌, inl, inr}
use mathlib.Core.List.{List, [], ◌∷◌}
use Prim.Native.Nat.{ℕ, zero, suc, ◌<◌}
use native.Mathlib.Nat.{eq-zero-or-pos}
use native.Mathlib.Omega.{arith}
use lib.Bits.{bit_or, or_zero_l, or_add_and, and_le_r}
use lib.Dec.{eqb}
use borrow.Author.Tests.{ne_eqb, eqb-true}
use lib.ListN.{length, get_or, replicate}
use Rattle.error.proofs.Tests.{and_left, and_right}
use Rattle.std.specs.List.{fold}
use Rattle.octets.specs.Bytes.{all_zero}

or_zero : (a b : ℕ) → eqb (bit_or a b) 0 ≡ (eqb a 0 && eqb b 0)
or_zero a b = go (eq-zero-or-pos a)
  where
    go : (a ≡ zero) ⊎ (zero < a) → eqb (bit_or a b) 0 ≡ (eqb a 0 && eqb b 0)
    go (inl e) = rw (e, or_zero_l)
    go (inr p) = ne_eqb (bit_or a b) 0 (omega (arith, or_add_and a b, and_le_r a b)) ∙ rw (ne_eqb a 0 (omega arith))

-- all of them
pub zero_fold : (a : ℕ) (s : List ℕ) → eqb (fold bit_or a s) 0 ≡ (eqb a 0 && all_zero s)
zero_fold a [] = sym (and-true (eqb a 0))
zero_fold a (b ∷ s) = zero_fold (bit_or a b) s ∙ rw (or_zero a b) (sym (assoc (eqb a 0) (eqb b 0) (all_zero s)))
  where
    assoc : (p q r : Bool) → (p && (q && r)) ≡ ((p && q) && r)
    assoc true q r = refl
    assoc false q r = refl

-- each byte of what is all zero is 0, and what has only zeros is all zero
pub zero_at : (s : List ℕ) → all_zero s ≡ true → (i : ℕ) → get_or s i 0 ≡ 0
zero_at [] e i = refl
zero_at (x ∷ s) e zero = eqb-true x 0 (and_left (eqb x 0) (all_zero s) e)
zero_at (x ∷ s) e (suc i) = zero_at s (and_right (eqb x 0) (all_zero s) e) i

pub zero_all : (s : List ℕ) → ((i : ℕ) → i < length s → get_or s i 0 ≡ 0) → all_zero s ≡ true
zero_all [] h = refl
zero_all (x ∷ s) h = rw (h 0 (omega arith), zero_all s (λ i l. h (suc i) (omega arith)))

-- so it is so many zeros, and so many zeros are all zero
pub zeros_are : (s : List ℕ) (n : ℕ) → length s ≡ n → all_zero s ≡ true → s ≡ replicate n 0
zeros_are s n l e = go s e ∙ ap (λ (m : ℕ). replicate m 0) l
  where
    go : (s : List ℕ) → all_zero s ≡ true → s ≡ replicate (length s) 0
    go [] e = refl
    go (x ∷ s) e =
        let h : x ≡ 0 = eqb-true x 0 (and_left (eqb x 0) (all_zero s) e) in
        rw h (ap (λ (l : List ℕ). 0 ∷ l) (go s (and_right (eqb x 0) (all_zero s) e)))

pub zeros_zero : (n : ℕ) → all_zero (replicate n 0) ≡ true
zeros_zero zero = refl
zeros_zero (suc n) = zeros_zero n
