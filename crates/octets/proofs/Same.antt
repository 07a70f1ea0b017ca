-- Two lists of bytes, compared from the front.
use mathlib.Core.Path.{◌≡◌, refl, sym, ap₂}
use mathlib.Core.Bool.{true, false, ◌&&◌, not}
use mathlib.Core.List.{List, [], ◌∷◌}
use Prim.Native.Nat.{ℕ}
use native.Mathlib.Decide.{ℕ_discrete}
use borrow.Author.Tests.{eq-eqb, ne_eqb, eqb-true, not-false}
use lib.Dec.{eqb}
use lib.Pointwise.{pointwise}
use Rattle.std.proofs.lemmas.Slice.Eq.{bytes_eq-Decides}
use Rattle.error.proofs.Tests.{and_left, and_right}
use Rattle.octets.specs.Bytes.{same_bytes}

-- the test holds exactly of equal lists
pub same_is : (a b : List ℕ) → same_bytes a b ≡ true → a ≡ b
same_is [] [] e = refl
same_is [] (y ∷ b) e = cc
same_is (x ∷ a) [] e = cc
same_is (x ∷ a) (y ∷ b) e = ap₂ ◌∷◌ (eqb-true x y (and_left (eqb x y) (same_bytes a b) e)) (same_is a b (and_right (eqb x y) (same_bytes a b) e))

pub same_self : (a : List ℕ) → same_bytes a a ≡ true
same_self [] = refl
same_self (x ∷ a) = rw (eq-eqb x x refl, same_self a)

-- told of the text first, as the library does
pub front_is : (s text : List ℕ) → pointwise eqb text s ≡ same_bytes s text
front_is [] [] = refl
front_is [] (y ∷ text) = refl
front_is (x ∷ s) [] = refl
front_is (x ∷ s) (y ∷ text) = go (ℕ_discrete x y) (front_is s text)
  where
    go : Dec (x ≡ y) → pointwise eqb text s ≡ same_bytes s text → (eqb y x && pointwise eqb text s) ≡ (eqb x y && same_bytes s text)
    go (yes e) f = rw (eq-eqb x y e, eq-eqb y x (sym e)) f
    go (no n) f = rw (ne_eqb x y n, ne_eqb y x (λ e. n (sym e)))

-- what `!=` of two arrays tells
pub differ : (x y : List ℕ) → true ≡ not (pointwise eqb x y) → x ≡ y → ⊥
differ x y h e = let g = rw ((bytes_eq-Decides x y).1 e) at h in cc

pub alike : (x y : List ℕ) → false ≡ not (pointwise eqb x y) → x ≡ y
alike x y h = (bytes_eq-Decides x y).0 (not-false (pointwise eqb x y) (sym h))
