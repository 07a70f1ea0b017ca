-- A record's number beside those of the earlier records.
use mathlib.Core.Path.{◌≡◌, refl, sym, ap, ◌∙◌}
use mathlib.Core.Logic.{∥∥₁_elim}
use mathlib.Core.HLevel.{¬_prop}
use mathlib.Core.Bool.{Bool, false, ◌||◌, or-false, or_assoc}
use mathlib.Core.List.Memᴰ.{head as here}
use mathlib.Core.List.Memᴰ.{not-nil as no_member}
use mathlib.Core.List.Memᴰ.{tail as later}
use mathlib.Core.List.Pairwise
use mathlib.Core.List.{List, [], ◌∷◌, ◌++◌, Nodup, Nodup-nil, Pairwise-cons, Memᴰ as Among}
use mathlib.Mathlib.Data.Bool.Basic.{or-eq-false-eq-eq-false-and-eq-false as neither}
use Prim.Native.Nat.{ℕ}
use borrow.Author.Tests.{eqb-false, ne_eqb}
use lib.Dec.{eqb}
use Rattle.std.specs.List.{fold}
use Rattle.walk.specs.Records.{is_one_of}

-- one block more at the end
pub one_of_more : (n m : ℕ) (ms : List ℕ) → is_one_of n (ms ++ (m ∷ [])) ≡ (is_one_of n ms || eqb m n)
one_of_more n m [] = or-false (eqb m n)
one_of_more n m (k ∷ ms) = ap (λ (b : Bool). eqb k n || b) (one_of_more n m ms) ∙ sym (or_assoc (eqb k n) (is_one_of n ms) (eqb m n))

-- the blocks gone through one by one
pub one_of_fold : (n : ℕ) (ms : List ℕ) → fold (λ (hit : Bool) (m : ℕ). hit || eqb m n) false ms ≡ is_one_of n ms
one_of_fold n ms = go false ms
  where
    go : (hit : Bool) (ms : List ℕ) → fold (λ (hit : Bool) (m : ℕ). hit || eqb m n) hit ms ≡ (hit || is_one_of n ms)
    go hit [] = sym (or-false hit)
    go hit (m ∷ ms) = go (hit || eqb m n) ms ∙ or_assoc hit (eqb m n) (is_one_of n ms)

-- ---- the children's blocks to come: none is among those seen, and no two are the same
pub record Apart (seen ns : List ℕ) : Type 0 where
  pub new : (n : ℕ) → Among n ns → is_one_of n seen ≡ false
  pub differ : Nodup ns

pub apart_none : (seen : List ℕ) → Apart seen []
apart_none seen = record { new = λ n m. absurd (no_member m); differ = Nodup-nil }

pub apart_start : (ns : List ℕ) → Nodup ns → Apart [] ns
apart_start ns d = record { new = λ n m. refl; differ = d }

module _ (seen : List ℕ) (n : ℕ) (ns : List ℕ) where
  pub apart_more : is_one_of n seen ≡ false → Apart (seen ++ (n ∷ [])) ns → Apart seen (n ∷ ns)
  apart_more h a = record { new = new; differ = Pairwise.cons (λ m x. ∥∥₁_elim x ¬_prop (λ y. eqb-false n m (both m y).1)) a.differ }
    where
      both : (m : ℕ) → Among m ns → (is_one_of m seen ≡ false) × (eqb n m ≡ false)
      both m x = (neither (is_one_of m seen) (eqb n m)).0 (sym (one_of_more m n seen) ∙ a.new m x)

      new : (m : ℕ) → Among m (n ∷ ns) → is_one_of m seen ≡ false
      new m (here e) = rw e h
      new m (later x) = (both m x).0

  pub apart_rest : Apart seen (n ∷ ns) → Apart (seen ++ (n ∷ [])) ns
  apart_rest a =
      let d = Pairwise-cons.0 a.differ in
      record {
        new = λ m x. one_of_more m n seen ∙ (neither (is_one_of m seen) (eqb n m)).1 (a.new m (later x), ne_eqb n m (d.0 m ∣ x ∣₁));
        differ = d.1;
      }
