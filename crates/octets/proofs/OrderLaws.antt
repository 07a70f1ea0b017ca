-- The order of byte strings: from an index on, by the first bytes, and as an order.
use mathlib.Core.Path.{◌≡◌, refl, sym, ap, ap₂, ◌∙◌}
use mathlib.Core.Bool.{Bool, true, false, cond}
use mathlib.Core.Logic.{◌⊎◌, inl, inr, ⊎_elim}
use mathlib.Core.List.{List, [], ◌∷◌, ◌++◌}
use Prim.Native.Nat.{ℕ, ◌<◌, ◌≤◌}
use native.Mathlib.Nat.{le_refl}
use native.Mathlib.Decide.{dec_lt}
use native.Mathlib.Omega.{arith}
use lib.Dec.{ltb}
use lib.ListN.{length, take, drop, drop_of_length-le, take-append-drop}
use lib.Seq.{drop-cons}
use borrow.Author.Tests.{lt-ltb, le-ltb, ltb-true, ltb-false, eq-eqb, ne_eqb}
use Rattle.std.specs.Cmp.Lexicographic.{slice_cmp}
use Rattle.std.specs.Ordering.{nat_cmp, ordering_then}
use Rattle.octets.specs.Order.{order, is_greater, is_less}
use Rattle.std.specs.declared.cmp.Ordering.{Ordering}
use Rattle.std.specs.declared.cmp.Ordering.TheVariants.{Less, Equal, Greater}

-- ---- the library's order is this one
pub order_is : (a b : List ℕ) → slice_cmp nat_cmp a b ≡ order a b
unfolding order
order_is [] [] = refl
order_is [] (y ∷ ys) = refl
order_is (x ∷ xs) [] = refl
order_is (x ∷ xs) (y ∷ ys) = go (dec_lt x y) (dec_lt y x) (order_is xs ys)
  where
    go : Dec (x < y) → Dec (y < x) → slice_cmp nat_cmp xs ys ≡ order xs ys
        → ordering_then (nat_cmp x y) (slice_cmp nat_cmp xs ys) ≡ cond (ltb x y) Less (cond (ltb y x) Greater (order xs ys))
    go (yes l) m e = rw (lt-ltb x y l)
    go (no l) (yes m) e = rw (le-ltb x y (omega arith), lt-ltb y x m, ne_eqb x y (omega arith))
    go (no l) (no m) e = rw (le-ltb x y (omega arith), le-ltb y x (omega arith), eq-eqb x y (omega arith)) e

-- ---- where one of the two ends
module _ (a b : List ℕ) (i : ℕ) where
  pub greater_end : i < length a → length b ≤ i → order (drop i a) (drop i b) ≡ Greater
  unfolding order
  greater_end p q = rw (drop-cons a i 0 p, drop_of_length-le b q)

  pub less_end : length a ≤ i → i < length b → order (drop i a) (drop i b) ≡ Less
  unfolding order
  less_end p q = rw (drop_of_length-le a p, drop-cons b i 0 q)

  pub equal_end : length a ≤ i → length b ≤ i → order (drop i a) (drop i b) ≡ Equal
  unfolding order
  equal_end p q = rw (drop_of_length-le a p, drop_of_length-le b q)

-- ---- what a comparison says of the first bytes
pub less_is : (x y : ℕ) (xs ys : List ℕ) → order (x ∷ xs) (y ∷ ys) ≡ Less → (x < y) ⊎ ((x ≡ y) × (order xs ys ≡ Less))
unfolding order
less_is x y xs ys e = go (ltb x y) refl (ltb y x) refl
  where
    go : (b : Bool) → ltb x y ≡ b → (d : Bool) → ltb y x ≡ d → (x < y) ⊎ ((x ≡ y) × (order xs ys ≡ Less))
    go true p d q = inl (ltb-true x y p)
    go false p true q =
        let f : Greater ≡ Less = rw (p, q) at e in
        let z : ◌≡◌ {A = ℕ} 0 1 = cc in
        inl (omega arith)
    go false p false q =
        let l : y ≤ x = ltb-false x y p in
        let m : x ≤ y = ltb-false y x q in
        inr (omega arith, rw (p, q) at e)

greater_is : (x y : ℕ) (xs ys : List ℕ) → order (x ∷ xs) (y ∷ ys) ≡ Greater → (y < x) ⊎ ((x ≡ y) × (order xs ys ≡ Greater))
unfolding order
greater_is x y xs ys e = go (ltb x y) refl (ltb y x) refl
  where
    go : (b : Bool) → ltb x y ≡ b → (d : Bool) → ltb y x ≡ d → (y < x) ⊎ ((x ≡ y) × (order xs ys ≡ Greater))
    go true p d q =
        let f : Less ≡ Greater = rw p at e in
        let z : ◌≡◌ {A = ℕ} 0 1 = cc in
        inl (omega arith)
    go false p true q = inl (ltb-true y x q)
    go false p false q =
        let l : y ≤ x = ltb-false x y p in
        let m : x ≤ y = ltb-false y x q in
        inr (omega arith, rw (p, q) at e)

pub greater_by : (x y : ℕ) (xs ys : List ℕ) → y < x → order (x ∷ xs) (y ∷ ys) ≡ Greater
unfolding order
greater_by x y xs ys l = rw (le-ltb x y (omega arith), lt-ltb y x l)

pub greater_on : (x y : ℕ) (xs ys : List ℕ) → x ≡ y → order xs ys ≡ Greater → order (x ∷ xs) (y ∷ ys) ≡ Greater
unfolding order
greater_on x y xs ys e g = rw (le-ltb x y (omega arith), le-ltb y x (omega arith), g)

-- what is below a string that is above c is not needed: a string above one that is above c is above c
pub above_trans : (a b c : List ℕ) → order a b ≡ Less → order a c ≡ Greater → order b c ≡ Greater
unfolding order
above_trans [] [] c e g = let z : ◌≡◌ {A = ℕ} 0 1 = cc in absurd (omega arith)
above_trans [] (y ∷ ys) [] e g = refl
above_trans [] (y ∷ ys) (z ∷ zs) e g = let w : ◌≡◌ {A = ℕ} 0 1 = cc in absurd (omega arith)
above_trans (x ∷ xs) [] c e g = let z : ◌≡◌ {A = ℕ} 0 1 = cc in absurd (omega arith)
above_trans (x ∷ xs) (y ∷ ys) [] e g = refl
above_trans (x ∷ xs) (y ∷ ys) (z ∷ zs) e g = go (above_trans xs ys zs)
  where
    go : (order xs ys ≡ Less → order xs zs ≡ Greater → order ys zs ≡ Greater) → order (y ∷ ys) (z ∷ zs) ≡ Greater
    go ih =
        ⊎_elim (λ (l : x < y). ⊎_elim (λ (m : z < x). greater_by y z ys zs (omega arith)) (λ (h : (x ≡ z) × (order xs zs ≡ Greater)). greater_by y z ys zs (omega arith)) (greater_is x z xs zs g))
        (λ (h : (x ≡ y) × (order xs ys ≡ Less)). ⊎_elim (λ (m : z < x). greater_by y z ys zs (omega arith)) (λ (i : (x ≡ z) × (order xs zs ≡ Greater)). greater_on y z ys zs (omega arith) (ih h.1 i.1)) (greater_is x z xs zs g))
        (less_is x y xs ys e)

pub less_of : (o : Ordering) → is_less o ≡ true → o ≡ Less
less_of Less e = refl
less_of Equal e = cc
less_of Greater e = cc

pub greater_of : (o : Ordering) → is_greater o ≡ true → o ≡ Greater
greater_of Less e = let z : ◌≡◌ {A = ℕ} 0 1 = cc in absurd (omega arith)
greater_of Equal e = let z : ◌≡◌ {A = ℕ} 0 1 = cc in absurd (omega arith)
greater_of Greater e = refl

-- ---- nothing is below itself, and what is below is below what is above
pub order_same : (a : List ℕ) → order a a ≡ Equal
unfolding order
order_same [] = refl
order_same (x ∷ xs) = rw (le-ltb x x (le_refl x)) (order_same xs)

pub less_by : (x y : ℕ) (xs ys : List ℕ) → x < y → order (x ∷ xs) (y ∷ ys) ≡ Less
unfolding order
less_by x y xs ys l = rw (lt-ltb x y l)

pub less_on : (x y : ℕ) (xs ys : List ℕ) → x ≡ y → order xs ys ≡ Less → order (x ∷ xs) (y ∷ ys) ≡ Less
unfolding order
less_on x y xs ys e g = rw (le-ltb x y (omega arith), le-ltb y x (omega arith), g)

pub order_flip : (a b : List ℕ) → order a b ≡ Less → order b a ≡ Greater
unfolding order
order_flip [] [] e = cc
order_flip [] (y ∷ ys) e = refl
order_flip (x ∷ xs) [] e = cc
order_flip (x ∷ xs) (y ∷ ys) e =
    ⊎_elim (λ (l : x < y). greater_by y x ys xs l)
    (λ (h : (x ≡ y) × (order xs ys ≡ Less)). greater_on y x ys xs (sym h.0) (order_flip xs ys h.1))
    (less_is x y xs ys e)

pub order_trans : (a b c : List ℕ) → order a b ≡ Less → order b c ≡ Less → order a c ≡ Less
unfolding order
order_trans [] [] c e f = cc
order_trans [] (y ∷ ys) [] e f = cc
order_trans [] (y ∷ ys) (z ∷ zs) e f = refl
order_trans (x ∷ xs) [] c e f = cc
order_trans (x ∷ xs) (y ∷ ys) [] e f = cc
order_trans (x ∷ xs) (y ∷ ys) (z ∷ zs) e f =
    ⊎_elim
    (λ (l : x < y). ⊎_elim (λ (m : y < z). less_by x z xs zs (omega arith)) (λ (h : (y ≡ z) × (order ys zs ≡ Less)). less_by x z xs zs (omega arith)) (less_is y z ys zs f))
    (λ (h : (x ≡ y) × (order xs ys ≡ Less)).
    ⊎_elim (λ (m : y < z). less_by x z xs zs (omega arith)) (λ (i : (y ≡ z) × (order ys zs ≡ Less)). less_on x z xs zs (omega arith) (order_trans xs ys zs h.1 i.1)) (less_is y z ys zs f))
    (less_is x y xs ys e)

-- what two strings start with in common doesn't count
pub order_front : (a r t : List ℕ) → order (a ++ r) (a ++ t) ≡ order r t
unfolding order
order_front [] r t = refl
order_front (x ∷ a) r t = rw (le-ltb x x (le_refl x)) (order_front a r t)

-- strings that are the same up to a place are ordered as they are from there on
pub order_behind : (a b : List ℕ) (n : ℕ) → take n a ≡ take n b → order (drop n a) (drop n b) ≡ order a b
order_behind a b n e =
    sym
    (ap₂ order (sym (take-append-drop n a)) (sym (take-append-drop n b))
    ∙ ap (λ (l : List ℕ). order (l ++ drop n a) (take n b ++ drop n b)) e
    ∙ order_front (take n b) (drop n a) (drop n b))

-- seen from the other string
pub order_mirror : (a b : List ℕ) → is_greater (order b a) ≡ is_less (order a b)
unfolding order
order_mirror [] [] = refl
order_mirror [] (y ∷ ys) = refl
order_mirror (x ∷ xs) [] = refl
order_mirror (x ∷ xs) (y ∷ ys) = go (ltb x y) refl (ltb y x) refl (order_mirror xs ys)
  where
    go : (s : Bool) → ltb x y ≡ s → (t : Bool) → ltb y x ≡ t → is_greater (order ys xs) ≡ is_less (order xs ys)
        → is_greater (cond t Less (cond s Greater (order ys xs))) ≡ is_less (cond s Less (cond t Greater (order xs ys)))
    go true p true q ih = let l : x < y = ltb-true x y p in let m : y < x = ltb-true y x q in absurd (omega arith)
    go true p false q ih = refl
    go false p true q ih = refl
    go false p false q ih = ih
