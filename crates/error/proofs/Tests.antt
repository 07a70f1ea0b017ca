-- Tests joined, and a test from what a call ensures of its result.
use mathlib.Core.Path.{◌≡◌, refl, sym, ◌∙◌}
use mathlib.Core.Bool.{Bool, true, false, not, ◌&&◌, ◌||◌}
use mathlib.Core.Logic.{◌⊎◌, inl, inr}
use Prim.Native.Nat.{ℕ, ◌≤◌, ◌<◌}
use native.Mathlib.Omega.{arith}
use borrow.Author.Tests.{eq-eqb, ne_eqb, eqb-true, le-leb, lt-leb, lt-ltb, le-ltb, not-true, not-false}
use lib.Dec.{eqb, leb}
use Rattle.std.proofs.lemmas.Bool.{or_cases}
-- the library's, by the words of this page: both tests hold, one of them fails, one of them holds, neither does, a test turned round
pub use Rattle.std.proofs.lemmas.Bool.{and_from as and_both, and_left as and_first, and_right as and_second, or_left as or_first, or_right as or_second, or_from as or_neither, not_from_false as not_yes, not_from_true as not_no}

-- ---- both tests hold

pub and_left : (a b : Bool) → (a && b) ≡ true → a ≡ true
and_left true b e = refl
and_left false b e = e

pub and_right : (a b : Bool) → (a && b) ≡ true → b ≡ true
and_right true b e = e
and_right false b e = cc

-- ---- one of the tests holds

pub one_of : (n a b : ℕ) → (eqb n a || eqb n b) ≡ true → (n ≡ a) ⊎ (n ≡ b)
one_of n a b e = go (or_cases (eqb n a) (eqb n b) e)
  where
    go : (eqb n a ≡ true) ⊎ (eqb n b ≡ true) → (n ≡ a) ⊎ (n ≡ b)
    go (inl p) = inl (eqb-true n a p)
    go (inr p) = inr (eqb-true n b p)

pub is_one_of_lem : (n a b : ℕ) → (n ≡ a) ⊎ (n ≡ b) → (eqb n a || eqb n b) ≡ true
is_one_of_lem n a b (inl p) = or_first (eqb n a) (eqb n b) (eq-eqb n a p)
is_one_of_lem n a b (inr p) = or_second (eqb n a) (eqb n b) (eq-eqb n b p)

-- ---- a definition's test, from the code's test of the result r that a call ensures

pub eq_of : {r n m : ℕ} → r ≡ n → r ≡ m → eqb n m ≡ true
eq_of {r} {n} {m} e f = eq-eqb n m (sym e ∙ f)

pub ne_of : {r n m : ℕ} → r ≡ n → (r ≡ m → ⊥) → eqb n m ≡ false
ne_of {r} {n} {m} e f = ne_eqb n m (λ p. f (e ∙ p))

pub le_of : {r n m : ℕ} → r ≡ n → r ≤ m → leb n m ≡ true
le_of {r} {n} {m} e f = le-leb n m (omega arith)

pub gt_of : {r n m : ℕ} → r ≡ n → m < r → leb n m ≡ false
gt_of {r} {n} {m} e f = lt-leb n m (omega arith)

pub ge_of : {r n m : ℕ} → r ≡ n → m ≤ r → leb m n ≡ true
ge_of {r} {n} {m} e f = le-leb m n (omega arith)

pub lt_of : {r n m : ℕ} → r ≡ n → r < m → leb m n ≡ false
lt_of {r} {n} {m} e f = lt-leb m n (omega arith)

pub eq_to : {r n m : ℕ} → r ≡ m → n ≡ r → eqb n m ≡ true
eq_to {r} {n} {m} e f = eq-eqb n m (f ∙ e)

pub ne_to : {r n m : ℕ} → r ≡ m → (n ≡ r → ⊥) → eqb n m ≡ false
ne_to {r} {n} {m} e f = ne_eqb n m (λ p. f (p ∙ sym e))

-- (the code's test stands first: by it `search` finds r)
pub yes_of : {r b : Bool} → not r ≡ false → r ≡ b → b ≡ true
yes_of {r} {b} f e = sym e ∙ not-false r f

pub no_of : {r b : Bool} → not r ≡ true → r ≡ b → b ≡ false
no_of {r} {b} f e = sym e ∙ not-true r f

pub is_of : {r b v : Bool} → r ≡ v → r ≡ b → b ≡ v
is_of {r} {b} {v} f e = sym e ∙ f

-- what `search` goes by at a test
pub ruleset tests = (eq-eqb, ne_eqb, le-leb, lt-leb, lt-ltb, le-ltb, and_both, and_first, and_second, or_first, or_second, or_neither, not_yes, not_no, eq_of, ne_of, le_of, gt_of, ge_of, lt_of, eq_to, ne_to, yes_of, no_of, is_of)
