-- Laws of `every` and `through`: a test at each number below n, and the last number below n at which it holds.
use mathlib.Core.Path.{◌≡◌, refl, sym, ap, ◌∙◌}
use mathlib.Core.Bool.{Bool, true, false, cond, ◌&&◌, and-false, and_assoc, true≢false}
use mathlib.Core.Logic.{◌⊎◌, inl, inr}
use Prim.Native.Nat.{ℕ, zero, suc, ◌+◌, ◌≤◌, ◌<◌}
use native.Mathlib.Nat.{add-zero, add-suc, eq-or-lt_of_le, le_of_suc-le-suc, not-suc-le-zero}
use native.Mathlib.Numerals.{add-one}
use native.Mathlib.Omega.{arith}
use Rattle.octets.specs.Below.{every, through}
use Rattle.error.proofs.Tests.{and_left, and_right}

-- the last number below suc n, or one before it
last : {i n : ℕ} → i < suc n → (i ≡ n) ⊎ (i < n)
last h = eq-or-lt_of_le (le_of_suc-le-suc h)

pub every_at : (f : ℕ → Bool) (n : ℕ) → every f n ≡ true → (i : ℕ) → i < n → f i ≡ true
every_at f zero e i h = absurd (not-suc-le-zero h)
every_at f (suc n) e i h = go (every_at f n (and_right (f n) (every f n) e) i) (last h)
  where
    go : (i < n → f i ≡ true) → (i ≡ n) ⊎ (i < n) → f i ≡ true
    go rest (inl p) = ap f p ∙ and_left (f n) (every f n) e
    go rest (inr l) = rest l

pub every_all : (f : ℕ → Bool) (n : ℕ) → ((i : ℕ) → i < n → f i ≡ true) → every f n ≡ true
every_all f zero h = refl
every_all f (suc n) h = rw (h n (omega arith), every_all f n (λ i l. h i (omega arith)))

pub every_false : (f : ℕ → Bool) (n i : ℕ) → i < n → f i ≡ false → every f n ≡ false
every_false f zero i h e = absurd (not-suc-le-zero h)
every_false f (suc n) i h e = go (λ l. every_false f n i l e) (last h)
  where
    go : (i < n → every f n ≡ false) → (i ≡ n) ⊎ (i < n) → (f n && every f n) ≡ false
    go rest (inl p) = rw (sym (ap f p) ∙ e)
    go rest (inr l) = rw (rest l) (and-false (f n))

pub every_more : (f : ℕ → Bool) (n : ℕ) → every f n ≡ true → f n ≡ true → every f (n + 1) ≡ true
every_more f n e h = rw (add-one, h, e)

-- at the first m + n numbers: at the n from m on, and at the first m
pub every_join : (f : ℕ → Bool) (m n : ℕ) → every f (m + n) ≡ (every (λ (j : ℕ). f (m + j)) n && every f m)
every_join f m zero = ap (every f) (add-zero m)
every_join f m (suc n) = rw (add-suc m n, every_join f m n) (sym (and_assoc (f (m + n)) (every (λ (j : ℕ). f (m + j)) n) (every f m)))

pub every_same : (f h : ℕ → Bool) (n : ℕ) → ((j : ℕ) → j < n → f j ≡ h j) → every f n ≡ every h n
every_same f h zero e = refl
every_same f h (suc n) e = rw (e n (omega arith), every_same f h n (λ j l. e j (omega arith)))

-- above m the test holds nowhere
pub through_none : (f : ℕ → Bool) (m n : ℕ) → m ≤ n → ((s : ℕ) → m ≤ s → s < n → f s ≡ false) → through f n ≡ through f m
through_none f m zero h none = let z : zero ≡ m = omega arith in ap (through f) z
through_none f m (suc n) h none = go (λ l. through_none f m n l (λ s p q. none s p (omega arith))) (eq-or-lt_of_le h)
  where
    go : (m ≤ n → through f n ≡ through f m) → (m ≡ suc n) ⊎ (m < suc n) → through f (suc n) ≡ through f m
    go rest (inl p) = ap (through f) (sym p)
    go rest (inr l) = rw (none n (omega arith) (omega arith)) (rest (omega arith))

pub through_last : (f : ℕ → Bool) (m n : ℕ) → m < n → f m ≡ true → ((s : ℕ) → m < s → s < n → f s ≡ false) → through f n ≡ suc m
through_last f m n h e none = through_none f (suc m) n h none ∙ rw e

pub through_le : (f : ℕ → Bool) (n : ℕ) → through f n ≤ n
through_le f zero = omega arith
through_le f (suc n) = go (f n) (through_le f n)
  where
    go : (b : Bool) → through f n ≤ n → cond b (suc n) (through f n) ≤ suc n
    go true l = omega arith
    go false l = omega arith

-- where the test holds is below
pub through_held : (f : ℕ → Bool) (n s : ℕ) → s < n → f s ≡ true → s < through f n
through_held f zero s h e = absurd (not-suc-le-zero h)
through_held f (suc n) s h e = go (f n) refl (λ l. through_held f n s l e) (last h)
  where
    go : (b : Bool) → f n ≡ b → (s < n → s < through f n) → (s ≡ n) ⊎ (s < n) → s < cond b (suc n) (through f n)
    go true p rest c = h
    go false p rest (inl q) = let z : true ≡ false = sym e ∙ ap f q ∙ p in absurd (true≢false z)
    go false p rest (inr l) = rest l

pub through_same : (f g : ℕ → Bool) (n : ℕ) → ((s : ℕ) → s < n → f s ≡ g s) → through f n ≡ through g n
through_same f g zero same = refl
through_same f g (suc n) same = rw (same n (omega arith), through_same f g n (λ s l. same s (omega arith)))

-- the last number at which the test holds
pub through_true : (f : ℕ → Bool) (n m : ℕ) → through f n ≡ suc m → f m ≡ true
through_true f zero m e = let z : ◌≡◌ {A = ℕ} 0 1 = omega arith in absurd (omega arith)
through_true f (suc n) m e = go (f n) refl e (through_true f n m)
  where
    go : (b : Bool) → f n ≡ b → cond b (suc n) (through f n) ≡ suc m → (through f n ≡ suc m → f m ≡ true) → f m ≡ true
    go true p q rest = let z : m ≡ n = omega arith in ap f z ∙ p
    go false p q rest = rest q

-- above it the test holds nowhere
pub through_above : (f : ℕ → Bool) (n s : ℕ) → through f n ≤ s → s < n → f s ≡ false
through_above f n s h l = go (f s) refl
  where
    go : (b : Bool) → f s ≡ b → f s ≡ false
    go true p = let held : s < through f n = through_held f n s l p in absurd (omega arith)
    go false p = p
