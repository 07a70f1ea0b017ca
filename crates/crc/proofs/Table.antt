-- The rule of the tables, proved at all of their entries by one test that antt computes: entry i is one zero byte after entry i of the list
-- 0, 1, .., 255 with the tables themselves behind it. The test takes that byte step by a list of 256 registers, which it computes first from
-- the definition. (By eight bit steps at each entry it takes three times as long, and with no use of earlier entries it ends at the step limit.)
use mathlib.Core.Path.{◌≡◌, refl, sym, ap, ◌∙◌, subst}
use mathlib.Core.Bool.{Bool, true, false, ◌&&◌}
use mathlib.Core.List.{List, [], ◌∷◌, ◌++◌}
use Prim.Native.Nat.{ℕ, zero, suc, ◌+◌, ◌*◌, ◌/◌, ◌%◌, ◌^◌, ◌<◌}
use native.Mathlib.Nat.{le_of_suc-le-suc, not-suc-le-zero, add-zero, zero-add, suc-add, add-suc, mod-lt}
use native.Mathlib.Omega.{arith}
use lib.Dec.{T, eqb, eqb→eq}
use lib.ListN.{length, get_or, get_or-append}
use lib.Pow.{pow_pos}
use lib.Seq.{get_or-append-add}
use Rattle.crc.specs.Crc.{step_bits}
use Rattle.crc.specs.Tables.{IsTables}
use Rattle.crc.proofs.Xor.{◌⊕◌}
use Rattle.crc.proofs.Linear.{step_bits_add, step_bits_low, extend_entry}

-- ---- for any list

left : (a b : Bool) → T (a && b) → T a
left true b t = tt
left false b t = t

right_of : (a b : Bool) → T (a && b) → T b
right_of true b t = t
right_of false b t = absurd t

module _ (f : ℕ → ℕ) where
  -- each entry of the second list is f of the entry of the first
  abbrev pub follow : List ℕ → List ℕ → Bool
  follow ps [] = true
  follow [] (x ∷ xs) = false
  follow (p ∷ ps) (x ∷ xs) = eqb x (f p) && follow ps xs

  pub follows : (ps xs : List ℕ) → T (follow ps xs) → (i : ℕ) → i < length xs → get_or xs i 0 ≡ f (get_or ps i 0)
  follows ps [] t i h = absurd (not-suc-le-zero h)
  follows [] (x ∷ xs) t i h = absurd t
  follows (p ∷ ps) (x ∷ xs) t zero h = eqb→eq x (f p) (left (eqb x (f p)) (follow ps xs) t)
  follows (p ∷ ps) (x ∷ xs) t (suc i) h =
      follows ps xs (right_of (eqb x (f p)) (follow ps xs) t) i (le_of_suc-le-suc h)

  -- f n, f (n + 1), .., as many as the first number says
  abbrev pub count : ℕ → ℕ → List ℕ
  count zero n = []
  count (suc k) n = f n ∷ count k (suc n)

  count_at : (k n b : ℕ) → b < k → get_or (count k n) b 0 ≡ f (n + b)
  count_at zero n b h = absurd (not-suc-le-zero h)
  count_at (suc k) n zero h = ap f (sym (add-zero n))
  count_at (suc k) n (suc b) h =
      count_at k (suc n) b (le_of_suc-le-suc h) ∙ ap f (suc-add n b ∙ sym (add-suc n b))

  count_length : (k n : ℕ) → length (count k n) ≡ k
  count_length zero n = refl
  count_length (suc k) n = ap suc (count_length k (suc n))

-- ---- the test

-- a byte step, by a list of the registers after one byte
abbrev pub quick : List ℕ → ℕ → ℕ
quick first p = (p / 2 ^ 8) ⊕ get_or first (p % 2 ^ 8) 0

abbrev pub bytes : List ℕ
bytes = count (λ n. n) 256 0

unfoldable pub right : List ℕ → Bool
right xs = let first = count (step_bits 8) 256 0 in follow (quick first) (bytes ++ xs) xs

pub quick_is : (p : ℕ) → quick (count (step_bits 8) 256 0) p ≡ step_bits 8 p
quick_is p =
    ap (λ (x : ℕ). (p / 2 ^ 8) ⊕ x)
    (count_at (step_bits 8) 256 0 (p % 2 ^ 8) (mod-lt p (pow_pos 8)) ∙ ap (step_bits 8) (zero-add (p % 2 ^ 8)))
    ∙ sym (step_bits_low 8 p)

module _ (xs : List ℕ) (t : T (right xs)) (n : length xs ≡ 2048) where
  one : (i : ℕ) → i < 2048 → get_or xs i 0 ≡ step_bits 8 (get_or (bytes ++ xs) i 0)
  unfolding right
  one i h =
      follows (quick (count (step_bits 8) 256 0)) (bytes ++ xs) xs t i (subst (λ (m : ℕ). i < m) (sym n) h)
      ∙ quick_is (get_or (bytes ++ xs) i 0)

  back : (k b : ℕ) → get_or (bytes ++ xs) (suc k * 256 + b) 0 ≡ get_or xs (k * 256 + b) 0
  back k b =
      let e : suc k * 256 + b ≡ length bytes + (k * 256 + b) = omega (arith, count_length (λ n. n) 256 0) in
      ap (λ (i : ℕ). get_or (bytes ++ xs) i 0) e ∙ get_or-append-add bytes xs (k * 256 + b) 0

  steps : (k b : ℕ) → k < 8 → b < 256 → get_or xs (k * 256 + b) 0 ≡ step_bits (8 * (k + 1)) b
  steps zero b hk hb =
      one (zero * 256 + b) (omega arith)
      ∙ ap (step_bits 8)
      (ap (λ (i : ℕ). get_or (bytes ++ xs) i 0) (zero-add b) ∙ get_or-append bytes xs 0 b hb
      ∙ count_at (λ n. n) 256 0 b hb ∙ zero-add b)
  steps (suc k) b hk hb =
      one (suc k * 256 + b) (omega arith)
      ∙ ap (step_bits 8) (back k b ∙ steps k b (omega arith) hb)
      ∙ sym (step_bits_add (8 * (k + 1)) 8 b)
      ∙ ap (λ (m : ℕ). step_bits m b) (omega arith)

  pub rule : IsTables xs
  unfolding IsTables
  rule k b hk hb = steps k b hk hb ∙ sym (extend_entry k b)
