-- The records of a page, sought one by one from the last: the one with a key, and the floor record.
use mathlib.Core.Path.{◌≡◌, refl, sym, ap, ap₂, ◌∙◌}
use mathlib.Core.Bool.{Bool, true, false, cond, true≢false}
use mathlib.Core.Logic.{◌⊎◌, inl, inr}
use mathlib.Core.List.{List}
use Prim.Native.Nat.{ℕ, zero, suc, ◌<◌}
use native.Mathlib.Nat.{eq-or-lt_of_le, le_of_suc-le-suc, not-suc-le-zero}
use native.Mathlib.Decide.{dec_lt}
use native.Mathlib.Omega.{arith}
use Rattle.std.specs.Prelude.{Option, Some, None}
use Rattle.std.specs.declared.cmp.Ordering.TheVariants.{Less, Equal}
use Rattle.octets.specs.Bytes.{same_bytes}
use Rattle.octets.specs.Order.{order}
use Rattle.octets.proofs.OrderLaws.{order_same}
use Rattle.octets.proofs.Same.{same_is, same_self}
use Rattle.lookup.specs.Sorted.{Sorted, key_at, key_above}
use Rattle.search.specs.Search.{with_key, floor_of}
use Rattle.search.proofs.Floor.{floor_none, floor_some}

module _ (payload key : List ℕ) where
  -- ---- the record with that very key

  abbrev pub KeyAt : ℕ → Option ℕ → Type 0
  KeyAt n (Some k) = (k < n) × (key_at payload k ≡ key)
  KeyAt n None = (k : ℕ) → k < n → key_at payload k ≡ key → ⊥

  pub with_key_is : (n : ℕ) → KeyAt n (with_key payload key n)
  unfolding with_key
  with_key_is zero = λ k l e. not-suc-le-zero l
  with_key_is (suc n) = go (same_bytes (key_at payload n) key) refl (with_key payload key n) (with_key_is n)
    where
      go : (b : Bool) → same_bytes (key_at payload n) key ≡ b → (o : Option ℕ) → KeyAt n o → KeyAt (suc n) (cond b (Some n) o)
      go true p o h = (omega arith, same_is (key_at payload n) key p)
      go false p (Some k) h = (omega (arith, h.0), h.1)
      go false p None h = λ k l e. by k e (eq-or-lt_of_le (le_of_suc-le-suc l))
        where
          by : (k : ℕ) → key_at payload k ≡ key → (k ≡ n) ⊎ (k < n) → ⊥
          by k e (inl q) = true≢false (sym (same_self key) ∙ ap (λ (x : List ℕ). same_bytes x key) (sym e ∙ ap (key_at payload) q) ∙ p)
          by k e (inr m) = h k m e

  -- keys that strictly increase have it once
  pub with_key_at : (n : ℕ) → Sorted payload n → (k : ℕ) → k < n → key_at payload k ≡ key → with_key payload key n ≡ Some k
  with_key_at n sorted k l e = go (with_key payload key n) (with_key_is n)
    where
      never : (i j : ℕ) → i < j → j < n → key_at payload i ≡ key → key_at payload j ≡ key → ⊥
      never i j l m p q =
          let less : order key key ≡ Less = ap₂ order (sym p) (sym q) ∙ sorted.increasing i j l m in
          let same : order key key ≡ Equal = order_same key in
          absurd cc

      go : (o : Option ℕ) → KeyAt n o → o ≡ Some k
      go (Some j) h = by (dec_lt j k) (dec_lt k j)
        where
          by : Dec (j < k) → Dec (k < j) → Some j ≡ Some k
          by (yes m) d = absurd (never j k m l h.1 e)
          by (no m) (yes i) = absurd (never k j i h.0 e h.1)
          by (no m) (no i) = let z : j ≡ k = omega arith in ap Some z
      go None h = absurd (h k l e)

  pub with_key_none : (n : ℕ) → ((k : ℕ) → k < n → key_at payload k ≡ key → ⊥) → with_key payload key n ≡ None
  with_key_none n none = go (with_key payload key n) (with_key_is n)
    where
      go : (o : Option ℕ) → KeyAt n o → o ≡ None
      go (Some k) h = absurd (none k h.0 h.1)
      go None h = refl

  -- ---- the floor record

  abbrev pub FloorAt : ℕ → Option ℕ → Type 0
  FloorAt n (Some k) = (k < n) × (key_above payload key k ≡ false) × ((j : ℕ) → k < j → j < n → key_above payload key j ≡ true)
  FloorAt n None = (j : ℕ) → j < n → key_above payload key j ≡ true

  pub floor_is : (n : ℕ) → FloorAt n (floor_of payload key n)
  unfolding floor_of
  floor_is zero = λ j l. absurd (not-suc-le-zero l)
  floor_is (suc n) = go (key_above payload key n) refl (floor_of payload key n) (floor_is n)
    where
      go : (b : Bool) → key_above payload key n ≡ b → (o : Option ℕ) → FloorAt n o → FloorAt (suc n) (cond b o (Some n))
      go true p (Some k) h = (omega (arith, h.0), h.1, λ j l m. by k h.2 j l (eq-or-lt_of_le (le_of_suc-le-suc m)))
        where
          by : (k : ℕ) → ((j : ℕ) → k < j → j < n → key_above payload key j ≡ true) → (j : ℕ) → k < j → (j ≡ n) ⊎ (j < n) → key_above payload key j ≡ true
          by k a j l (inl q) = ap (key_above payload key) q ∙ p
          by k a j l (inr m) = a j l m
      go true p None h = λ j l. by j (eq-or-lt_of_le (le_of_suc-le-suc l))
        where
          by : (j : ℕ) → (j ≡ n) ⊎ (j < n) → key_above payload key j ≡ true
          by j (inl q) = ap (key_above payload key) q ∙ p
          by j (inr m) = h j m
      go false p o h = (omega arith, p, λ j l m. absurd (omega arith))

  -- there is one such answer
  pub floor_same : (n : ℕ) (x : Option ℕ) → FloorAt n x → floor_of payload key n ≡ x
  floor_same n (Some k) h = floor_some payload key n k h.0 h.1 h.2
  floor_same n None h = floor_none payload key n h
