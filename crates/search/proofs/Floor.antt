-- The floor record of a sorted part, by the lookup's answer: the plain definitions find the same.
use mathlib.Core.Path.{◌≡◌, refl, sym, ap, ◌∙◌}
use mathlib.Core.Bool.{Bool, true, false, cond, true≢false}
use mathlib.Core.List.{List}
use Prim.Native.Nat.{ℕ, zero, suc, ◌≤◌, ◌<◌}
use native.Mathlib.Nat.{eq-or-lt_of_le, le_of_suc-le-suc}
use native.Mathlib.Decide.{dec_lt}
use native.Mathlib.Omega.{arith}
use mathlib.Core.Logic.{◌⊎◌, inl, inr}
use lib.ListN.{length}
use Rattle.std.specs.Prelude.{Option, Some, None}
use Rattle.octets.specs.Bytes.{same_bytes}
use Rattle.octets.specs.Order.{order, is_greater}
use Rattle.octets.proofs.OrderLaws.{order_same, order_flip}
use Rattle.octets.proofs.Same.{same_is}
use Rattle.lookup.specs.Floor.{floor_at, answer_of, floor_answer}
use Rattle.lookup.specs.declared.Answer.{Answer}
use Rattle.lookup.proofs.SortedLaws.{floor_answers}
use Rattle.std.proofs.lemmas.Option.{same_Some}
use Rattle.lookup.specs.Sorted.{key_at, key_above, Sorted, IsFloor}
use Rattle.lookup.specs.declared.Floor.{Floor}
use Rattle.search.specs.Search.{floor_of, with_key}

module _ (payload key : List ℕ) where
  -- ---- the floor record

  pub floor_none : (n : ℕ) → ((j : ℕ) → j < n → key_above payload key j ≡ true) → floor_of payload key n ≡ None
  unfolding floor_of
  floor_none zero above = refl
  floor_none (suc n) above = rw (above n (omega arith)) (floor_none n (λ j l. above j (omega arith)))

  pub floor_some : (n k : ℕ) → k < n → key_above payload key k ≡ false → ((j : ℕ) → k < j → j < n → key_above payload key j ≡ true) → floor_of payload key n ≡ Some k
  unfolding floor_of
  floor_some zero k l at above = absurd (omega arith)
  floor_some (suc n) k l at above = go (eq-or-lt_of_le (le_of_suc-le-suc l)) (λ m. floor_some n k m at (λ j a b. above j a (omega arith)))
    where
      go : (k ≡ n) ⊎ (k < n) → (k < n → floor_of payload key n ≡ Some k) → cond (key_above payload key n) (floor_of payload key n) (Some n) ≡ Some k
      go (inl e) rest = rw (← e, at)
      go (inr m) rest = rw (above n m (omega arith)) (rest m)

  -- ---- the record with that very key

  -- a key above the sought one isn't it
  above_other : (j : ℕ) → key_above payload key j ≡ true → same_bytes (key_at payload j) key ≡ false
  above_other j above = go (same_bytes (key_at payload j) key) refl
    where
      go : (b : Bool) → same_bytes (key_at payload j) key ≡ b → b ≡ false
      go true e =
          let p : key_above payload key j ≡ false = ap (λ (k : List ℕ). is_greater (order k key)) (same_is (key_at payload j) key e) ∙ ap is_greater (order_same key) in
          absurd (true≢false (sym above ∙ p))
      go false e = refl

  pub with_none : (n : ℕ) → ((j : ℕ) → j < n → same_bytes (key_at payload j) key ≡ false) → with_key payload key n ≡ None
  unfolding with_key
  with_none zero other = refl
  with_none (suc n) other = rw (other n (omega arith)) (with_none n (λ j l. other j (omega arith)))

  pub with_some : (n k : ℕ) → k < n → same_bytes (key_at payload k) key ≡ true → ((j : ℕ) → k < j → j < n → same_bytes (key_at payload j) key ≡ false) → with_key payload key n ≡ Some k
  unfolding with_key
  with_some zero k l at other = absurd (omega arith)
  with_some (suc n) k l at other = go (eq-or-lt_of_le (le_of_suc-le-suc l)) (λ m. with_some n k m at (λ j a b. other j a (omega arith)))
    where
      go : (k ≡ n) ⊎ (k < n) → (k < n → with_key payload key n ≡ Some k) → cond (same_bytes (key_at payload n) key) (Some n) (with_key payload key n) ≡ Some k
      go (inl e) rest = rw (← e, at)
      go (inr m) rest = rw (other n m (omega arith)) (rest m)

-- ---- what a lookup's answer tells

-- the record that was found
pub record Hit (payload key : List ℕ) (count : ℕ) (a : Answer) : Type 0 where
  pub inside : a.index < count
  pub floor : floor_of payload key count ≡ Some a.index
  pub exact : same_bytes (key_at payload a.index) key ≡ true → with_key payload key count ≡ Some a.index
  pub other : same_bytes (key_at payload a.index) key ≡ false → with_key payload key count ≡ None

module _ (payload key : List ℕ) (count entries : ℕ) (sorted : Sorted payload count) (small : length payload ≤ 65535) (found : Option Answer)
    (is : found ≡ floor_answer payload count key entries) where
  answers : IsFloor payload count key (floor_at payload count key entries)
  answers = floor_answers payload key count sorted entries small

  -- every key is above the sought one
  pub missed : found ≡ None → (floor_of payload key count ≡ None) × (with_key payload key count ≡ None)
  missed e = go (floor_at payload count key entries) answers (sym is ∙ e)
    where
      go : (f : Option Floor) → IsFloor payload count key f → answer_of (length payload) count f ≡ None → (floor_of payload key count ≡ None) × (with_key payload key count ≡ None)
      go (Some f) h p = absurd cc
      go None h p = (floor_none payload key count h, with_none payload key count (λ j l. above_other payload key j (h j l)))

  -- where the floor record has another key, every record has
  others : (k : ℕ) → k < count → same_bytes (key_at payload k) key ≡ false → key_above payload key k ≡ false → ((j : ℕ) → k < j → j < count → key_above payload key j ≡ true)
      → (j : ℕ) → j < count → same_bytes (key_at payload j) key ≡ false
  others k i s at above j l = go (same_bytes (key_at payload j) key) refl (dec_lt j k) (dec_lt k j)
    where
      go : (b : Bool) → same_bytes (key_at payload j) key ≡ b → Dec (j < k) → Dec (k < j) → b ≡ false
      go false e m n = refl
      go true e (yes m) n =
          let p : key_above payload key k ≡ true =
          ap (λ (x : List ℕ). is_greater (order (key_at payload k) x)) (sym (same_is (key_at payload j) key e)) ∙ ap is_greater (order_flip (key_at payload j) (key_at payload k) (sorted.increasing j k m i)) in
          sym p ∙ at
      go true e (no m) (yes n) = sym e ∙ above_other payload key j (above j n l)
      go true e (no m) (no n) =
          let q : j ≡ k = omega arith in
          sym e ∙ ap (λ (x : ℕ). same_bytes (key_at payload x) key) q ∙ s

  pub hit : (a : Answer) → found ≡ Some a → Hit payload key count a
  hit a e = go (floor_at payload count key entries) answers (sym is ∙ e)
    where
      go : (f : Option Floor) → IsFloor payload count key f → answer_of (length payload) count f ≡ Some a → Hit payload key count a
      go (Some f) h p =
          let q = same_Some _ _ p in
          rw (← q) (record {
            inside = h.0;
            floor = floor_some payload key count f.index h.0 h.2 h.3;
            exact = λ s. with_some payload key count f.index h.0 s (λ j l m. above_other payload key j (h.3 j l m));
            other = λ s. with_none payload key count (others f.index h.0 s h.2 h.3);
          })
      go None h p = absurd cc
