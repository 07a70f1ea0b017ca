-- What stands at the start of a list, from the tests that the code makes.
use mathlib.Core.Path.{◌≡◌, refl, sym, ap, ◌∙◌}
use mathlib.Core.Bool.{Bool, true, false, cond}
use mathlib.Core.List.{List}
use Prim.Native.Nat.{ℕ, ◌+◌, ◌-◌, ◌<◌, ◌≤◌}
use native.Mathlib.Omega.{arith}
use lib.Dec.{leb}
use lib.ListN.{length, take, drop, length-drop}
use lib.Seq.{drop-drop}
use borrow.Author.Tests.{le-leb, lt-leb, leb-true}
use Rattle.octets.specs.Bytes.{part}
use Rattle.octets.specs.Number.{field, u16_at}
use Rattle.octets.specs.Order.{order, is_greater}
use Rattle.lookup.specs.Record.{key_len, value_len, record_len, split_record, is_record, size_of, is_above, look_at, key_of}
use Rattle.lookup.specs.Inside.{end_split, record_end}
use Rattle.lookup.specs.declared.Lengths.{Lengths}
use Rattle.std.specs.Prelude.{Option, Some, None}
use Rattle.std.proofs.lemmas.Option.{same_Some}

pub split_short : (s : List ℕ) → length s < 4 → None ≡ split_record s
unfolding split_record
split_short s l = rw (lt-leb (record_len s) (length s) (omega arith))

module _ (s : List ℕ) (k v : ℕ) where
  pub split_broken : k ≡ key_len s → v ≡ value_len s → length s < 4 + k + v → None ≡ split_record s
  unfolding split_record
  split_broken p q l = rw (lt-leb (record_len s) (length s) (omega arith))

  pub split_record_lem : k ≡ key_len s → v ≡ value_len s → 4 + k + v ≤ length s → Some (record { key_len = k; value_len = v }) ≡ split_record s
  unfolding split_record
  split_record_lem p q l = rw (le-leb (record_len s) (length s) (omega arith), p, q)

-- a whole record, as the tests tell it
pub record_is : (s : List ℕ) → is_record (split_record s) ≡ true → split_record s ≡ Some (record { key_len = key_len s; value_len = value_len s })
unfolding split_record
record_is s e = go (leb (record_len s) (length s)) e
  where
    l : Lengths
    l = record { key_len = key_len s; value_len = value_len s }

    go : (b : Bool) → is_record (cond b (Some l) None) ≡ true → cond b (Some l) None ≡ Some l
    go true e = refl
    go false e = absurd cc

pub split_fits : (s : List ℕ) (l : Lengths) → split_record s ≡ Some l → 4 + l.key_len + l.value_len ≤ length s
unfolding split_record
split_fits s l e = go (leb (record_len s) (length s)) refl e
  where
    m : Lengths
    m = record { key_len = key_len s; value_len = value_len s }

    go : (b : Bool) → leb (record_len s) (length s) ≡ b → cond b (Some m) None ≡ Some l → 4 + l.key_len + l.value_len ≤ length s
    go true p f = rw (← same_Some m l f) (leb-true (record_len s) (length s) p)
    go false p f = absurd cc

-- a look at the start of s, where r is what splitting it gave and t is whether the key of k bytes is above the sought one
module _ (s key : List ℕ) (r : Option Lengths) where
  pub look_above : (l : Lengths) (t : Bool) → r ≡ split_record s → r ≡ Some l → t ≡ is_greater (order (part s 4 (4 + l.key_len - 4)) key) → t ≡ true → None ≡ look_at s key
  unfolding look_at
  look_above l t p q f g =
      let n : 4 + l.key_len - 4 ≡ l.key_len = omega arith in
      let h : is_greater (order (part s 4 l.key_len) key) ≡ true = (rw n at (sym f)) ∙ g in
      rw (sym p ∙ q, h)

  pub look_size : (l : Lengths) (t : Bool) → r ≡ split_record s → r ≡ Some l → t ≡ is_greater (order (part s 4 (4 + l.key_len - 4)) key) → t ≡ false → Some (4 + l.key_len + l.value_len) ≡ look_at s key
  unfolding look_at
  look_size l t p q f g =
      let n : 4 + l.key_len - 4 ≡ l.key_len = omega arith in
      let h : is_greater (order (part s 4 l.key_len) key) ≡ false = (rw n at (sym f)) ∙ g in
      rw (sym p ∙ q, h)

  pub look_broken : r ≡ split_record s → r ≡ None → None ≡ look_at s key
  unfolding look_at
  look_broken p q = rw (sym p ∙ q)

-- where a record is not above the key, it takes as many bytes as the look says, and they are there
pub look_is : (s key : List ℕ) (z : ℕ) → look_at s key ≡ Some z → (size_of (split_record s) ≡ z) × (z ≤ length s)
unfolding look_at
look_is s key z e = go (split_record s) refl
  where
    go : (r : Option Lengths) → split_record s ≡ r → (size_of (split_record s) ≡ z) × (z ≤ length s)
    go (Some l) p = there (is_greater (order (take l.key_len (drop 4 s)) key)) refl
      where
        there : (b : Bool) → is_greater (order (take l.key_len (drop 4 s)) key) ≡ b → (size_of (split_record s) ≡ z) × (z ≤ length s)
        there true q = let f : None ≡ Some z = rw (p, q) at e in absurd cc
        there false q =
            let g : 4 + l.key_len + l.value_len ≡ z = same_Some _ _ (rw (p, q) at e) in
            (rw p g, omega (arith, split_fits s l p))
    go None p = let f : None ≡ Some z = rw p at e in absurd cc

-- ---- a whole record at a place of a part
pub above_is : (s key : List ℕ) → is_record (split_record s) ≡ true → is_above (look_at s key) ≡ is_greater (order (key_of s) key)
unfolding look_at
above_is s key e = rw (record_is s e) (go (is_greater (order (key_of s) key)))
  where
    go : (b : Bool) → is_above (cond b None (Some (record_len s))) ≡ b
    go true = refl
    go false = refl

module _ (s key : List ℕ) (at : ℕ) (whole : is_record (split_record (drop at s)) ≡ true) where
  pub whole_fits : at + 4 + u16_at s at ≤ length s
  unfolding field
  whole_fits = omega (arith, split_fits (drop at s) _ (record_is (drop at s) whole), length-drop at s)

  pub above_at_is : (k : ℕ) (r : Bool) → k ≡ u16_at s at → r ≡ is_greater (order (part s (at + 4) (at + 4 + k - (at + 4))) key) → r ≡ is_above (look_at (drop at s) key)
  unfolding field
  above_at_is k r e p =
      let n : at + 4 + k - (at + 4) ≡ k = omega arith in
      p ∙ rw (n, e, ← drop-drop 4 at s) (sym (above_is (drop at s) key whole))

-- ---- where the record at a place ends, by the numbers k and v that stand there
module _ (s : List ℕ) (at : ℕ) (within : at ≤ length s) where
  pub end_short : length s < at + 4 → None ≡ record_end s at
  unfolding record_end
  end_short h = rw (← split_short (drop at s) (rw length-drop (omega arith)))

  module _ (k v : ℕ) (is : k ≡ u16_at s at) (is' : v ≡ u16_at s (at + 2)) where
    -- the lengths as the record has them
    lengths : (k ≡ key_len (drop at s)) × (v ≡ value_len (drop at s))
    unfolding field
    lengths = (is, is' ∙ rw (drop-drop 2 at s))

    pub end_broken : length s < at + 4 + k + v → None ≡ record_end s at
    unfolding record_end
    end_broken h = rw (← split_broken (drop at s) k v lengths.0 lengths.1 (rw length-drop (omega arith)))

    pub end_at : at + 4 + k + v ≤ length s → Some (at + 4 + k + v) ≡ record_end s at
    unfolding record_end
    end_at h = rw (← split_record_lem (drop at s) k v lengths.0 lengths.1 (rw length-drop (omega arith))) (ap Some (omega arith))

pub end_is_at : (s : List ℕ) (at e : ℕ) → record_end s at ≡ Some e → (e ≡ at + size_of (split_record (drop at s))) × (is_record (split_record (drop at s)) ≡ true)
unfolding record_end
end_is_at s at e p = go (split_record (drop at s)) p
  where
    go : (r : Option Lengths) → end_split at r ≡ Some e → (e ≡ at + size_of r) × (is_record r ≡ true)
    go (Some l) q = (sym (same_Some _ _ q), refl)
    go None q = absurd cc

pub end_is_broken : (s : List ℕ) (at : ℕ) → record_end s at ≡ None → split_record (drop at s) ≡ None
unfolding record_end
end_is_broken s at p = go (split_record (drop at s)) p
  where
    go : (r : Option Lengths) → end_split at r ≡ None → r ≡ None
    go (Some l) q = absurd cc
    go None q = refl
