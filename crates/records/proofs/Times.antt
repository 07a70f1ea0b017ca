-- Times are accepted exactly when their conditions hold; a stored one's seconds are a word in two's complement.
use mathlib.Core.Path.{◌≡◌, refl, sym, subst}
use mathlib.Core.Bool.{Bool, true, false}
use mathlib.Core.Logic.{◌↔◌, ◌⊎◌, inl, inr, ⊎_elim}
use mathlib.Core.List.{List}
use Prim.Native.Nat.{ℕ, suc, ◌+◌, ◌-◌, ◌^◌, ◌≤◌, ◌<◌}
use native.Mathlib.Decide.{dec_lt}
use native.Mathlib.Omega.{arith}
use borrow.Author.Tests.{le-leb, leb-true, lt-ltb, le-ltb, eq-eqb, eqb-true}
use lib.Dec.{T, leb→le, le→leb}
use lib.IntN.{ℤ, pos, negsuc, neg_ℤ}
use lib.Signed.{◌≤ℤ◌, le_z_yes}
use Rattle.std.specs.Prelude.{Ok}
use Rattle.error.specs.declared.Validation.{Validation}
use Rattle.error.proofs.Exactly.{all_hold, all_pass, passed_is, passed_test}
use Rattle.error.proofs.Tests.{and_left, and_right, and_both}
use Rattle.octets.specs.Number.{u32_at, u64_at}
use Rattle.catalog.specs.Times.{timestamp_range_demands, validate_timestamp_range, seconds_in_range, signed_number, seconds_at, nanos_at, timestamp_demands, validate_timestamp}
use Rattle.records.specs.Catalog.{TimeHolds, StoredTimeHolds}

-- ---- a time's numbers

passed : (t : Bool) → T t → t ≡ true
passed true h = refl
passed false h = absurd h

test : (t : Bool) → t ≡ true → T t
test t e = subst T (sym e) tt

module _ (seconds : ℤ) (nanos : ℕ) (mode : Validation) where
  range_holds : validate_timestamp_range seconds nanos mode ≡ Ok tt → TimeHolds seconds nanos
  unfolding validate_timestamp_range seconds_in_range
  range_holds e =
      let h = all_hold (timestamp_range_demands seconds nanos mode) e in
      record { from = le_z_yes (test _ (and_left _ _ h.0)); until = le_z_yes (test _ (and_right _ _ h.0)); nanos_most = leb-true nanos 999999999 h.1.0 }

  holds_range : TimeHolds seconds nanos → validate_timestamp_range seconds nanos mode ≡ Ok tt
  unfolding validate_timestamp_range seconds_in_range
  holds_range h = all_pass (timestamp_range_demands seconds nanos mode) (and_both _ _ (passed _ h.from.le) (passed _ h.until.le), (le-leb nanos 999999999 h.nanos_most, tt))

  pub range_exactly : (validate_timestamp_range seconds nanos mode ≡ Ok tt) ↔ TimeHolds seconds nanos
  range_exactly = (range_holds, holds_range)

-- ---- a word read as signed

module _ (word : ℕ) where
  -- below 2^63 it is itself, then that much below 2^64, and above that (where it is no word) its distance
  data Read : ℤ → Type 0 where
    after : word < 2 ^ 63 → Read (pos word)
    before : 2 ^ 63 ≤ word → word < 2 ^ 64 → Read (negsuc (2 ^ 64 - suc word))
    beyond : 2 ^ 64 ≤ word → Read (pos (word - 2 ^ 64))

  read : Read (signed_number word)
  unfolding signed_number
  read = go (dec_lt word (2 ^ 63)) (dec_lt word (2 ^ 64))
    where
      go : Dec (word < 2 ^ 63) → Dec (word < 2 ^ 64) → Read (signed_number word)
      go (yes p) d = rw (lt-ltb word (2 ^ 63) p) (after p)
      go (no p) (yes q) = rw (le-ltb word (2 ^ 63) (omega arith), lt-ltb word (2 ^ 64) q) (before (omega arith) q)
      go (no p) (no q) = rw (le-ltb word (2 ^ 63) (omega arith), le-ltb word (2 ^ 64) (omega arith)) (beyond (omega arith))

  abbrev least : ℤ
  least = neg_ℤ (pos 11644473600)

  abbrev most : ℤ
  most = pos 253402300799

  forth : {z : ℤ} → Read z → least ≤ℤ z → z ≤ℤ most → (word ≤ 253402300799) ⊎ (2 ^ 64 ≤ word + 11644473600) × (word ≤ 2 ^ 64 + 253402300799)
  forth (after p) l u = let h = leb→le word 253402300799 u.le in inl h
  forth (before p b) l u = let h = leb→le (2 ^ 64 - suc word) 11644473599 l.le in inr (omega arith, omega arith)
  forth (beyond p) l u = let h = leb→le (word - 2 ^ 64) 253402300799 u.le in inr (omega arith, omega arith)

  back : {z : ℤ} → Read z → (word ≤ 253402300799) ⊎ (2 ^ 64 ≤ word + 11644473600) × (word ≤ 2 ^ 64 + 253402300799) → (least ≤ℤ z) × (z ≤ℤ most)
  back (after p) (inl a) = (le_z_yes tt, le_z_yes (le→leb word 253402300799 a))
  back (after p) (inr a) = let l = a.0 in absurd (omega arith)
  back (before p q) (inl a) = absurd (omega arith)
  back (before p q) (inr a) = let l = a.0 in (le_z_yes (le→leb (2 ^ 64 - suc word) 11644473599 (omega arith)), le_z_yes tt)
  back (beyond p) (inl a) = absurd (omega arith)
  back (beyond p) (inr a) = let l = a.1 in (le_z_yes tt, le_z_yes (le→leb (word - 2 ^ 64) 253402300799 (omega arith)))

-- ---- a stored time

module _ (value : List ℕ) (offset : ℕ) (mode : Validation) where
  abbrev word : ℕ
  word = u64_at value offset

  stored_holds : validate_timestamp value offset mode ≡ Ok tt → StoredTimeHolds value offset
  unfolding validate_timestamp
  stored_holds e =
      let h = all_hold (timestamp_demands value offset mode) e in
      let t = (range_exactly (seconds_at value offset) (nanos_at value offset) mode).0 (passed_is (validate_timestamp_range (seconds_at value offset) (nanos_at value offset) mode) h.0) in
      let w = forth word (read word) t.from t.until in
      record { seconds = ⊎_elim (λ (a : word ≤ 253402300799). inl (omega (arith, a))) (λ (b : (2 ^ 64 ≤ word + 11644473600) × (word ≤ 2 ^ 64 + 253402300799)). inr (omega (arith, b.0), omega (arith, b.1))) w; nanos_most = t.nanos_most; zero_12 = eqb-true (u32_at value (offset + 12)) 0 h.1.0 }

  holds_stored : StoredTimeHolds value offset → validate_timestamp value offset mode ≡ Ok tt
  unfolding validate_timestamp
  holds_stored h =
      let s : (word ≤ 253402300799) ⊎ (2 ^ 64 ≤ word + 11644473600) × (word ≤ 2 ^ 64 + 253402300799) = ⊎_elim (λ a. inl (omega (arith, a))) (λ b. inr (omega (arith, b.0), omega (arith, b.1))) h.seconds in
      let w = back word (read word) s in
      let t = (range_exactly (seconds_at value offset) (nanos_at value offset) mode).1 (record { from = w.0; until = w.1; nanos_most = h.nanos_most }) in
      all_pass (timestamp_demands value offset mode) (passed_test _ tt t, (eq-eqb (u32_at value (offset + 12)) 0 h.zero_12, tt))

  pub stored_exactly : (validate_timestamp value offset mode ≡ Ok tt) ↔ StoredTimeHolds value offset
  stored_exactly = (stored_holds, holds_stored)
