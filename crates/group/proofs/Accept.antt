-- A checksum group is accepted exactly when each rule holds.
use mathlib.Core.Path.{◌≡◌, refl, sym, ap, ◌∙◌}
use mathlib.Core.Bool.{Bool, true, false, true≢false, ◌||◌}
use mathlib.Core.List.{List}
use Prim.Native.Nat.{ℕ, suc, ◌-◌, ◌≤◌, ◌<◌}
use native.Mathlib.Decide.{dec_lt}
use native.Mathlib.Omega.{arith}
use borrow.Author.Tests.{le-leb, leb-true, eq-eqb, eqb-true}
use lib.Dec.{leb, eqb}
use lib.ListN.{length}
use Rattle.error.specs.declared.Validation.{Validation}
use Rattle.std.specs.Prelude.{Ok}
use Rattle.error.proofs.Exactly.{all_hold, all_pass}
use Rattle.error.proofs.Tests.{and_left, and_right, and_both}
use Rattle.octets.specs.Below.{through}
use Rattle.octets.specs.Number.{big_at}
use Rattle.octets.proofs.Below.{every_at, every_all, through_le, through_last, through_true, through_above}
use Rattle.group.specs.Group.{present, word, stored_slots, stored_bytes, hole_zero, is_compact, holes_zero, right_size, max_checksum_group, group_demands, validate_checksum_group}
use Rattle.group.specs.Accept.{GroupHolds, GroupExactly}
use Rattle.group.specs.Inside.{Sized}
use Rattle.group.proofs.Compact.{sized}

-- ---- by the definitions of the check: its size, its last present slot and its holes

pub record ByDefinition (key value : List ℕ) : Type 0 where
  pub key_long : 17 ≤ length key
  pub index : big_at key 9 ≤ max_checksum_group
  pub size : Sized (length value)
  pub ends : length value ≡ stored_bytes value
  pub holes : (s : ℕ) → s < stored_slots value → present value s ≡ false → word value s ≡ 0

pub holds : (key value : List ℕ) (mode : Validation) → validate_checksum_group key value mode ≡ Ok tt → ByDefinition key value
unfolding validate_checksum_group is_compact holes_zero
holds key value mode e =
    let h = all_hold (group_demands key value mode) e in
    let size = sized (length value) (and_right (leb (big_at key 9) max_checksum_group) (right_size (length value)) h.1.0) in
    record {
      key_long = leb-true 17 (length key) h.0;
      index = leb-true (big_at key 9) max_checksum_group (and_left (leb (big_at key 9) max_checksum_group) (right_size (length value)) h.1.0);
      size = size;
      ends = eqb-true (length value) (stored_bytes value) h.1.1.0;
      holes = λ s l p. hole (present value s) (word value s) (every_at (hole_zero value) (stored_slots value) h.1.1.1.0 s l) p;
    }
  where
    hole : (b : Bool) (w : ℕ) → (b || eqb w 0) ≡ true → b ≡ false → w ≡ 0
    hole true w e p = cc
    hole false w e p = eqb-true w 0 e

passes : (key value : List ℕ) (mode : Validation) → ByDefinition key value → validate_checksum_group key value mode ≡ Ok tt
unfolding validate_checksum_group right_size is_compact holes_zero
passes key value mode h =
    all_pass (group_demands key value mode) (
      le-leb 17 (length key) h.key_long,
      (
        and_both _ _ (le-leb (big_at key 9) max_checksum_group h.index) (and_both _ _ (and_both _ _ (le-leb 36 (length value) h.size.long) (le-leb (length value) 1056 h.size.short)) (eq-eqb _ 0 h.size.whole)),
        (
          eq-eqb (length value) (stored_bytes value) h.ends,
          (every_all (hole_zero value) (stored_slots value) (λ s l. hole s (present value s) refl (h.holes s l)), tt),
        ),
      ),
    )
  where
    hole : (s : ℕ) (b : Bool) → present value s ≡ b → (present value s ≡ false → word value s ≡ 0) → hole_zero value s ≡ true
    hole s true p z = rw p
    hole s false p z = rw (p, z p)

-- ---- plainly: the last present slot is the one behind which none is

plain : (key value : List ℕ) → ByDefinition key value → GroupHolds key value
unfolding stored_slots
plain key value d =
    let n : ℕ = stored_slots value in
    let some : 1 ≤ n = omega (arith, d.size.long, d.ends) in
    let before : through (present value) 256 ≡ suc (n - 1) = omega (arith, some) in
    record {
      key_long = d.key_long;
      index = omega (arith, d.index);
      last = n - 1;
      last_most = let m : n ≤ 256 = through_le (present value) 256 in omega (arith, m, some);
      last_present = through_true (present value) 256 (n - 1) before;
      none_behind = λ s l m. through_above (present value) 256 s (omega (arith, l, some)) (omega (arith, m));
      size = omega (arith, d.ends, some);
      holes = λ s l p. d.holes s (omega (arith, l, some)) p;
    }

through_is : (key value : List ℕ) (h : GroupHolds key value) → stored_slots value ≡ suc h.last
unfolding stored_slots
through_is key value h =
    through_last (present value) h.last 256 (omega (arith, h.last_most)) h.last_present (λ s l m. h.none_behind s (omega (arith, l)) (omega (arith, m)))

defined : (key value : List ℕ) → GroupHolds key value → ByDefinition key value
defined key value h =
    let n = through_is key value h in
    record {
      key_long = h.key_long;
      index = omega (arith, h.index);
      size = record { long = omega (arith, h.size); short = omega (arith, h.size, h.last_most); whole = omega (arith, h.size) };
      ends = omega (arith, h.size, n);
      holes = λ s l p. hole s (omega (arith, l, n)) p (dec_lt s h.last);
    }
  where
    hole : (s : ℕ) → s ≤ h.last → present value s ≡ false → Dec (s < h.last) → word value s ≡ 0
    hole s l p (yes b) = h.holes s b p
    hole s l p (no b) = let e : s ≡ h.last = omega (arith, l) in absurd (true≢false (sym h.last_present ∙ ap (present value) (sym e) ∙ p))

pub group_exactly : GroupExactly
group_exactly key value mode = (λ e. plain key value (holds key value mode e), λ h. passes key value mode (defined key value h))
