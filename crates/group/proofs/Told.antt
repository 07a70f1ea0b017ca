-- On an accepted group no slot is refused, and its answer is what stands in the group; and there is an accepted group.
use mathlib.Core.Path.{◌≡◌, refl, sym, ap, ◌∙◌, subst}
use mathlib.Core.Bool.{Bool, true, false, cond}
use mathlib.Core.List.{List}
use Prim.Native.Nat.{ℕ, ◌<◌}
use native.Mathlib.Omega.{arith}
use native.Mathlib.Decide.{dec_lt}
use borrow.Author.Tests.{ltb-true}
use lib.Dec.{ltb}
use lib.ListN.{get_or}
use Rattle.std.proofs.lemmas.List.{get_or_past}
use Rattle.std.specs.Prelude.{Some, None, Ok}
use Rattle.error.specs.Answer.{check_class}
use Rattle.error.specs.Demand.{outcome}
use Rattle.octets.specs.Below.{every}
use Rattle.octets.specs.Number.{big_at, field}
use Rattle.octets.proofs.Below.{every_at}
use Rattle.group.specs.Group.{present, word, stored_slots, is_compact, holes_zero, right_size, checksum_slot, validate_checksum_group}
use Rattle.group.specs.Slots.{Slot, presence, word_in}
use Rattle.group.specs.Agree.{SlotTold, SlotsAreTold, some_group, SomeGroupAccepted}
use Rattle.group.proofs.Slots.{Good, good, slot_held, slot_hole, in_stored}
use Rattle.group.proofs.Agree.{expanded_slots}

module _ (g : List ℕ) (ok : Good g) (s : ℕ) (h : s < 256) where
  held : present g s ≡ true → SlotTold g s (checksum_slot g s)
  held p =
      let e : checksum_slot g s ≡ Ok (Some (word g s)) = slot_held g s h (omega (arith, ok.ends, in_stored g ok s h p)) p in
      record {
        class = ap check_class e;
        presence_is = ap presence e ∙ sym p;
        word_is = ap word_in e ∙ sym (ap (λ (b : Bool). cond b (word g s) 0) p);
      }

  hole : present g s ≡ false → SlotTold g s (checksum_slot g s)
  hole p =
      let e : checksum_slot g s ≡ Ok None = slot_hole g s h (omega (arith, ok.long)) p in
      record {
        class = ap check_class e;
        presence_is = ap presence e ∙ sym p;
        word_is = ap word_in e ∙ sym (ap (λ (b : Bool). cond b (word g s) 0) p);
      }

  told : SlotTold g s (checksum_slot g s)
  told = go (present g s) refl
    where
      go : (b : Bool) → present g s ≡ b → SlotTold g s (checksum_slot g s)
      go true p = held p
      go false p = hole p

pub slots_are_told : SlotsAreTold
slots_are_told key group mode a s h =
    let t = told group (good key group mode a) s h in
    (t, subst (λ (x : Slot). SlotTold group s x) (sym (expanded_slots key group mode a s)) t)

-- its 44 bytes are bytes
small : every (λ i. ltb (get_or some_group i 0) 256) 44 ≡ true
small = refl

low : (i : ℕ) → get_or some_group i 0 < 256
low i = go (dec_lt i 44)
  where
    go : Dec (i < 44) → get_or some_group i 0 < 256
    go (yes l) = ltb-true (get_or some_group i 0) 256 (every_at (λ (k : ℕ). ltb (get_or some_group k 0) 256) 44 small i l)
    go (no l) = let z : get_or some_group i 0 ≡ 0 = get_or_past some_group i 0 (omega arith) in omega (arith, z)

pub some_group_accepted : SomeGroupAccepted
unfolding big_at field validate_checksum_group outcome stored_slots is_compact holes_zero right_size
some_group_accepted = record { bytes = record { below = low }; passed = refl }
