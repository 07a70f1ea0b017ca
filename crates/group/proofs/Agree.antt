-- Demand 3 for checksum groups.
use mathlib.Core.Path.{◌≡◌, sym, ap, ◌∙◌}
use mathlib.Core.List.{List}
use Prim.Native.Nat.{ℕ, ◌+◌, ◌-◌, ◌*◌, ◌/◌, ◌%◌, ◌≤◌, ◌<◌}
use native.Mathlib.Nat.{mod-lt}
use native.Mathlib.Decide.{dec_lt}
use native.Mathlib.Omega.{arith}
use lib.Dec.{lit<}
use lib.ListN.{length, get_or, drop}
use lib.Seq.{get_or-take, get_or-drop, ext_get_or}
use Rattle.octets.specs.Bytes.{part, bit}
use Rattle.octets.proofs.Digits.{field_same}
use Rattle.group.specs.Group.{present, stored_slots, checksum_slot, expand_group}
use Rattle.group.specs.Slots.{presence, word_in}
use Rattle.group.specs.Agree.{Same, GroupsAgree, ExpandedSlots, ExpandedGroupsAgree}
use Rattle.octets.proofs.Below.{through_same}
use Rattle.group.proofs.Bitmap.{stored_le}
use Rattle.octets.proofs.Bit.{bit_of, bits_same, one_same}
use Rattle.group.proofs.Slots.{Good, good, slot_presence, slot_word}
use Rattle.group.proofs.Expanded.{expanded_slot}

same_of : (g h : List ℕ) → g ≡ h → (f : List ℕ → List ℕ) (s : ℕ) → Same (checksum_slot (f g) s) (checksum_slot (f h) s)
same_of g h e f s = record {
  presence_same = ap (λ (x : List ℕ). presence (checksum_slot (f x) s)) e;
  word_same = ap (λ (x : List ℕ). word_in (checksum_slot (f x) s)) e;
}

module _ (g h : List ℕ) (ok : Good g) (ok' : Good h) (same : (s : ℕ) → s < 256 → Same (checksum_slot g s) (checksum_slot h s)) where
  present_same : (s : ℕ) → s < 256 → present g s ≡ present h s
  present_same s l = sym (slot_presence g ok s l) ∙ (same s l).presence_same ∙ slot_presence h ok' s l

  stored_same : stored_slots g ≡ stored_slots h
  unfolding stored_slots
  stored_same = through_same (present g) (present h) 256 present_same

  length_same : length g ≡ length h
  length_same = omega (arith, ok.ends, ok'.ends, stored_same)

  bitmap_same : (i : ℕ) → i < 32 → get_or g i 0 ≡ get_or h i 0
  bitmap_same i l =
      bits_same 8 (get_or g i 0) (get_or h i 0) (ok.bytes.below i) (ok'.bytes.below i) (λ k m.
      one_same (bit (get_or g i 0) k) (bit (get_or h i 0) k) (mod-lt _ (lit< tt)) (mod-lt _ (lit< tt))
      (sym (bit_of g i k m) ∙ present_same (8 * i + k) (omega arith) ∙ bit_of h i k m))

  part_same : (s : ℕ) → s < stored_slots g → part g (32 + 4 * s) 4 ≡ part h (32 + 4 * s) 4
  part_same s l =
      let o : ℕ = 32 + 4 * s in
      field_same g h o 4 ok.bytes ok'.bytes (omega (arith, ok.ends)) (omega (arith, ok'.ends, stored_same))
      (slot_word g ok s l ∙ (same s (omega (arith, stored_le g))).word_same ∙ sym (slot_word h ok' s (omega (arith, stored_same))))

  word_bytes_same : (i : ℕ) → 32 ≤ i → i < length g → get_or g i 0 ≡ get_or h i 0
  word_bytes_same i low l =
      let s : ℕ = (i - 32) / 4 in
      let j : ℕ = (i - 32) % 4 in
      let o : ℕ = 32 + 4 * s in
      let at : o + j ≡ i = omega arith in
      let in-part : (x : List ℕ) → get_or (part x o 4) j 0 ≡ get_or x i 0 =
      λ x. get_or-take 4 (drop o x) j 0 (mod-lt (i - 32) (lit< tt)) ∙ get_or-drop o x j 0 ∙ ap (λ (n : ℕ). get_or x n 0) at in
      sym (in-part g) ∙ ap (λ (p : List ℕ). get_or p j 0) (part_same s (omega (arith, ok.ends))) ∙ in-part h

  bytes_same : g ≡ h
  bytes_same = ext_get_or 0 g h length_same (λ i l. go i l (dec_lt i 32))
    where
      go : (i : ℕ) → i < length g → Dec (i < 32) → get_or g i 0 ≡ get_or h i 0
      go i l (yes m) = bitmap_same i m
      go i l (no n) = word_bytes_same i (omega arith) l

pub groups_agree : GroupsAgree
groups_agree k g m k' h m' a a' = ((λ e s l. same_of g h e (λ x. x) s), (λ same. bytes_same g h (good k g m a) (good k' h m' a') (λ s l. same s (omega (arith, l)))))

pub expanded_slots : ExpandedSlots
expanded_slots k g m a = expanded_slot g (good k g m a)

pub expanded_groups_agree : ExpandedGroupsAgree
expanded_groups_agree k g m k' h m' a a' = (
  (λ e s l. same_of g h e expand_group s),
  (λ same. bytes_same g h (good k g m a) (good k' h m' a') (λ s l. rw (← expanded_slots k g m a s, ← expanded_slots k' h m' a' s) (same s l))),
)
