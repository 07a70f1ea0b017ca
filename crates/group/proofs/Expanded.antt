-- The slots of the expanded form of an accepted group.
use mathlib.Core.Path.{◌≡◌, refl, sym, ap, ◌∙◌}
use mathlib.Core.Bool.{Bool, true, false}
use mathlib.Core.List.{List, ◌++◌}
use Prim.Native.Nat.{ℕ, ◌+◌, ◌-◌, ◌*◌, ◌/◌, ◌%◌, ◌≤◌, ◌<◌}
use native.Mathlib.Decide.{dec_lt}
use native.Mathlib.Omega.{arith}
use lib.Dec.{eqb}
use lib.ListN.{length, get_or, take, drop, replicate, length-append, length-replicate, length-drop, get_or-append}
use lib.Seq.{take_all, take-append-le, drop-append-le}
use Rattle.octets.specs.Bytes.{bit}
use Rattle.octets.specs.Number.{little, field}
use Rattle.std.specs.Prelude.{Some, Ok}
use Rattle.group.specs.Slots.{Slot}
use Rattle.group.specs.Group.{present, word, checksum_slot, expand_group}
use Rattle.group.proofs.Slots.{Good, slot_held, slot_hole, slot_out, in_stored}

abbrev given : ℕ → Slot
given w = Ok (Some w)

module _ (g : List ℕ) (ok : Good g) where
  whole : expand_group g ≡ g ++ replicate (1056 - length g) 0
  whole = ap (λ (l : List ℕ). l ++ replicate (1056 - length g) 0) (take_all 1056 g ok.short)

  expanded_length : length (expand_group g) ≡ 1056
  expanded_length = rw (whole, length-append, length-replicate) (omega (arith, ok.short))

  expanded_present : (s : ℕ) → s < 256 → present (expand_group g) s ≡ present g s
  expanded_present s h =
      ap (λ (b : ℕ). eqb (bit b (s % 8)) 1)
      (ap (λ (l : List ℕ). get_or l (s / 8) 0) whole ∙ get_or-append g (replicate (1056 - length g) 0) 0 (s / 8) (omega (arith, ok.long)))

  expanded_word : (s : ℕ) → 32 + 4 * s + 4 ≤ length g → word (expand_group g) s ≡ word g s
  unfolding field
  expanded_word s h =
      let z : List ℕ = replicate (1056 - length g) 0 in
      let o : ℕ = 32 + 4 * s in
      ap (λ (l : List ℕ). field l o 4) whole
      ∙ ap little (ap (take 4) (drop-append-le o g z (omega arith)) ∙ take-append-le 4 (drop o g) z (rw length-drop (omega arith)))

  pub expanded_slot : (s : ℕ) → checksum_slot (expand_group g) s ≡ checksum_slot g s
  expanded_slot s = go (dec_lt s 256)
    where
      each : s < 256 → (b : Bool) → present g s ≡ b → checksum_slot (expand_group g) s ≡ checksum_slot g s
      each h true p =
          let l : 32 + 4 * s + 4 ≤ length g = omega (arith, ok.ends, in_stored g ok s h p) in
          slot_held (expand_group g) s h (omega (arith, expanded_length)) (expanded_present s h ∙ p)
          ∙ ap given (expanded_word s l) ∙ sym (slot_held g s h l p)
      each h false p =
          slot_hole (expand_group g) s h (omega (arith, expanded_length)) (expanded_present s h ∙ p)
          ∙ sym (slot_hole g s h (omega (arith, ok.long)) p)

      go : Dec (s < 256) → checksum_slot (expand_group g) s ≡ checksum_slot g s
      go (yes h) = each h (present g s) refl
      go (no n) = slot_out (expand_group g) s (omega arith) ∙ sym (slot_out g s (omega arith))
