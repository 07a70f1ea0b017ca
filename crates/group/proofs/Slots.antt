-- What `checksum_slot` answers of an accepted group, stored and expanded.
use mathlib.Core.Path.{◌≡◌, refl, sym, ap, ◌∙◌}
use mathlib.Core.Bool.{Bool, true, false, cond}
use mathlib.Core.List.{List}
use Prim.Native.Nat.{ℕ, ◌+◌, ◌*◌, ◌≤◌, ◌<◌}
use native.Mathlib.Omega.{arith}
use borrow.Author.Tests.{lt-ltb, le-ltb, le-leb}
use lib.ListN.{length}
use Rattle.error.specs.Answer.{Number}
use Rattle.error.specs.declared.Error.{Error}
use Rattle.error.specs.declared.Error.TheVariants.{Corrupt}
use Rattle.error.specs.declared.Validation.{Validation}
use Rattle.error.specs.Demand.{outcome}
use Rattle.error.specs.Reason as reason
use Rattle.octets.specs.Bytes.{Bytes}
use Rattle.octets.specs.Number.{within}
use Rattle.octets.specs.Reads.{read_of}
use Rattle.octets.proofs.Below.{through_held}
use Rattle.std.specs.Prelude.{Some, None, Ok, Err}
use Rattle.group.specs.Group.{present, word, stored_slots, stored_bytes, checksum_slot}
use Rattle.group.specs.Slots.{Slot, presence, word_in}
use Rattle.group.specs.Agree.{Accepted}
use Rattle.group.proofs.Bitmap.{stored_le}
use Rattle.group.proofs.Accept.{holds}

-- ---- an accepted group

pub record Good (g : List ℕ) : Type 0 where
  pub bytes : Bytes g
  pub long : 36 ≤ length g
  pub short : length g ≤ 1056
  pub ends : length g ≡ stored_bytes g
  pub holes : (s : ℕ) → s < stored_slots g → present g s ≡ false → word g s ≡ 0

pub good : (key g : List ℕ) (mode : Validation) → Accepted key g mode → Good g
good key g mode a =
    let h = holds key g mode a.passed in
    record { bytes = a.bytes; long = h.size.long; short = h.size.short; ends = h.ends; holes = h.holes }

-- ---- a slot

module _ (g : List ℕ) (s : ℕ) where
  pub slot_held : s < 256 → 32 + 4 * s + 4 ≤ length g → present g s ≡ true → checksum_slot g s ≡ Ok (Some (word g s))
  unfolding checksum_slot outcome
  slot_held h l p = simp (lt-ltb s 256 h, le-leb 32 (length g) (omega arith), p, le-leb (32 + 4 * s + 4) (length g) l)

  pub slot_hole : s < 256 → 32 ≤ length g → present g s ≡ false → checksum_slot g s ≡ Ok None
  unfolding checksum_slot outcome
  slot_hole h l p = simp (lt-ltb s 256 h, le-leb 32 (length g) l, p)

  pub slot_out : 256 ≤ s → checksum_slot g s ≡ Err (Corrupt reason.checksum_group_slot)
  unfolding checksum_slot outcome
  slot_out h = simp (le-ltb s 256 h)

  -- the code's read of a present slot's word: r is its answer
  module _ (h : s < 256) (l : 32 ≤ length g) (p : present g s ≡ true) (r : Number) (e : r ≡ read_of g (32 + 4 * s) 4 reason.checksum_group_slot) where
    pub word_read : (w : ℕ) → r ≡ Ok w → Ok (Some w) ≡ checksum_slot g s
    unfolding checksum_slot outcome
    word_read w q = simp (lt-ltb s 256 h, le-leb 32 (length g) l, p) (go (within g (32 + 4 * s) 4) (sym e ∙ q))
      where
        go : (b : Bool) → ◌≡◌ {A = Number} (cond b (Ok (word g s)) (Err (Corrupt reason.checksum_group_slot))) (Ok w)
            → ◌≡◌ {A = Slot} (Ok (Some w)) (cond b (Ok (Some (word g s))) (Err (Corrupt reason.checksum_group_slot)))
        go true q = cc
        go false q = cc

    pub word_refused : (f : Error) → r ≡ Err f → Err f ≡ checksum_slot g s
    unfolding checksum_slot outcome
    word_refused f q = simp (lt-ltb s 256 h, le-leb 32 (length g) l, p) (go (within g (32 + 4 * s) 4) (sym e ∙ q))
      where
        go : (b : Bool) → ◌≡◌ {A = Number} (cond b (Ok (word g s)) (Err (Corrupt reason.checksum_group_slot))) (Err f)
            → ◌≡◌ {A = Slot} (Err f) (cond b (Ok (Some (word g s))) (Err (Corrupt reason.checksum_group_slot)))
        go true q = cc
        go false q = cc

module _ (g : List ℕ) (ok : Good g) (s : ℕ) where
  pub in_stored : s < 256 → present g s ≡ true → s < stored_slots g
  unfolding stored_slots
  in_stored h p = through_held (present g) 256 s h p

  pub slot_presence : s < 256 → presence (checksum_slot g s) ≡ present g s
  slot_presence h = go (present g s) refl
    where
      go : (b : Bool) → present g s ≡ b → presence (checksum_slot g s) ≡ b
      go true p = ap presence (slot_held g s h (omega (arith, ok.ends, in_stored h p)) p)
      go false p = ap presence (slot_hole g s h (omega (arith, ok.long)) p)

  -- a stored word is what the slot's answer says, of a hole too
  pub slot_word : s < stored_slots g → word g s ≡ word_in (checksum_slot g s)
  slot_word l = go (present g s) refl
    where
      h : s < 256
      h = omega (arith, stored_le g)

      go : (b : Bool) → present g s ≡ b → word g s ≡ word_in (checksum_slot g s)
      go true p = sym (ap word_in (slot_held g s h (omega (arith, ok.ends)) p))
      go false p = ok.holes s l p ∙ sym (ap word_in (slot_hole g s h (omega (arith, ok.long)) p))
