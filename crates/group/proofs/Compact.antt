-- The code's test of the last stored slot says what `stored_slots` says: its bit is set, and none above it.
use mathlib.Core.Path.{◌≡◌, refl, sym, ap, ◌∙◌}
use mathlib.Core.Bool.{Bool, true, false, not, ◌&&◌}
use mathlib.Core.List.{List}
use Prim.Native.Nat.{ℕ, suc, ◌+◌, ◌-◌, ◌*◌, ◌/◌, ◌%◌, ◌^◌, ◌<◌}
use native.Mathlib.Nat.{zero-div}
use native.Mathlib.Decide.{dec_lt}
use native.Mathlib.Omega.{arith}
use borrow.Author.Tests.{eq-eqb, ne_eqb, eqb-true, eqb-false, leb-true}
use lib.Dec.{leb, eqb}
use lib.ListN.{length, get_or, drop, take, length-take}
use lib.Seq.{get_or-take, get_or-drop}
use Rattle.error.proofs.Tests.{and_left, and_right, yes_of}
use Rattle.octets.specs.Bytes.{bit, byte_at, all_zero, Bytes}
use Rattle.octets.specs.Below.{every}
use Rattle.octets.proofs.Below.{through_last, through_true, through_above}
use Rattle.octets.proofs.Bit.{bit_lt, bits_same, top_is_one, one_is_top, one_has_none}
use Rattle.octets.proofs.Zero.{zero_at, zero_all}
use Rattle.group.specs.Inside.{Sized}
use Rattle.group.specs.Group.{present, stored_slots, right_size, is_compact, stored_bytes, hole_zero, holes_zero}

-- ---- the size

pub sized : (n : ℕ) → right_size n ≡ true → Sized n
unfolding right_size
sized n e =
    let front = and_left (leb 36 n && leb n 1056) (eqb ((n - 32) % 4) 0) e in
    record {
      long = leb-true 36 n (and_left (leb 36 n) (leb n 1056) front);
      short = leb-true n 1056 (and_right (leb 36 n) (leb n 1056) front);
      whole = eqb-true ((n - 32) % 4) 0 (and_right (leb 36 n && leb n 1056) (eqb ((n - 32) % 4) 0) e);
    }

pub sized_of : (r : Bool) (n : ℕ) → not r ≡ false → r ≡ right_size n → Sized n
sized_of r n p e = sized n (yes_of p e)

-- the last stored slot
abbrev pub last_slot : List ℕ → ℕ
last_slot g = (length g - 32) / 4 - 1

-- ---- a slot's bit

absent : (g : List ℕ) (s : ℕ) → present g s ≡ false → bit (byte_at g (s / 8)) (s % 8) ≡ 0
absent g s e = omega (arith, eqb-false (bit (byte_at g (s / 8)) (s % 8)) 1 e, bit_lt (byte_at g (s / 8)) (s % 8))

absent_at : (g : List ℕ) (i k : ℕ) → k < 8 → present g (8 * i + k) ≡ false → bit (byte_at g i) k ≡ 0
absent_at g i k h e =
    let q : (8 * i + k) / 8 ≡ i = omega arith in
    let r : (8 * i + k) % 8 ≡ k = omega arith in
    rw (q, r) at (absent g (8 * i + k) e)

no_bit : (g : List ℕ) (s : ℕ) → bit (byte_at g (s / 8)) (s % 8) ≡ 0 → present g s ≡ false
no_bit g s e = ne_eqb (bit (byte_at g (s / 8)) (s % 8)) 1 (omega arith)

module _ (g : List ℕ) (bytes : Bytes g) (m : ℕ) (in_map : m < 256) where
  -- the byte of slot m, and the bitmap after it
  abbrev pub top : ℕ
  top = byte_at g (m / 8)

  -- the code's test gives the last slot
  pub last_of : top / 2 ^ (m % 8) ≡ 1 → ((i : ℕ) → m / 8 < i → i < 32 → byte_at g i ≡ 0) → stored_slots g ≡ suc m
  unfolding stored_slots
  last_of one zeros = through_last (present g) m 256 in_map (eq-eqb _ 1 (one_is_top (byte_at g (m / 8)) (m % 8) one)) none
    where
      none : (s : ℕ) → m < s → s < 256 → present g s ≡ false
      none s l h = go (dec_lt (m / 8) (s / 8))
        where
          go : Dec (m / 8 < s / 8) → present g s ≡ false
          go (yes p) = no_bit g s (rw (zeros (s / 8) p (omega arith)) (zero_bit (s % 8)))
            where
              zero_bit : (k : ℕ) → bit 0 k ≡ 0
              zero_bit k = ap (λ (x : ℕ). x % 2) (zero-div (2 ^ k))
          go (no p) =
              let q : s / 8 ≡ m / 8 = omega arith in
              no_bit g s (ap (λ (x : ℕ). bit (byte_at g x) (s % 8)) q ∙ one_has_none (byte_at g (m / 8)) (m % 8) (s % 8) one (omega arith))

  -- and the last slot gives both halves of the test
  module _ (ends : stored_slots g ≡ suc m) where
    above : (s : ℕ) → m < s → s < 256 → present g s ≡ false
    unfolding stored_slots
    above s l h = through_above (present g) 256 s (omega (arith, ends)) h

    pub top_of : top / 2 ^ (m % 8) ≡ 1
    unfolding stored_slots
    top_of =
        top_is_one (byte_at g (m / 8)) (m % 8) (bytes.below (m / 8))
        (eqb-true (bit (byte_at g (m / 8)) (m % 8)) 1 (through_true (present g) 256 m ends))
        (λ j l h. absent_at g (m / 8) j h (above (8 * (m / 8) + j) (omega arith) (omega arith)))

    pub zero_of : (i : ℕ) → m / 8 < i → i < 32 → byte_at g i ≡ 0
    zero_of i l h =
        bits_same 8 (byte_at g i) 0 (bytes.below i) (omega arith)
        (λ k p. absent_at g i k p (above (8 * i + k) (omega arith) (omega arith)) ∙ sym (ap (λ (x : ℕ). x % 2) (zero-div (2 ^ k))))

-- ---- the test as a whole, of a value of a right size

module _ (g : List ℕ) (bytes : Bytes g) (size : Sized (length g)) where
  in_map : last_slot g < 256
  in_map = omega (arith, size.long, size.short)

  ends_of : is_compact g ≡ true → stored_slots g ≡ suc (last_slot g)
  unfolding is_compact
  ends_of e = omega (arith, eqb-true (length g) (stored_bytes g) e, size.long, size.whole)

  compact_of : stored_slots g ≡ suc (last_slot g) → is_compact g ≡ true
  unfolding is_compact
  compact_of e = eq-eqb (length g) (stored_bytes g) (omega (arith, e, size.long, size.whole))

  -- the bitmap's bytes after the last slot's
  abbrev rest : List ℕ
  rest = take (32 - (last_slot g / 8 + 1)) (drop (last_slot g / 8 + 1) g)

  rest_at : (i : ℕ) → i < 32 - (last_slot g / 8 + 1) → get_or rest i 0 ≡ byte_at g (last_slot g / 8 + 1 + i)
  rest_at i h = get_or-take (32 - (last_slot g / 8 + 1)) (drop (last_slot g / 8 + 1) g) i 0 h ∙ get_or-drop (last_slot g / 8 + 1) g i 0

  pub compact_no : (byte_at g (last_slot g / 8) / 2 ^ (last_slot g % 8) ≡ 1 → ⊥) → false ≡ is_compact g
  compact_no n = go (is_compact g) refl
    where
      go : (b : Bool) → is_compact g ≡ b → false ≡ b
      go true e = absurd (n (top_of g bytes (last_slot g) in_map (ends_of e)))
      go false e = refl

  pub compact_rest : byte_at g (last_slot g / 8) / 2 ^ (last_slot g % 8) ≡ 1 → all_zero rest ≡ is_compact g
  compact_rest one = go (all_zero rest) refl (is_compact g) refl
    where
      yes_is : all_zero rest ≡ true → is_compact g ≡ true
      yes_is z = compact_of (last_of g bytes (last_slot g) in_map one (λ i l h.
          let j : last_slot g / 8 + 1 + (i - (last_slot g / 8 + 1)) ≡ i = omega arith in
          ap (byte_at g) (sym j) ∙ sym (rest_at (i - (last_slot g / 8 + 1)) (omega arith)) ∙ zero_at rest z (i - (last_slot g / 8 + 1))))

      is_yes : is_compact g ≡ true → all_zero rest ≡ true
      is_yes e = zero_all rest (λ i l.
          let k : i < 32 - (last_slot g / 8 + 1) = omega (arith, simp length-take at l) in
          rest_at i k ∙ zero_of g bytes (last_slot g) in_map (ends_of e) (last_slot g / 8 + 1 + i) (omega arith) (omega arith))

      go : (a : Bool) → all_zero rest ≡ a → (b : Bool) → is_compact g ≡ b → a ≡ b
      go true z true e = refl
      go true z false e = sym (yes_is z) ∙ e
      go false z true e = sym z ∙ is_yes e
      go false z false e = refl

-- the holes of a compact value are those among all its slots
pub holes_of : (r : Bool) (g : List ℕ) → is_compact g ≡ true → r ≡ every (hole_zero g) ((length g - 32) / 4) → r ≡ holes_zero g
unfolding is_compact holes_zero
holes_of r g e q =
    let ends : length g ≡ stored_bytes g = eqb-true (length g) (stored_bytes g) e in
    let n : (length g - 32) / 4 ≡ stored_slots g = omega arith in
    rw n at q
