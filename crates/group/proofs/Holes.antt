-- Holes: the test of a slot, the eight slots of a bitmap byte, and the walk over the first slots.
use mathlib.Core.Path.{◌≡◌, refl, sym, ap, ◌∙◌}
use mathlib.Core.Bool.{Bool, true, false, not, ◌&&◌, ◌||◌, and_comm, and-true}
use mathlib.Core.List.{List, [], ◌∷◌}
use Prim.Native.Nat.{ℕ, ◌+◌, ◌-◌, ◌*◌, ◌/◌, ◌%◌, ◌^◌, ◌≤◌, ◌<◌}
use native.Mathlib.Numerals.{add-one}
use native.Mathlib.Omega.{arith}
use borrow.Author.Tests.{eqb-true, eqb-false}
use lib.Dec.{eqb}
use lib.ListN.{length, get_or, take, drop, length-take, length-drop, take-append-drop}
use lib.Seq.{drop-append-le, take-append-le, drop-drop, take-take, take_all}
use lib.Bits.{bit_and}
use Rattle.error.proofs.Tests.{and_both, and_first, and_second, or_first}
use Rattle.octets.specs.Bytes.{bit}
use Rattle.octets.specs.Number.{little, u32_at, field}
use Rattle.octets.specs.Below.{every}
use Rattle.octets.proofs.Below.{every_join, every_same, every_at, every_all}
use Rattle.octets.proofs.Bit.{mask_clear, mask_set, bit_of}
use Rattle.octets.proofs.Parts.{field_from, chunk_at}
use Rattle.std.specs.Simd.{first_chunks}
use Rattle.std.proofs.lemmas.List.{drop-take}
use Rattle.group.specs.Group.{hole_zero}
use Rattle.group.specs.Inside.{slot_zero, slots_zero}

-- ---- a test that fails below m

every_longer : (f : ℕ → Bool) (m n : ℕ) → m ≤ n → every f m ≡ false → every f n ≡ false
every_longer f m n h e =
    let k : m + (n - m) ≡ n = omega arith in
    sym (ap (every f) k) ∙ every_join f m (n - m) ∙ and_second (every (λ (j : ℕ). f (m + j)) (n - m)) (every f m) e

-- ---- a field within a part

field_within : (s : List ℕ) (p n o w : ℕ) → p + n ≤ length s → o + w ≤ n → field (take n (drop p s)) o w ≡ field s (p + o) w
unfolding field
field_within s p n o w h l =
    let t : List ℕ = drop p s in
    let a : List ℕ = take n t in
    let front : length a ≡ n = simp (length-take, length-drop) (omega arith) in
    let rest : length (drop o a) ≡ n - o = simp length-drop (omega arith) in
    ap little (sym (take-append-le w (drop o a) (drop n t) (omega arith)) ∙ ap (take w) (sym (drop-append-le o a (drop n t) (omega arith)) ∙ ap (drop o) (take-append-drop n t)))
    ∙ field_from s p o w

-- ---- a slot, by its byte and the words that are lent

module _ (bits j : ℕ) (h : j < 8) where
  -- the code's mask
  abbrev mask : ℕ
  mask = bit_and bits ((1 * 2 ^ j) % 2 ^ 8)

  -- bit j of a bitmap that is this byte alone
  in_first : j / 8 ≡ 0
  in_first = omega arith

  in_byte : j % 8 ≡ j
  in_byte = omega arith

  mask_says : (t : Bool) → eqb mask 0 ≡ t → not t ≡ eqb (bit bits j) 1
  mask_says true e = sym (rw (in_first, in_byte) at (mask_clear (bits ∷ []) j (rw (in_first, in_byte) (eqb-true mask 0 e))))
  mask_says false e = sym (rw (in_first, in_byte) at (mask_set (bits ∷ []) j (rw (in_first, in_byte) (eqb-false mask 0 e))))

  pub slot_joined : (words : List ℕ) (w : ℕ) → w ≡ u32_at words (4 * j) → (not (eqb mask 0) || eqb w 0) ≡ slot_zero bits words j
  slot_joined words w e = rw (mask_says (eqb mask 0) refl, e)

-- none yet, and one more; r is its answer
pub slots_none : (bits : ℕ) (words : List ℕ) → true ≡ slots_zero bits words 0
unfolding slots_zero
slots_none bits words = refl

pub slots_next : (bits : ℕ) (words : List ℕ) (n : ℕ) (a r : Bool) → a ≡ slots_zero bits words n → r ≡ slot_zero bits words n → (a && r) ≡ slots_zero bits words (n + 1)
unfolding slots_zero
slots_next bits words n a r p q = rw (add-one, p, q) (and_comm (every (slot_zero bits words) n) (slot_zero bits words n))

-- each slot of a full byte is present
pub full_byte : (bits : ℕ) (words : List ℕ) → bits ≡ 255 → true ≡ slots_zero bits words 8
unfolding slots_zero
full_byte bits words e =
    sym (every_all (slot_zero bits words) 8 (λ j h. or_first (eqb (bit bits j) 1) (eqb (u32_at words (4 * j)) 0) (ap (λ b. eqb (bit b j) 1) e ∙ every_at (λ j. eqb (bit 255 j) 1) 8 refl j h)))

-- ---- the words of the first n slots, and the test of the slots of bitmap byte k by some of them

abbrev ws : List ℕ → ℕ → List ℕ
ws g n = take (32 + 4 * n - 32) (drop 32 g)

abbrev at : List ℕ → ℕ → ℕ → Bool
at g k j = hole_zero g (8 * k + j)

module _ (g : List ℕ) (n : ℕ) (h : 32 + 4 * n ≤ length g) where
  ws_length : length (ws g n) ≡ 4 * n
  ws_length = simp (length-take, length-drop) (omega arith)

  ws_chunks : length (ws g n) / 32 ≡ n / 8
  ws_chunks = omega (arith, ws_length)

  -- the words of the byte's first m slots
  words_at : (k m : ℕ) → 8 * k + m ≤ n → take (4 * m) (drop (k * 32) (ws g n)) ≡ take (4 * m) (drop (32 + 32 * k) g)
  words_at k m l =
      let w : 32 + 4 * n - 32 ≡ k * 32 + (4 * n - k * 32) = omega arith in
      let p : 32 + k * 32 ≡ 32 + 32 * k = omega arith in
      ap (λ (i : ℕ). take (4 * m) (drop (k * 32) (take i (drop 32 g)))) w
      ∙ ap (take (4 * m)) (drop-take (k * 32) (4 * n - k * 32) (drop 32 g))
      ∙ take-take (4 * m) (4 * n - k * 32) (drop (k * 32) (drop 32 g)) (omega arith)
      ∙ ap (take (4 * m)) (drop-drop (k * 32) 32 g ∙ ap (λ (i : ℕ). drop i g) p)

  slots_told : (k m : ℕ) (w : List ℕ) → m ≤ 8 → 8 * k + m ≤ n → w ≡ take (4 * m) (drop (k * 32) (ws g n)) → slots_zero (get_or g k 0) w m ≡ every (at g k) m
  unfolding slots_zero
  slots_told k m w few l e =
      every_same (slot_zero (get_or g k 0) w) (at g k) m (λ j hj.
      let p : 32 + 32 * k + 4 * j ≡ 32 + 4 * (8 * k + j) = omega arith in
      rw (e, words_at k m l, field_within g (32 + 32 * k) (4 * m) (4 * j) 4 (omega arith) (omega arith), p, bit_of g k j (omega arith)))

-- ---- byte by byte: `parts` has for each byte the words of its eight slots

module _ (g : List ℕ) (n : ℕ) (h : 32 + 4 * n ≤ length g) (parts : List (List ℕ)) (front : parts ≡ first_chunks 32 (length (ws g n) / 32) (ws g n))
    (count : length parts ≡ length (ws g n) / 32) where
  chunks : length parts ≡ n / 8
  chunks = count ∙ ws_chunks g n h

  -- one more; r is the answer for the byte
  next_eight : (k : ℕ) (r : Bool) → k < length parts → r ≡ slots_zero (get_or g k 0) (get_or parts k []) 8 → every (hole_zero g) (8 * (k + 1)) ≡ (r && every (hole_zero g) (8 * k))
  next_eight k r l e =
      let m : 8 * (k + 1) ≡ 8 * k + 8 = omega arith in
      let p : get_or parts k [] ≡ take 32 (drop (k * 32) (ws g n)) = ap (λ (x : List (List ℕ)). get_or x k []) front ∙ chunk_at 32 (length (ws g n) / 32) (ws g n) k [] (omega (arith, count)) in
      ap (every (hole_zero g)) m ∙ every_join (hole_zero g) (8 * k) 8
      ∙ ap (λ (b : Bool). b && every (hole_zero g) (8 * k)) (sym (e ∙ slots_told g n h k 8 (get_or parts k []) (omega arith) (omega (arith, chunks)) p))

  pub bytes_more : (k : ℕ) (r : Bool) → k < length parts → every (hole_zero g) (8 * k) ≡ true → r ≡ true → r ≡ slots_zero (get_or g k 0) (get_or parts k []) 8 → every (hole_zero g) (8 * (k + 1)) ≡ true
  bytes_more k r l i y e = next_eight k r l e ∙ and_both _ _ y i

  pub bytes_stop : (k : ℕ) (r : Bool) → k < length parts → r ≡ false → r ≡ slots_zero (get_or g k 0) (get_or parts k []) 8 → false ≡ every (hole_zero g) n
  bytes_stop k r l y e = sym (every_longer (hole_zero g) (8 * (k + 1)) n (omega (arith, l, chunks)) (next_eight k r l e ∙ and_first _ _ y))

  -- the slots of the last byte
  pub bytes_end : (k : ℕ) (r : Bool) (w : List ℕ) → length parts ≤ k → k ≤ length parts → every (hole_zero g) (8 * k) ≡ true → w ≡ drop (length (ws g n) / 32 * 32) (ws g n)
      → r ≡ slots_zero (get_or g (n / 8) 0) w (n % 8) → r ≡ every (hole_zero g) n
  bytes_end k r w lo hi first e s =
      let i : length (ws g n) / 32 * 32 ≡ n / 8 * 32 = omega (arith, ws_chunks g n h) in
      let rest : w ≡ take (4 * (n % 8)) (drop (n / 8 * 32) (ws g n)) =
      e ∙ ap (λ (j : ℕ). drop j (ws g n)) i ∙ sym (take_all (4 * (n % 8)) (drop (n / 8 * 32) (ws g n)) (rw length-drop (omega (arith, ws_length g n h)))) in
      let m : n ≡ 8 * (n / 8) + n % 8 = omega arith in
      let whole : 8 * k ≡ 8 * (n / 8) = omega (arith, chunks) in
      s ∙ slots_told g n h (n / 8) (n % 8) w (omega arith) (omega arith) rest
      ∙ sym
      (ap (every (hole_zero g)) m ∙ every_join (hole_zero g) (8 * (n / 8)) (n % 8)
      ∙ ap (λ (b : Bool). every (at g (n / 8)) (n % 8) && b) (sym (ap (every (hole_zero g)) whole) ∙ first) ∙ and-true (every (at g (n / 8)) (n % 8)))
