-- The bits of an allocation group: the code's mask, the tests by iterators, and a range of blocks in three parts.
use mathlib.Core.Path.{◌≡◌, refl, sym, ap, ap₂, ◌∙◌}
use mathlib.Core.Bool.{Bool, true, false, not, ◌&&◌, and-true}
use mathlib.Core.Logic.{◌⊎◌, inl, inr}
use mathlib.Core.List.{List}
use Prim.Native.Nat.{ℕ, zero, suc, ◌+◌, ◌-◌, ◌*◌, ◌/◌, ◌%◌, ◌^◌, ◌≤◌, ◌<◌}
use native.Mathlib.Omega.{arith}
use borrow.Author.Tests.{eqb-true, eqb-false, eq-eqb, ne_eqb}
use lib.Dec.{eqb}
use lib.ListN.{length, get_or, take, drop}
use Rattle.std.proofs.lemmas.List.{get_or-take}
use lib.Seq.{get_or-drop}
use lib.Bits.{bit_and}
use Rattle.std.specs.Bool.{MatchBool}
use Rattle.std.specs.List.{AllWithin, HoldsAt, range_with_len}
use Rattle.std.proofs.lemmas.Bool.{cases_Bool, false_from_ne_true}
use Rattle.std.proofs.lemmas.List.FromFn.{get_or-range_with_len, length-range_with_len}
use Rattle.error.proofs.Tests.{and_first, and_second}
use Rattle.octets.specs.Below.{every}
use Rattle.octets.specs.Bytes.{part, bit, bit_set}
use Rattle.octets.proofs.Bit.{mask_clear, mask_set, bit_of, bits_same}
use Rattle.octets.proofs.Below.{every_at, every_false, every_all, every_join, every_same}
use Rattle.octets.proofs.Join.{part_length}
use Rattle.record.specs.Allocation.{block_taken, taken_between}
use Rattle.record.specs.Inside.{bytes_full}

-- the mask of the code
pub masked : (g : List ℕ) (s : ℕ) → not (eqb (bit_and (get_or g (s / 8) 0) ((1 * 2 ^ (s % 8)) % 2 ^ 8)) 0) ≡ bit_set g s
masked g s = go (eqb (bit_and (get_or g (s / 8) 0) ((1 * 2 ^ (s % 8)) % 2 ^ 8)) 0) refl
  where
    go : (t : Bool) → eqb (bit_and (get_or g (s / 8) 0) ((1 * 2 ^ (s % 8)) % 2 ^ 8)) 0 ≡ t → not t ≡ bit_set g s
    go true e = sym (mask_clear g s (eqb-true _ 0 e))
    go false e = sym (mask_set g s (eqb-false _ 0 e))

-- ---- the tests by iterators

module _ (value : List ℕ) (start end : ℕ) where
  abbrev blocks : List ℕ
  blocks = range_with_len start (end - start)

  many : length blocks ≡ end - start
  many = length-range_with_len start (end - start)

  pub bits_told : (r : Bool) → MatchBool r (AllWithin (λ b. block_taken value b ≡ true) blocks 0 (length blocks)) ((k : ℕ) × (k < length blocks) × HoldsAt (λ b. block_taken value b ≡ false) blocks k) → r ≡ taken_between value start end
  unfolding taken_between
  bits_told true h = sym (every_all (λ i. block_taken value (start + i)) (end - start) (λ i l. ap (block_taken value) (sym (get_or-range_with_len start (end - start) i 0 l)) ∙ h i 0 (omega arith) (omega (arith, many))))
  bits_told false h =
      let l : h.0 < end - start = omega (arith, h.1, many) in
      sym (every_false (λ i. block_taken value (start + i)) (end - start) h.0 l (ap (block_taken value) (sym (get_or-range_with_len start (end - start) h.0 0 l)) ∙ h.2 0))

pub bytes_told : (s : List ℕ) (r : Bool) → MatchBool r (AllWithin (λ b. b ≡ 255) s 0 (length s)) ((k : ℕ) × (k < length s) × HoldsAt (λ b. b ≡ 255 → ⊥) s k) → r ≡ bytes_full s
unfolding bytes_full
bytes_told s true h = sym (every_all (λ i. eqb (get_or s i 0) 255) (length s) (λ i l. eq-eqb (get_or s i 0) 255 (h i 0 (omega arith) l)))
bytes_told s false h = sym (every_false (λ i. eqb (get_or s i 0) 255) (length s) h.0 h.1 (ne_eqb (get_or s h.0 0) 255 (h.2 0)))

-- ---- a byte and its eight blocks

ones : (b : ℕ) → b < 256 → every (λ (k : ℕ). eqb (bit b k) 1) 8 ≡ eqb b 255
ones b low = go (cases_Bool (eqb b 255))
  where
    go : (eqb b 255 ≡ true) ⊎ (eqb b 255 ≡ false) → every (λ (k : ℕ). eqb (bit b k) 1) 8 ≡ eqb b 255
    go (inl y) = rw y (ap (λ (n : ℕ). every (λ (k : ℕ). eqb (bit n k) 1) 8) (eqb-true b 255 y))
    go (inr n) =
        rw n
        (false_from_ne_true _ (λ e. eqb-false b 255 n
        (bits_same 8 b 255 low (omega arith) (λ k h. eqb-true (bit b k) 1 (every_at (λ (k : ℕ). eqb (bit b k) 1) 8 e k h) ∙ sym (eqb-true (bit 255 k) 1 (every_at (λ (k : ℕ). eqb (bit 255 k) 1) 8 refl k h))))))

-- ---- a range in three parts

module _ (value : List ℕ) where
  -- two ranges, one behind the other
  join : (start middle end : ℕ) → start ≤ middle → middle ≤ end → taken_between value start end ≡ (taken_between value middle end && taken_between value start middle)
  unfolding taken_between
  join start middle end lo hi =
      let n : end - start ≡ middle - start + (end - middle) = omega arith in
      ap (every (λ i. block_taken value (start + i))) n ∙ every_join (λ i. block_taken value (start + i)) (middle - start) (end - middle)
      ∙ ap (λ (b : Bool). b && every (λ i. block_taken value (start + i)) (middle - start))
      (every_same (λ j. block_taken value (start + (middle - start + j))) (λ j. block_taken value (middle + j)) (end - middle) (λ j l. let p : start + (middle - start + j) ≡ middle + j = omega arith in ap (block_taken value) p))

  module _ (first : ℕ) (bytes : (i : ℕ) → get_or value i 0 < 256) where
    -- byte k of those from `first` on
    byte : (k : ℕ) → first % 2048 + k < 2048 → taken_between value (8 * (first + k)) (8 * (first + k) + 8) ≡ eqb (get_or value (first % 2048 + k) 0) 255
    unfolding taken_between
    byte k l =
        let n : 8 * (first + k) + 8 - 8 * (first + k) ≡ 8 = omega arith in
        ap (every (λ i. block_taken value (8 * (first + k) + i))) n
        ∙ every_same (λ i. block_taken value (8 * (first + k) + i)) (λ i. eqb (bit (get_or value (first % 2048 + k) 0) i) 1) 8
        (λ i h. let p : (8 * (first + k) + i) % 16384 ≡ 8 * (first % 2048 + k) + i = omega arith in ap (bit_set value) p ∙ bit_of value (first % 2048 + k) i h)
        ∙ ones (get_or value (first % 2048 + k) 0) (bytes (first % 2048 + k))

    none : taken_between value (8 * first) (8 * (first + 0)) ≡ true
    unfolding taken_between
    none = let z : 8 * (first + 0) - 8 * first ≡ 0 = omega arith in ap (every (λ i. block_taken value (8 * first + i))) z

    run : (n : ℕ) → first % 2048 + n ≤ 2048 → taken_between value (8 * first) (8 * (first + n)) ≡ every (λ i. eqb (get_or value (first % 2048 + i) 0) 255) n
    run zero l = none
    run (suc n) l =
        let e : 8 * (first + suc n) ≡ 8 * (first + n) + 8 = omega arith in
        ap (taken_between value (8 * first)) e ∙ join (8 * first) (8 * (first + n)) (8 * (first + n) + 8) (omega arith) (omega arith)
        ∙ ap₂ (λ (a b : Bool). a && b) (byte n (omega arith)) (run n (omega arith))

    -- by the bytes that the code takes from the bitmap
    pub whole : (last : ℕ) (s : List ℕ) → first < last → first % 2048 + (last - first) ≤ length value → s ≡ take (first % 2048 + (last - first) - first % 2048) (drop (first % 2048) value) → length value ≡ 2048
        → bytes_full s ≡ taken_between value (8 * first) (8 * last)
    unfolding bytes_full
    whole last s f l taken size =
        let m : first % 2048 + (last - first) - first % 2048 ≡ last - first = omega arith in
        let e : s ≡ part value (first % 2048) (last - first) = taken ∙ ap (λ i. take i (drop (first % 2048) value)) m in
        let n : length s ≡ last - first = ap length e ∙ part_length value (first % 2048) (last - first) l in
        let q : first + (last - first) ≡ last = omega arith in
        rw n
        (every_same (λ i. eqb (get_or s i 0) 255) (λ i. eqb (get_or value (first % 2048 + i) 0) 255) (last - first) (λ i h. ap (λ (x : ℕ). eqb x 255) (ap (λ (t : List ℕ). get_or t i 0) e ∙ get_or-part i h))
        ∙ sym (run (last - first) (omega (arith, l, size))) ∙ ap (λ (x : ℕ). taken_between value (8 * first) (8 * x)) q)
      where
        get_or-part : (i : ℕ) → i < last - first → get_or (part value (first % 2048) (last - first)) i 0 ≡ get_or value (first % 2048 + i) 0
        get_or-part i h = get_or-take (last - first) (drop (first % 2048) value) i 0 h ∙ get_or-drop (first % 2048) value i 0

  module _ (start first last end : ℕ) (x : start ≤ first) (y : first ≤ last) (z : last ≤ end) where
    three : taken_between value start end ≡ (taken_between value last end && (taken_between value first last && taken_between value start first))
    three = join start last end (omega arith) z ∙ ap (λ (t : Bool). taken_between value last end && t) (join start first last x y)

    pub none_whole : taken_between value first last ≡ false → false ≡ taken_between value start end
    none_whole e = sym (three ∙ and_second _ _ (and_first _ _ e))

    pub none_before : taken_between value start first ≡ false → false ≡ taken_between value start end
    none_before e = sym (three ∙ and_second _ _ (and_second _ _ e))

    pub all_but_last : taken_between value first last ≡ true → taken_between value start first ≡ true → taken_between value last end ≡ taken_between value start end
    all_but_last e f = sym (three ∙ rw (e, f) (and-true (taken_between value last end)))
