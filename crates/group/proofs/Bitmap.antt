-- The bitmap: the leading zeros of the code say what `stored_slots` says.
use mathlib.Core.Path.{◌≡◌, sym, ap, ◌∙◌}
use mathlib.Core.List.{List}
use Prim.Native.Nat.{ℕ, suc, ◌+◌, ◌-◌, ◌*◌, ◌/◌, ◌%◌, ◌≤◌, ◌<◌}
use native.Mathlib.Nat.{zero-div, lt_of_lt_of_le}
use native.Mathlib.Omega.{arith}
use borrow.Author.Tests.{eq-eqb}
use lib.Dec.{eqb}
use lib.ListN.{length, get_or, take, length-take}
use lib.Seq.{get_or-take}
use lib.Pow.{pow_mono}
use lib.Count.{count_leading_zeros, leading_top}
use Rattle.octets.specs.Bytes.{bit}
use Rattle.octets.specs.Below.{through}
use Rattle.octets.proofs.Bit.{bit_above, bit_top, bit_of}
use Rattle.group.specs.Group.{present, stored_slots}
use Rattle.octets.proofs.Below.{through_none, through_last, through_le}

-- the last byte that is not 0
pub top : (g : List ℕ) (n : ℕ) → 0 < n → (get_or g (n - 1) 0 ≡ 0 → ⊥) → get_or g (n - 1) 0 < 256 → 8 * n - count_leading_zeros 8 (get_or g (n - 1) 0) ≡ through (present g) (8 * n)
top g n p nz lt =
    let b = get_or g (n - 1) 0 in
    let t = leading_top 8 b (omega arith) lt in
    let j = t.0 in
    let e : count_leading_zeros 8 b + suc j ≡ 8 = t.1 in
    let m : ℕ = 8 * (n - 1) + j in
    let last : through (present g) (8 * n) ≡ suc m =
    through_last (present g) m (8 * n) (omega arith)
    (bit_of g (n - 1) j (omega arith) ∙ eq-eqb (bit b j) 1 (bit_top b j t.2 t.3))
    (λ s l h.
    let q : s / 8 ≡ n - 1 = omega arith in
    let above : suc j ≤ s % 8 = omega arith in
    rw q (ap (λ (x : ℕ). eqb x 1) (bit_above b (s % 8) (lt_of_lt_of_le t.3 (pow_mono above))))) in
    omega (arith, last, e)

module _ (g : List ℕ) (long : 32 ≤ length g) where
  -- the bitmap, as it is lent
  abbrev map : List ℕ
  map = take 32 g

  map_length : length map ≡ 32
  map_length = simp length-take (omega arith)

  map_at : (k : ℕ) → k < 32 → get_or map k 0 ≡ get_or g k 0
  map_at k h = get_or-take 32 g k 0 h

  -- where the bytes from n on are 0
  zeros_above : (n : ℕ) → n ≤ 32 → ((k : ℕ) → n ≤ k → k < length map → get_or map k 0 ≡ 0) → through (present g) 256 ≡ through (present g) (8 * n)
  zeros_above n h z =
      through_none (present g) (8 * n) 256 (omega arith)
      (λ s l m. let q : s / 8 < 32 = omega arith in rw (sym (map_at (s / 8) q) ∙ z (s / 8) (omega arith) (omega (arith, map_length)), zero-div))

  pub none_stored : ((k : ℕ) → k < length map → get_or map k 0 ≡ 0) → 0 ≡ stored_slots g
  unfolding stored_slots
  none_stored z = sym (zeros_above 0 (omega arith) (λ k l h. z k h))

  pub last_in : (i : ℕ) → i < length map → i < 32
  last_in i h = omega (arith, map_length)

  -- where the last byte that is not 0 is byte i
  module _ (i : ℕ) (h : i < length map) (nz : get_or map i 0 ≡ 0 → ⊥) (z : (k : ℕ) → i < k → k < length map → get_or map k 0 ≡ 0) where
    pub last_stored : get_or g i 0 < 256 → 8 * i + 8 - count_leading_zeros 8 (get_or g i 0) ≡ stored_slots g
    unfolding stored_slots
    last_stored lt =
        let q : (i + 1) - 1 ≡ i = omega arith in
        let same : get_or g ((i + 1) - 1) 0 ≡ get_or g i 0 = rw q in
        let last = rw same at (top g (i + 1) (omega arith) (λ e. omega (arith, same, e, map_at i (last_in i h), nz)) (omega (arith, same, lt))) in
        omega (arith, last, zeros_above (i + 1) (omega (arith, last_in i h)) (λ k l h. z k (omega arith) h))

pub stored_le : (g : List ℕ) → stored_slots g ≤ 256
unfolding stored_slots
stored_le g = through_le (present g) 256
