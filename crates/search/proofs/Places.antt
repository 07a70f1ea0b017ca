-- Records at their places in the image.
use mathlib.Core.Path.{◌≡◌, sym, ap, ap₂, ◌∙◌}
use mathlib.Core.List.{List}
use Prim.Native.Nat.{ℕ, ◌+◌, ◌-◌, ◌≤◌, ◌<◌}
use native.Mathlib.Omega.{arith}
use lib.ListN.{length, get_or, take, drop, length-drop}
use lib.Seq.{drop-drop, take-take}
use Rattle.std.proofs.lemmas.List.{drop-take}
use Rattle.octets.specs.Bytes.{part}
use Rattle.octets.specs.Number.{u16_at}
use Rattle.lookup.specs.Record.{key_len, value_len, record_len}
use Rattle.lookup.specs.Sorted.{offset_of, key_at, Sorted}
use Rattle.lookup.proofs.RecordLaws.{split_fits, record_is}
use Rattle.search.specs.Search.{place_of, value_at}
use Rattle.search.specs.Inside.{key_bytes, value_bytes, Stands}

-- a part of a part
pub part_part : (s : List ℕ) (base size o n : ℕ) → o + n ≤ size → part s (base + o) n ≡ part (part s base size) o n
part_part s base size o n l =
    let e : o + (size - o) ≡ size = omega arith in
    ap (take n) (sym (drop-drop o base s))
    ∙ sym (take-take n (size - o) (drop o (drop base s)) (omega arith))
    ∙ ap (take n) (sym (drop-take o (size - o) (drop base s)))
    ∙ ap (λ (m : ℕ). take n (drop o (take m (drop base s)))) e

module _ (image payload : List ℕ) (base : ℕ) (offsets : List ℕ) (s : Stands image payload base offsets) where
  -- the record's place by its offset and its two lengths
  pub place_is : (k at m n : ℕ) → k < length offsets → at ≡ get_or offsets k 0 → m ≡ u16_at (drop at payload) 0 → n ≡ u16_at (drop at payload) 2
      → record { key_start = base + at + 4; key_end = base + at + 4 + m; value_end = base + at + 4 + m + n } ≡ place_of payload base k
  unfolding place_of
  place_is k at m n l e f g = rw (f, g, e, s.offset k l)

-- a record of a payload that is a part of the image
module _ (image payload : List ℕ) (base count : ℕ) (bytes : payload ≡ part image base (length payload)) (sorted : Sorted payload count) (k : ℕ) (l : k < count) where
  abbrev rest : List ℕ
  rest = drop (offset_of payload k) payload

  -- it lies in the payload
  pub whole : offset_of payload k + record_len rest ≤ length payload
  whole = omega (arith, split_fits rest _ (record_is rest (sorted.whole k l)), length-drop (offset_of payload k) payload)

  part_in : (o n : ℕ) → o + n ≤ length payload → part image (base + o) n ≡ part payload o n
  part_in o n m = part_part image base (length payload) o n m ∙ ap (λ (p : List ℕ). part p o n) (sym bytes)

  pub key_stands : key_bytes image (place_of payload base k) ≡ key_at payload k
  unfolding place_of
  key_stands =
      let o : ℕ = offset_of payload k in
      let m : ℕ = key_len rest in
      let e : base + o + 4 + m - (base + o + 4) ≡ m = omega arith in
      let a : base + o + 4 ≡ base + (o + 4) = omega arith in
      ap₂ (λ (x y : ℕ). take x (drop y image)) e a ∙ part_in (o + 4) m (omega (arith, whole)) ∙ ap (take m) (sym (drop-drop 4 o payload))

  pub value_stands : value_bytes image (place_of payload base k) ≡ value_at payload k
  unfolding place_of
  value_stands =
      let o : ℕ = offset_of payload k in
      let m : ℕ = key_len rest in
      let n : ℕ = value_len rest in
      let e : base + o + 4 + m + n - (base + o + 4 + m) ≡ n = omega arith in
      let a : base + o + 4 + m ≡ base + (o + (4 + m)) = omega arith in
      ap₂ (λ (x y : ℕ). take x (drop y image)) e a ∙ part_in (o + (4 + m)) n (omega (arith, whole)) ∙ ap (take n) (sym (drop-drop (4 + m) o payload))
