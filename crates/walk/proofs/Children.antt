-- The blocks stored in the first records of a payload.
use mathlib.Core.Path.{◌≡◌, refl, sym, ap, ◌∙◌}
use mathlib.Core.Bool.{Bool, true, ◌||◌}
use mathlib.Core.List.{List, [], ◌∷◌, ◌++◌}
use Prim.Native.Nat.{ℕ, suc, ◌+◌, ◌%◌, ◌≤◌, ◌<◌}
use native.Mathlib.Nat.{mod-eq_of_lt}
use native.Mathlib.Decide.{dec_lt}
use native.Mathlib.Numerals.{add-one}
use native.Mathlib.Omega.{arith}
use lib.Dec.{eqb}
use lib.ListN.{length, take, drop, set, length-drop, length-set}
use lib.Seq.{drop-drop, take-suc-set}
use Rattle.octets.specs.Number.{field, u16_at, u64_at}
use Rattle.lookup.specs.Record.{key_len, value_len, split_record, is_record, size_of}
use Rattle.lookup.specs.Sorted.{offset_of}
use Rattle.octets.proofs.Parts.{field_from}
use Rattle.lookup.proofs.RecordLaws.{record_is, split_fits}
use Rattle.walk.specs.Records.{is_one_of}
use Rattle.walk.specs.Inside.{stored_block, stored_blocks, Kept}
use Rattle.walk.proofs.Joins.{one_of_more}

-- the whole record at a place, by the numbers that stand there
module _ (s : List ℕ) (p : ℕ) (whole : is_record (split_record (drop p s)) ≡ true) where
  pub lengths_at : (key_len (drop p s) ≡ u16_at s p) × (value_len (drop p s) ≡ u16_at s (p + 2))
  unfolding field
  lengths_at = (refl, rw (drop-drop 2 p s))

  pub whole_within : p + 4 + u16_at s p + u16_at s (p + 2) ≤ length s
  whole_within =
      omega (arith, split_fits (drop p s) _ (record_is (drop p s) whole), length-drop p s, lengths_at.0, lengths_at.1)

  size_at : p + size_of (split_record (drop p s)) ≡ p + 4 + u16_at s p + u16_at s (p + 2)
  size_at = rw (record_is (drop p s) whole) (omega (arith, lengths_at.0, lengths_at.1))

  block_at : stored_block (drop p s) ≡ u64_at s (p + 4 + u16_at s p)
  block_at = field_from s p (4 + key_len (drop p s)) 8 ∙ ap (λ (o : ℕ). u64_at s o) (omega (arith, lengths_at.0))

-- one record more
module _ (rest : List ℕ) (i p : ℕ) (here : p ≡ offset_of rest i) where
  pub offset_more : is_record (split_record (drop p rest)) ≡ true → p + 4 + u16_at rest p + u16_at rest (p + 2) ≡ offset_of rest (i + 1)
  unfolding offset_of
  offset_more w = rw (add-one i, ← here) (sym (size_at rest p w))

  pub stored_more : (block : ℕ) (hit : Bool) → is_record (split_record (drop p rest)) ≡ true → hit ≡ is_one_of block (stored_blocks rest i)
      → (hit || eqb (u64_at rest (p + 4 + u16_at rest p)) block) ≡ is_one_of block (stored_blocks rest (i + 1))
  unfolding stored_blocks
  stored_more block hit w e = rw (add-one i, stored_blocks, ← here, e, ← block_at rest p w) (sym (one_of_more block (stored_block (drop p rest)) (stored_blocks rest i)))

pub stored_suc : (rest : List ℕ) (i : ℕ) → stored_blocks rest (suc i) ≡ stored_blocks rest i ++ (stored_block (drop (offset_of rest i) rest) ∷ [])
unfolding stored_blocks
stored_suc rest i = refl

-- ---- the array of blocks seen so far
pub kept_start : (seen rest : List ℕ) → length seen ≡ 192 → Kept seen rest 0
unfolding stored_blocks
kept_start seen rest e = record { room = e; whole = λ j l. absurd (omega arith); front = λ l. refl }

pub kept_more : (seen rest : List ℕ) (i b : ℕ) → Kept seen rest i → is_record (split_record (drop (offset_of rest i) rest)) ≡ true → b ≡ stored_block (drop (offset_of rest i) rest) → Kept (set seen (i % 192) b) rest (i + 1)
kept_more seen rest i b k w e = record {
  room = length-set seen (i % 192) b ∙ k.room;
  whole = λ j l. go j l (dec_lt j i);
  front = front;
}
  where
    go : (j : ℕ) → j < i + 1 → Dec (j < i) → is_record (split_record (drop (offset_of rest j) rest)) ≡ true
    go j l (yes h) = k.whole j h
    go j l (no h) = let f : j ≡ i = omega arith in rw f w

    front : i + 1 ≤ 192 → take (i + 1) (set seen (i % 192) b) ≡ stored_blocks rest (i + 1)
    front l =
        let m : i % 192 ≡ i = mod-eq_of_lt (omega arith) in
        rw (m, add-one i) (take-suc-set seen i b (omega (arith, k.room)) ∙ stored_one (k.front (omega arith)))
      where
        stored_one : take i seen ≡ stored_blocks rest i → take i seen ++ (b ∷ []) ≡ stored_blocks rest (suc i)
        stored_one p = rw (p, e) (sym (stored_suc rest i))
