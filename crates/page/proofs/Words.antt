-- The lengths of the key and the value that `next` gives are those that stand at the front of the records.
use mathlib.Core.Path.{◌≡◌, refl}
use mathlib.Core.Bool.{Bool, true, false, cond}
use mathlib.Core.List.{List, [], ◌∷◌}
use Prim.Native.Nat.{ℕ, ◌+◌, ◌-◌, ◌≤◌}
use native.Mathlib.Omega.{arith}
use lib.Dec.{ltb}
use lib.ListN.{length, drop, length-drop}
use Rattle.std.specs.Borrow.{Bor}
use Rattle.std.specs.Prelude.{Option, Some, None}
use Rattle.std.proofs.lemmas.Option.{same_Some}
use Rattle.std.proofs.lemmas.List.{length-take-le}
use Rattle.octets.specs.Bytes.{part, IsPart}
use Rattle.lookup.specs.declared.Lengths.{Lengths}
use Rattle.lookup.specs.declared.Step.{Step}
use Rattle.lookup.specs.Record.{split_record, lengths_words}
use Rattle.lookup.specs.Floor.{step_split, next_record}
use Rattle.lookup.proofs.StepLaws.{step_ordered}
use Rattle.page.specs.View.{first_lengths, next_words}

-- those of the record that a step passes, where there is one
step_lengths : (s : List ℕ) (n : ℕ) (t : Step) → next_record s n ≡ Some t → 1 ∷ (t.key_end - t.key_start) ∷ (t.value_end - t.key_end) ∷ [] ≡ lengths_words (first_lengths s n)
unfolding next_record lengths_words
step_lengths s n t = go (ltb 0 n) (split_record s)
  where
    go : (b : Bool) (r : Option Lengths) → cond b (step_split n r) None ≡ Some t → 1 ∷ (t.key_end - t.key_start) ∷ (t.value_end - t.key_end) ∷ [] ≡ lengths_words (cond b r None)
    go true (Some l) e =
        let a : 4 + l.key_len - 4 ≡ l.key_len = omega arith in
        let b : 4 + l.key_len + l.value_len - (4 + l.key_len) ≡ l.value_len = omega arith in
        rw (← same_Some _ t e) (rw (a, b) refl)
    go true None e = absurd cc
    go false r e = absurd cc

-- a part that lies in the bytes is as long as is said
part_length : (s : List ℕ) (offset width : ℕ) → offset + width ≤ length s → length (part s offset width) ≡ width
part_length s offset width fits = length-take-le width (drop offset s) (omega (arith, length-drop offset s))

pub next_some : (payload key value : Bor (List ℕ)) (n : ℕ) (t : Step) → next_record payload.now n ≡ Some t → IsPart payload t.key_start (t.key_end - t.key_start) key → IsPart payload t.key_end (t.value_end - t.key_end) value → next_words (Some (key, value)) ≡ lengths_words (first_lengths payload.now n)
unfolding next_words
next_some payload key value n t e k v =
    let o = step_ordered payload.now n t e in
    let a : length key.now ≡ t.key_end - t.key_start = rw k.bytes (part_length payload.now t.key_start (t.key_end - t.key_start) (omega (arith, o.key, o.value, o.end))) in
    let b : length value.now ≡ t.value_end - t.key_end = rw v.bytes (part_length payload.now t.key_end (t.value_end - t.key_end) (omega (arith, o.value, o.end))) in
    rw (a, b) (step_lengths payload.now n t e)

pub next_none : (s : List ℕ) (n : ℕ) → next_record s n ≡ None → next_words None ≡ lengths_words (first_lengths s n)
unfolding next_words next_record lengths_words
next_none s n = go (ltb 0 n) (split_record s)
  where
    go : (b : Bool) (r : Option Lengths) → cond b (step_split n r) None ≡ None → next_words None ≡ lengths_words (cond b r None)
    go true (Some l) e = absurd cc
    go true None e = refl
    go false r e = refl
