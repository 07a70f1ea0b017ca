-- The filling of the scratch, a step at a time.
use mathlib.Core.Path.{◌≡◌}
use mathlib.Core.Bool.{true, false}
use mathlib.Core.List.{List, ◌∷◌, ◌++◌, append_assoc}
use Prim.Native.Nat.{ℕ, suc, ◌+◌, ◌<◌}
use native.Mathlib.Omega.{arith}
use native.Mathlib.Numerals.{add-one}
use lib.ListN.{length, take, drop, set, take-append-drop}
use lib.Seq.{take-suc-set, drop-set-lt, drop-drop, set_split}
use Rattle.lookup.specs.Record.{split_record, is_record}
use Rattle.lookup.specs.Floor.{next_offset, written, unbroken, over}
use Rattle.std.specs.Prelude.{None}

-- the scratch once the loop has run to its end from record i at p on, with n records left
abbrev pub filled : List ℕ → ℕ → ℕ → ℕ → List ℕ → List ℕ
filled part n p i s = take i s ++ over (written part n p) (drop i s)

one_more : (s : List ℕ) (i p : ℕ) (ws : List ℕ) → i < length s → take (i + 1) (set s i p) ++ over ws (drop (i + 1) (set s i p)) ≡ take i s ++ over (p ∷ ws) (drop i s)
one_more s i p ws h =
    let e : suc i + length ws ≡ i + suc (length ws) = omega arith in
    rw (add-one i, take-suc-set s i p h, drop-set-lt (suc i) s i p (omega arith), append_assoc, drop-drop (length ws) (suc i) s, drop-drop (suc (length ws)) i s, e)

module _ (part : List ℕ) (m n p i : ℕ) (s : List ℕ) (left : m ≡ suc n) where
  pub fill_step : (e : ℕ) → i < length s → e ≡ next_offset part p → is_record (split_record (drop p part)) ≡ true → filled part n e (i + 1) (set s i p) ≡ filled part m p i s
  unfolding written
  fill_step e h f r = rw (left, written, r, f) (one_more s i p (written part n (next_offset part p)) h)

  pub fill_break : i < length s → split_record (drop p part) ≡ None → set s i p ≡ filled part m p i s
  unfolding written
  fill_break h e = rw (left, written, e, set_split s i p h, drop-drop 1 i s, add-one)

  pub unbroken_step : (e : ℕ) → e ≡ next_offset part p → is_record (split_record (drop p part)) ≡ true → unbroken part n e ≡ unbroken part m p
  unfolding unbroken
  unbroken_step e f r = rw (left, unbroken, r, f)

  pub unbroken_break : split_record (drop p part) ≡ None → false ≡ unbroken part m p
  unfolding unbroken
  unbroken_break e = rw (left, unbroken, e)

module _ (part : List ℕ) (m p i : ℕ) (s : List ℕ) (none : m ≡ 0) where
  pub fill_end : s ≡ filled part m p i s
  unfolding written
  fill_end = rw (none, written, take-append-drop)

  pub unbroken_end : true ≡ unbroken part m p
  unfolding unbroken
  unbroken_end = rw (none, unbroken)
