-- Bytes laid into a buffer, one text behind another.
use Prim.Native.Nat.{ℕ, suc, ◌+◌, ◌-◌, ◌≤◌, min}
use mathlib.Core.Path.{◌≡◌, refl, sym, ap, ◌∙◌}
use mathlib.Core.Bool.{Bool, true, false}
use mathlib.Core.List.{List, [], ◌∷◌, ◌++◌, append_assoc}
use native.Mathlib.Decide.{dec_le}
use native.Mathlib.Omega.{arith}
use borrow.Author.Tests.{ltb-true, ltb-false}
use lib.Dec.{ltb}
use lib.ListN.{length, set, take, drop, length-set, length-append, take-append-drop, drop_of_length-le}
use lib.Seq.{sets, set_out, length-sets, sets-eq, drop-drop, length-take-le}
use Rattle.octets.specs.Bytes.{Laid}

-- behind the buffer's end nothing is laid
pub sets_out : (l : List ℕ) (at : ℕ) (text : List ℕ) → length l ≤ at → sets l at text ≡ l
sets_out l at [] h = refl
sets_out l at (b ∷ text) h = rw (set_out l at b h) (sets_out l (suc at) text (omega arith))

pub laid_out : (out : List ℕ) (at : ℕ) (text : List ℕ) → length out ≤ at → Laid out at text out at
laid_out out at text h = record { stands = sym (sets_out out at text h); ends = omega arith }

-- where a text ends
abbrev pub reach : List ℕ → ℕ → List ℕ → ℕ
reach out at text = at + min (length text) (length out - at)

sets_then : (out : List ℕ) (at : ℕ) (a b : List ℕ) → sets (sets out at a) (reach out at a) b ≡ sets out at (a ++ b)
sets_then out at [] b = let e : reach out at [] ≡ at = omega arith in rw e
sets_then out at (x ∷ a) b = go (ltb at (length out)) refl (sets_then (set out at x) (suc at) a b)
  where
    go : (t : Bool) → ltb at (length out) ≡ t → sets (sets (set out at x) (suc at) a) (reach (set out at x) (suc at) a) b ≡ sets (set out at x) (suc at) (a ++ b) → sets (sets out at (x ∷ a)) (reach out at (x ∷ a)) b ≡ sets out at ((x ∷ a) ++ b)
    go true p more = let e : reach out at (x ∷ a) ≡ reach (set out at x) (suc at) a = omega (arith, ltb-true at (length out) p, length-set out at x) in rw e more
    go false p more = let h : length out ≤ at = ltb-false _ _ p in let e : reach out at (x ∷ a) ≡ at = omega arith in rw (e, sets_out out at (x ∷ a) h, sets_out out at ((x ∷ a) ++ b) h) (sets_out out at b h)

-- one text behind another
pub laid_then : {out a after b last : List ℕ} {at middle r : ℕ} → Laid out at a after middle → Laid after middle b last r → Laid out at (a ++ b) last r
laid_then {out} {a} {after} {b} {last} {at} {middle} {r} first second =
    record {
      stands = second.stands ∙ rw (first.stands, first.ends) (sets_then out at a b);
      ends = omega (arith, first.ends, second.ends, length-append a b, ap length first.stands, length-sets out at a);
    }

pub laid_two : {out a after b last text : List ℕ} {at middle r : ℕ} → Laid out at a after middle → Laid after middle b last r → text ≡ a ++ b → Laid out at text last r
laid_two f g e = rw e (laid_then f g)

pub laid_three : {out a o₁ b o₂ d last text : List ℕ} {at r₁ r₂ r : ℕ} → Laid out at a o₁ r₁ → Laid o₁ r₁ b o₂ r₂ → Laid o₂ r₂ d last r → text ≡ a ++ b ++ d → Laid out at text last r
laid_three f g h e = rw e (laid_then (laid_then f g) h)

-- where there is room for all of it: the text from `at` on, everything else as it was
pub laid_whole : {before text after : List ℕ} {at r : ℕ} → Laid before at text after r → at + length text ≤ length before → (after ≡ take at before ++ text ++ drop (at + length text) before) × (r ≡ at + length text)
laid_whole {before} {text} {after} {at} {r} l h = (l.stands ∙ sets-eq text before at h, omega (arith, l.ends))

-- ---- as much of a text as there is room for, copied as a whole
pub laid_front : (before text : List ℕ) (at n : ℕ) → at ≤ length before → n ≡ min (length text) (length before - at)
    → Laid before at text (take at before ++ (take n text ++ drop n (drop at before))) (at + n)
laid_front before text at n h e = rw take-append-drop at (laid_then first (rest (dec_le (length text) n)))
  where
    m : length (take n text) ≡ n
    m = length-take-le n text (omega arith)

    after : List ℕ
    after = take at before ++ (take n text ++ drop n (drop at before))

    first : Laid before at (take n text) after (at + n)
    first =
        record {
          stands = sym (sets-eq (take n text) before at (omega (arith, m)) ∙ rw (m, drop-drop n at before) (append_assoc (take at before) (take n text) (drop (at + n) before)));
          ends = omega (arith, m);
        }

    k : length after ≡ length before
    k = ap length first.stands ∙ length-sets before at (take n text)

    rest : Dec (length text ≤ n) → Laid after (at + n) (drop n text) after (at + n)
    rest (yes l) = let z : drop n text ≡ [] = drop_of_length-le text {i = n} l in rw z (record { stands = refl; ends = omega arith })
    rest (no l) = laid_out after (at + n) (drop n text) (omega (arith, k))
