-- The test `utf8` holds exactly of the byte sequences that RFC 3629's grammar derives.
use Prim.Native.Nat.{ℕ, zero, suc, ◌≤◌}
use mathlib.Core.Path.{◌≡◌, refl, sym, ap, subst, ◌∙◌}
use mathlib.Core.Logic.{◌↔◌}
use mathlib.Core.Bool.{Bool, true, false, cond, false≢true}
use mathlib.Core.List.{List, [], ◌∷◌, ◌++◌}
use native.Mathlib.Omega.{arith}
use lib.Dec.{eqb}
use lib.ListN.{length, take, drop, take-append-drop}
use borrow.Author.Tests.{ne_eqb}
use Rattle.std.specs.Prelude.{Option, Some, None}
use Rattle.std.specs.Str.{IsAscii}
use Rattle.utf8.specs.Rfc3629.{Utf8-char, Utf8}
use Rattle.utf8.specs.Rfc3629.Utf8-char.{utf8_1}
use Rattle.utf8.specs.Rfc3629.Utf8.{none, more}
use Rattle.utf8.specs.Inside.{char_len, turn, read, ends, utf8}
use Rattle.utf8.specs.Inside.Reading.{end, bad}
use Rattle.utf8.proofs.Front.{front_char, front_less}
use Rattle.utf8.proofs.Reading.{read_turn, read_some, read_char}

-- ---- behind the character at the front

pub utf8_char : {c : List ℕ} → Utf8-char c → (s : List ℕ) → utf8 (c ++ s) ≡ utf8 s
unfolding utf8
utf8_char c s = ap ends (read_char c s)

pub utf8_some : (s : List ℕ) (n : ℕ) → char_len s ≡ Some n → utf8 s ≡ utf8 (drop n s)
unfolding utf8
utf8_some s n e = ap ends (read_some s n e)

-- where none starts, the text ends there or isn't one
pub utf8_none : (s : List ℕ) → char_len s ≡ None → utf8 s ≡ eqb (length s) 0
unfolding utf8
utf8_none s e = ap ends (read_turn s ∙ ap (turn read s) e) ∙ go (eqb (length s) 0)
  where
    go : (b : Bool) → ends (cond b end bad) ≡ b
    go true = refl
    go false = refl

-- ---- the test and the grammar

complete : {s : List ℕ} → Utf8 s → utf8 s ≡ true
complete none = utf8_none [] refl
complete (more {s = s} c r) = utf8_char c s ∙ complete r

-- of at most so many bytes, by the character at the front
sound : (k : ℕ) (s : List ℕ) (x : Option ℕ) → length s ≤ k → char_len s ≡ x → utf8 s ≡ true → Utf8 s
sound zero [] x h e u = none
sound zero (a ∷ s) x h e u = let z : ⊥ = omega arith in absurd z
sound (suc k) s (Some n) h e u =
    subst Utf8 (take-append-drop n s)
    (more (front_char s n e)
    (sound k (drop n s) (char_len (drop n s)) (let l = front_less {r = drop n s} s n e refl in omega (arith, l)) refl (sym (utf8_some s n e) ∙ u)))
sound (suc k) [] None h e u = none
sound (suc k) (a ∷ s) None h e u = absurd (false≢true (sym (ne_eqb (length (a ∷ s)) 0 (omega arith)) ∙ sym (utf8_none (a ∷ s) e) ∙ u))

-- the test and the grammar say the same
pub utf8_is_grammar : (s : List ℕ) → utf8 s ≡ true ↔ Utf8 s
utf8_is_grammar s = (sound (length s) s (char_len s) (omega arith) refl, complete)

pub utf8_told : (s : List ℕ) (r : Bool) → r ≡ utf8 s → r ≡ true ↔ Utf8 s
utf8_told s r e = let h = utf8_is_grammar s in (λ t. h.0 (sym e ∙ t), λ u. e ∙ h.1 u)

-- ---- a front of characters of one byte

ascii_behind : (c s : List ℕ) → IsAscii c → utf8 (c ++ s) ≡ utf8 s
ascii_behind [] s h = refl
ascii_behind (a ∷ c) s h = utf8_char (utf8_1 {a = a} (record { low = omega arith; high = omega (arith, h 0) })) (c ++ s) ∙ ascii_behind c s (λ i. h (suc i))

pub ascii_go : {u : Bool} {c after : List ℕ} (n : ℕ) (s : List ℕ) → u ≡ utf8 s → c ≡ take n s → after ≡ drop n s → IsAscii c → u ≡ utf8 after
ascii_go {u} {c} {after} n s i p q h = i ∙ rw (sym (take-append-drop n s)) (rw (← p, ← q) (ascii_behind c after h))
