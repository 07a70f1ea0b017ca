-- The reading of bytes: turn by turn it goes on behind the character at the front, and so many turns as there are bytes are enough.
use Prim.Native.Nat.{ℕ, zero, suc, ◌≤◌}
use mathlib.Core.Path.{◌≡◌, refl, ap, ◌∙◌}
use mathlib.Core.List.{List, [], ◌∷◌, ◌++◌}
use native.Mathlib.Omega.{arith}
use lib.ListN.{length, take, drop}
use lib.Seq.{take-append_seam, drop-append_seam}
use Rattle.std.specs.Prelude.{Option, Some, None}
use Rattle.utf8.specs.Rfc3629.{Utf8-char, number}
use Rattle.utf8.specs.Inside.{char_len, Reading, turn, turns, read}
use Rattle.utf8.specs.Inside.Reading.{char}
use Rattle.utf8.proofs.Front.{front_some, front_less}

-- a turn is the same where what it goes on with is
same_turn : (f g : List ℕ → Reading) (s : List ℕ) (x : Option ℕ) → ((n : ℕ) → x ≡ Some n → f (drop n s) ≡ g (drop n s)) → turn f s x ≡ turn g s x
same_turn f g s (Some n) h = ap (char (number (take n s))) (h n refl)
same_turn f g s None h = refl

-- as many turns as there are bytes are enough
same_turns : (j k : ℕ) (s : List ℕ) → length s ≤ j → length s ≤ k → turns j s ≡ turns k s
same_turns zero zero s h i = refl
same_turns zero (suc k) [] h i = refl
same_turns zero (suc k) (a ∷ s) h i = let z : ⊥ = omega arith in absurd z
same_turns (suc j) zero [] h i = refl
same_turns (suc j) zero (a ∷ s) h i = let z : ⊥ = omega arith in absurd z
same_turns (suc j) (suc k) s h i =
    same_turn (turns j) (turns k) s (char_len s)
    (λ n e. let l = front_less {r = drop n s} s n e refl in same_turns j k (drop n s) (omega (arith, l)) (omega (arith, l)))

-- the reading is a turn, and then the reading
pub read_turn : (s : List ℕ) → read s ≡ turn read s (char_len s)
unfolding read
read_turn s =
    same_turns (length s) (suc (length s)) s (omega arith) (omega arith)
    ∙ same_turn (turns (length s)) read s (char_len s)
    (λ n e. let l = front_less {r = drop n s} s n e refl in same_turns (length s) (length (drop n s)) (drop n s) (omega (arith, l)) (omega arith))

-- behind a character that `char_len` found
pub read_some : (s : List ℕ) (n : ℕ) → char_len s ≡ Some n → read s ≡ char (number (take n s)) (read (drop n s))
read_some s n e = read_turn s ∙ ap (turn read s) e

-- behind a character of the grammar
pub read_char : {c : List ℕ} → Utf8-char c → (s : List ℕ) → read (c ++ s) ≡ char (number c) (read s)
read_char {c} k s = read_some (c ++ s) (length c) (front_some k s) ∙ rw (take-append_seam c s, drop-append_seam c s)
