-- The first two bytes of a character tell whether a label may hold it; and the test `plain` holds exactly where each character may stand.
use Prim.Native.Nat.{ℕ, zero, suc, ◌≤◌, ◌<◌}
use mathlib.Core.Path.{◌≡◌, refl, sym, ap, subst, ◌∙◌}
use mathlib.Core.Logic.{◌↔◌}
use mathlib.Core.Bool.{Bool, true, false, not, ◌&&◌, ◌||◌, cond, false≢true}
use mathlib.Core.List.{List, [], ◌∷◌, ◌++◌}
use native.Mathlib.Decide.{dec_le}
use native.Mathlib.Omega.{arith}
use lib.Dec.{leb, eqb, leb-zero}
use lib.ListN.{length, get_or, take, drop, take-append-drop}
use borrow.Author.Tests.{le-leb, lt-leb, leb-true, leb-false, eq-eqb, ne_eqb, eqb-true, eqb-false}
use Rattle.std.specs.Prelude.{Option, Some, None}
use Rattle.utf8.specs.Rfc3629.{Byte, Tail, Utf8-char, number}
use Rattle.utf8.specs.Rfc3629.Utf8-char.{utf8_1, utf8_2, utf8_3_e0, utf8_3_e1_ec, utf8_3_ed, utf8_3_ee_ef, utf8_4_f0, utf8_4_f1_f3, utf8_4_f4}
use Rattle.utf8.specs.Plain.{HasCharacter, MayStand}
use Rattle.utf8.specs.Plain.HasCharacter.{here, later}
use Rattle.utf8.specs.Inside.{◌from◌to◌, char_len, turn, read, allowed, all_allowed, plain}
use Rattle.utf8.specs.Inside.Reading.{end, bad}
use Rattle.utf8.proofs.Front.{front_char, front_less}
use Rattle.utf8.proofs.Reading.{read_turn, read_some, read_char}

-- ---- a character's first two bytes

-- the test of the first two bytes, as the code has it
abbrev pub two_bytes : ℕ → ℕ → Bool
two_bytes a b = leb 0x20 a && not (eqb a 0x2F) && not (eqb a 0x7F) && not (eqb a 0xC2 && leb b 0x9F)

-- a number past the controls, and a first byte past C2
high : (p a b : ℕ) → 0xA0 ≤ p → 0xC3 ≤ a → allowed p ≡ two_bytes a b
high p a b h k =
    simp (
      ne_eqb p 0x2F (omega arith),
      leb-zero p,
      lt-leb p 0x1F (omega arith),
      le-leb 0x7F p (omega arith),
      lt-leb p 0x9F (omega arith),
      le-leb 0x20 a (omega arith),
      ne_eqb a 0x2F (omega arith),
      ne_eqb a 0x7F (omega arith),
      ne_eqb a 0xC2 (omega arith),
    )

small : (a b : ℕ) (t u v : Bool) → leb 0x20 a ≡ t → eqb a 0x2F ≡ u → eqb a 0x7F ≡ v → a ≤ 0x7F → allowed a ≡ two_bytes a b
small a b false u v e f g h =
    let k : a < 0x20 = leb-false 0x20 a e in
    simp (ne_eqb a 0x2F (omega arith), leb-zero a, le-leb a 0x1F (omega arith), e)
small a b true true v e f g h = let k : a ≡ 0x2F = eqb-true a 0x2F f in simp k
small a b true false true e f g h = let k : a ≡ 0x7F = eqb-true a 0x7F g in simp k
small a b true false false e f g h =
    let k : 0x20 ≤ a = leb-true 0x20 a e in
    let z : a ≡ 0x7F → ⊥ = eqb-false a 0x7F g in
    simp (leb-zero a, lt-leb a 0x1F (omega arith), lt-leb 0x7F a (omega arith), f, e, g, ne_eqb a 0xC2 (omega arith))

pair : (a b : ℕ) (t u : Bool) → eqb a 0xC2 ≡ t → leb b 0x9F ≡ u → Byte 0xC2 0xDF a → Tail b → allowed (number (a ∷ b ∷ [])) ≡ two_bytes a b
pair a b false u e f p q = let z : a ≡ 0xC2 → ⊥ = eqb-false a 0xC2 e in high (number (a ∷ b ∷ [])) a b (omega arith) (omega arith)
pair a b true true e f p q =
    let k : a ≡ 0xC2 = eqb-true a 0xC2 e in
    let l : b ≤ 0x9F = leb-true b 0x9F f in
    let m : number (a ∷ b ∷ []) ≡ b = omega arith in
    rw m (simp (k, f, ne_eqb b 0x2F (omega arith), leb-zero b, lt-leb b 0x1F (omega arith), le-leb 0x7F b (omega arith)))
pair a b true false e f p q =
    let k : a ≡ 0xC2 = eqb-true a 0xC2 e in
    let l : 0x9F < b = leb-false b 0x9F f in
    let m : number (a ∷ b ∷ []) ≡ b = omega arith in
    rw m (simp (k, f, ne_eqb b 0x2F (omega arith), leb-zero b, lt-leb b 0x1F (omega arith), le-leb 0x7F b (omega arith)))

by_char : {c : List ℕ} → Utf8-char c → (s : List ℕ) → allowed (number c) ≡ two_bytes (get_or (c ++ s) 0 0) (get_or (c ++ s) 1 0)
by_char (utf8_1 {a} p) s = small a (get_or s 0 0) (leb 0x20 a) (eqb a 0x2F) (eqb a 0x7F) refl refl refl p.high
by_char (utf8_2 {a} {b} p q) s = pair a b (eqb a 0xC2) (leb b 0x9F) refl refl p q
by_char (utf8_3_e0 {a} {b} {c} e q r) s = high (number (a ∷ b ∷ c ∷ [])) a b (omega arith) (omega arith)
by_char (utf8_3_e1_ec {a} {b} {c} p q r) s = high (number (a ∷ b ∷ c ∷ [])) a b (omega arith) (omega arith)
by_char (utf8_3_ed {a} {b} {c} e q r) s = high (number (a ∷ b ∷ c ∷ [])) a b (omega arith) (omega arith)
by_char (utf8_3_ee_ef {a} {b} {c} p q r) s = high (number (a ∷ b ∷ c ∷ [])) a b (omega arith) (omega arith)
by_char (utf8_4_f0 {a} {b} {c} {d} e q r u) s = high (number (a ∷ b ∷ c ∷ d ∷ [])) a b (omega arith) (omega arith)
by_char (utf8_4_f1_f3 {a} {b} {c} {d} p q r u) s = high (number (a ∷ b ∷ c ∷ d ∷ [])) a b (omega arith) (omega arith)
by_char (utf8_4_f4 {a} {b} {c} {d} e q r u) s = high (number (a ∷ b ∷ c ∷ d ∷ [])) a b (omega arith) (omega arith)

pub front_allowed : (s : List ℕ) (n : ℕ) → char_len s ≡ Some n → allowed (number (take n s)) ≡ two_bytes (get_or s 0 0) (get_or s 1 0)
front_allowed s n e =
    subst (λ (x : List ℕ). allowed (number (take n s)) ≡ two_bytes (get_or x 0 0) (get_or x 1 0)) (take-append-drop n s) (by_char (front_char s n e) (drop n s))

-- ---- behind the character at the front

pub plain_char : {c : List ℕ} → Utf8-char c → (s : List ℕ) → plain (c ++ s) ≡ (allowed (number c) && plain s)
unfolding plain
plain_char c s = ap all_allowed (read_char c s)

pub plain_some : (s : List ℕ) (n : ℕ) → char_len s ≡ Some n → plain s ≡ (allowed (number (take n s)) && plain (drop n s))
unfolding plain
plain_some s n e = ap all_allowed (read_some s n e)

-- where none starts, none is at fault
pub plain_none : (s : List ℕ) → char_len s ≡ None → plain s ≡ true
unfolding plain
plain_none s e = ap all_allowed (read_turn s ∙ ap (turn read s) e) ∙ go (eqb (length s) 0)
  where
    go : (b : Bool) → all_allowed (cond b end bad) ≡ true
    go true = refl
    go false = refl

-- ---- one number: the test and the condition

neither : (x y z : Bool) → not (x || y || z) ≡ true → (x ≡ false) × (y ≡ false) × (z ≡ false)
neither false false false e = (refl, refl, refl)
neither true y z e = absurd (false≢true e)
neither false true z e = absurd (false≢true e)
neither false false true e = absurd (false≢true e)

both : (x y : Bool) → x ≡ true → y ≡ true → (x && y) ≡ true
both x y e f = rw (e, f)

may_stand : (p : ℕ) → allowed p ≡ true → MayStand p
may_stand p e =
    let n = neither (eqb p 0x2F) (p from 0x0000 to 0x001F) (p from 0x007F to 0x009F) e in
    record {
      no_slash = λ h. false≢true (sym n.0 ∙ eq-eqb p 0x2F h);
      no_low = λ h. false≢true (sym n.1 ∙ both _ _ (leb-zero p) (le-leb p 0x1F h));
      no_high = λ l h. false≢true (sym n.2 ∙ both _ _ (le-leb 0x7F p l) (le-leb p 0x9F h));
    }

stands : (p : ℕ) → MayStand p → allowed p ≡ true
stands p m = simp (ne_eqb p 0x2F m.no_slash, leb-zero p, lt-leb p 0x1F (above (dec_le p 0x1F)), high_out (dec_le 0x7F p) (dec_le p 0x9F))
  where
    above : Dec (p ≤ 0x1F) → 0x20 ≤ p
    above (yes h) = absurd (m.no_low h)
    above (no h) = omega arith

    high_out : Dec (0x7F ≤ p) → Dec (p ≤ 0x9F) → p from 0x007F to 0x009F ≡ false
    high_out (yes l) (yes h) = absurd (m.no_high l h)
    high_out (yes l) (no h) = simp (le-leb 0x7F p l, lt-leb p 0x9F (omega arith))
    high_out (no l) d = simp (lt-leb 0x7F p (omega arith))

-- ---- the bytes: the test and the condition

left : (x y : Bool) → (x && y) ≡ true → x ≡ true
left true y e = refl
left false y e = absurd (false≢true e)

right : (x y : Bool) → (x && y) ≡ true → y ≡ true
right true y e = e
right false y e = absurd (false≢true e)

forth : {p : ℕ} {s : List ℕ} → HasCharacter p s → plain s ≡ true → MayStand p
forth (here {c} s k) e = may_stand (number c) (left (allowed (number c)) (plain s) (sym (plain_char k s) ∙ e))
forth (later {p} {c} {s} k h) e = forth h (right (allowed (number c)) (plain s) (sym (plain_char k s) ∙ e))

-- of at most so many bytes, by the character at the front
back : (k : ℕ) (s : List ℕ) (x : Option ℕ) → length s ≤ k → char_len s ≡ x → ((p : ℕ) → HasCharacter p s → MayStand p) → plain s ≡ true
back k s None h e f = plain_none s e
back zero s (Some n) h e f = let l = front_less {r = drop n s} s n e refl in let z : ⊥ = omega (arith, l) in absurd z
back (suc k) s (Some n) h e f =
    let c = front_char s n e in
    let whole : take n s ++ drop n s ≡ s = take-append-drop n s in
    let rest : plain (drop n s) ≡ true =
    back k (drop n s) (char_len (drop n s)) (let l = front_less {r = drop n s} s n e refl in omega (arith, l)) refl
    (λ p i. f p (subst (HasCharacter p) whole (later c i)))
    in
    plain_some s n e
    ∙ both _ _ (stands (number (take n s)) (f (number (take n s)) (subst (HasCharacter (number (take n s))) whole (here (drop n s) c)))) rest

-- the test and the condition say the same
pub plain_is_characters : (s : List ℕ) → plain s ≡ true ↔ ((p : ℕ) → HasCharacter p s → MayStand p)
plain_is_characters s = (λ e p h. forth h e, back (length s) s (char_len s) (omega arith) refl)

-- ---- the loop of `is_plain`

pub plain_turn : {u : Bool} (s : List ℕ) (n : ℕ) (r : Bool) → u ≡ plain s → char_len s ≡ Some n → r ≡ allowed (number (take n s)) → u ≡ (r && plain (drop n s))
plain_turn s n r i e p = i ∙ plain_some s n e ∙ rw (sym p)

pub plain_told : (s : List ℕ) (r : Bool) → r ≡ plain s → r ≡ true ↔ ((p : ℕ) → HasCharacter p s → MayStand p)
plain_told s r e = let h = plain_is_characters s in (λ t. h.0 (sym e ∙ t), λ f. e ∙ h.1 f)
