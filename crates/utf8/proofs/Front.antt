-- The character at the front of bytes: `char_len` finds one exactly where the grammar has one.
use Prim.Native.Nat.{ℕ, ◌≤◌, ◌<◌}
use mathlib.Core.Path.{◌≡◌, refl, sym, ap, subst}
use mathlib.Core.Bool.{Bool, true, false, ◌&&◌, cond, and-eq-true_iff}
use mathlib.Core.List.{List, [], ◌∷◌, ◌++◌}
use native.Mathlib.Omega.{arith}
use lib.Dec.{leb, leb-zero}
use borrow.Author.Tests.{le-leb, lt-leb, leb-true, ne_eqb, eqb-true}
use lib.ListN.{length, take, drop, length-append, length-drop}
use lib.Seq.{take-append_seam}
use Rattle.std.specs.Prelude.{Option, Some, None}
use Rattle.utf8.specs.Rfc3629.{Byte, Tail, Utf8-char}
use Rattle.utf8.specs.Rfc3629.Utf8-char.{utf8_1, utf8_2, utf8_3_e0, utf8_3_e1_ec, utf8_3_ed, utf8_3_ee_ef, utf8_4_f0, utf8_4_f1_f3, utf8_4_f4}
use Rattle.utf8.specs.Inside as test
use Rattle.utf8.specs.Inside.{◌from◌to◌, tail, front_len, char_len}

-- ---- from a case of the grammar to the test

pub within : (lo hi b : ℕ) → Byte lo hi b → b from lo to hi ≡ true
within lo hi b p = rw (le-leb lo b p.low, le-leb b hi p.high)

pub a_tail : {b : ℕ} → Tail b → tail b ≡ true
a_tail {b} p = within _ _ b p

-- so many bytes at least
enough : (k n : ℕ) → k ≤ n → leb k n ≡ true
enough k n h = le-leb k n h

-- the length of a character at the front is found
pub front_some : {c : List ℕ} → Utf8-char c → (s : List ℕ) → char_len (c ++ s) ≡ Some (length c)
front_some (utf8_1 {a} p) s = let n : ℕ = length (a ∷ s) in simp (enough 1 n (omega arith), within _ _ a p)
front_some (utf8_2 {a} {b} p q) s =
    let n : ℕ = length (a ∷ b ∷ s) in
    simp (enough 1 n (omega arith), enough 2 n (omega arith), leb-zero a, lt-leb a 0x7F (omega arith), within _ _ a p, a_tail q)
front_some (utf8_3_e0 {a} {b} {c} e q r) s =
    let n : ℕ = length (a ∷ b ∷ c ∷ s) in
    simp (enough 1 n (omega arith), enough 2 n (omega arith), enough 3 n (omega arith), e, within _ _ b q, a_tail r)
front_some (utf8_3_e1_ec {a} {b} {c} p q r) s =
    let n : ℕ = length (a ∷ b ∷ c ∷ s) in
    simp (
      enough 1 n (omega arith),
      enough 2 n (omega arith),
      enough 3 n (omega arith),
      leb-zero a,
      lt-leb a 0x7F (omega arith),
      le-leb 0xC2 a (omega arith),
      lt-leb a 0xDF (omega arith),
      ne_eqb a 0xE0 (omega arith),
      within _ _ a p,
      a_tail q,
      a_tail r,
    )
front_some (utf8_3_ed {a} {b} {c} e q r) s =
    let n : ℕ = length (a ∷ b ∷ c ∷ s) in
    simp (enough 1 n (omega arith), enough 2 n (omega arith), enough 3 n (omega arith), e, within _ _ b q, a_tail r)
front_some (utf8_3_ee_ef {a} {b} {c} p q r) s =
    let n : ℕ = length (a ∷ b ∷ c ∷ s) in
    simp (
      enough 1 n (omega arith),
      enough 2 n (omega arith),
      enough 3 n (omega arith),
      leb-zero a,
      lt-leb a 0x7F (omega arith),
      le-leb 0xC2 a (omega arith),
      lt-leb a 0xDF (omega arith),
      ne_eqb a 0xE0 (omega arith),
      le-leb 0xE1 a (omega arith),
      lt-leb a 0xEC (omega arith),
      ne_eqb a 0xED (omega arith),
      within _ _ a p,
      a_tail q,
      a_tail r,
    )
front_some (utf8_4_f0 {a} {b} {c} {d} e q r u) s =
    let n : ℕ = length (a ∷ b ∷ c ∷ d ∷ s) in
    simp (enough 1 n (omega arith), enough 2 n (omega arith), enough 3 n (omega arith), enough 4 n (omega arith), e, within _ _ b q, a_tail r, a_tail u)
front_some (utf8_4_f1_f3 {a} {b} {c} {d} p q r u) s =
    let n : ℕ = length (a ∷ b ∷ c ∷ d ∷ s) in
    simp (
      enough 1 n (omega arith),
      enough 2 n (omega arith),
      enough 3 n (omega arith),
      enough 4 n (omega arith),
      leb-zero a,
      lt-leb a 0x7F (omega arith),
      le-leb 0xC2 a (omega arith),
      lt-leb a 0xDF (omega arith),
      ne_eqb a 0xE0 (omega arith),
      le-leb 0xE1 a (omega arith),
      lt-leb a 0xEC (omega arith),
      ne_eqb a 0xED (omega arith),
      le-leb 0xEE a (omega arith),
      lt-leb a 0xEF (omega arith),
      ne_eqb a 0xF0 (omega arith),
      within _ _ a p,
      a_tail q,
      a_tail r,
      a_tail u,
    )
front_some (utf8_4_f4 {a} {b} {c} {d} e q r u) s =
    let n : ℕ = length (a ∷ b ∷ c ∷ d ∷ s) in
    simp (enough 1 n (omega arith), enough 2 n (omega arith), enough 3 n (omega arith), enough 4 n (omega arith), e, within _ _ b q, a_tail r, a_tail u)

-- ---- from the test to a case of the grammar

-- the character at the front of bytes, and what stands behind it
pub data Front : List ℕ → ℕ → Type 0 where
  front : {c : List ℕ} → Utf8-char c → (s : List ℕ) → Front (c ++ s) (length c)

pub byte : (lo hi b : ℕ) → b from lo to hi ≡ true → Byte lo hi b
byte lo hi b e = let h = (and-eq-true_iff (leb lo b) (leb b hi)).0 e in record { low = leb-true lo b h.0; high = leb-true b hi h.1 }

pub both : (x y : Bool) → (x && y) ≡ true → (x ≡ true) × (y ≡ true)
both x y e = (and-eq-true_iff x y).0 e

pub three : (x y z : Bool) → (x && y && z) ≡ true → (x ≡ true) × (y ≡ true) × (z ≡ true)
three x y z e = let h = both (x && y) z e in let g = both x y h.0 in (g.0, g.1, h.1)

pub four : (x y z w : Bool) → (x && y && z && w) ≡ true → (x ≡ true) × (y ≡ true) × (z ≡ true) × (w ≡ true)
four x y z w e = let h = both (x && y && z) w e in let g = three x y z h.0 in (g.0, g.1, g.2, h.1)

abbrev pub is_1 : (a : ℕ) → test.utf8_1 a ≡ true → Utf8-char (a ∷ [])
is_1 a t = utf8_1 (byte _ _ a t)

abbrev pub is_2 : (a b : ℕ) → test.utf8_2 a b ≡ true → Utf8-char (a ∷ b ∷ [])
is_2 a b t = let h = both _ _ t in utf8_2 (byte _ _ a h.0) (byte _ _ b h.1)

abbrev pub is_3_e0 : (a b c : ℕ) → test.utf8_3_e0 a b c ≡ true → Utf8-char (a ∷ b ∷ c ∷ [])
is_3_e0 a b c t = let h = three _ _ _ t in utf8_3_e0 (eqb-true a 0xE0 h.0) (byte _ _ b h.1) (byte _ _ c h.2)

abbrev pub is_3_e1_ec : (a b c : ℕ) → test.utf8_3_e1_ec a b c ≡ true → Utf8-char (a ∷ b ∷ c ∷ [])
is_3_e1_ec a b c t = let h = three _ _ _ t in utf8_3_e1_ec (byte _ _ a h.0) (byte _ _ b h.1) (byte _ _ c h.2)

abbrev pub is_3_ed : (a b c : ℕ) → test.utf8_3_ed a b c ≡ true → Utf8-char (a ∷ b ∷ c ∷ [])
is_3_ed a b c t = let h = three _ _ _ t in utf8_3_ed (eqb-true a 0xED h.0) (byte _ _ b h.1) (byte _ _ c h.2)

abbrev pub is_3_ee_ef : (a b c : ℕ) → test.utf8_3_ee_ef a b c ≡ true → Utf8-char (a ∷ b ∷ c ∷ [])
is_3_ee_ef a b c t = let h = three _ _ _ t in utf8_3_ee_ef (byte _ _ a h.0) (byte _ _ b h.1) (byte _ _ c h.2)

abbrev pub is_4_f0 : (a b c d : ℕ) → test.utf8_4_f0 a b c d ≡ true → Utf8-char (a ∷ b ∷ c ∷ d ∷ [])
is_4_f0 a b c d t =
    let h = four _ _ _ _ t in
    utf8_4_f0 (eqb-true a 0xF0 h.0) (byte _ _ b h.1) (byte _ _ c h.2) (byte _ _ d h.3)

abbrev pub is_4_f1_f3 : (a b c d : ℕ) → test.utf8_4_f1_f3 a b c d ≡ true → Utf8-char (a ∷ b ∷ c ∷ d ∷ [])
is_4_f1_f3 a b c d t =
    let h = four _ _ _ _ t in
    utf8_4_f1_f3 (byte _ _ a h.0) (byte _ _ b h.1) (byte _ _ c h.2) (byte _ _ d h.3)

abbrev pub is_4_f4 : (a b c d : ℕ) → test.utf8_4_f4 a b c d ≡ true → Utf8-char (a ∷ b ∷ c ∷ d ∷ [])
is_4_f4 a b c d t =
    let h = four _ _ _ _ t in
    utf8_4_f4 (eqb-true a 0xF4 h.0) (byte _ _ b h.1) (byte _ _ c h.2) (byte _ _ d h.3)

-- what the first of several tests that holds gives; each asks for so many bytes first
pick : (P : ℕ → Type 0) (k t : Bool) (m n : ℕ) (x : Option ℕ) → (t ≡ true → P m) → (x ≡ Some n → P n) → cond (k && t) (Some m) x ≡ Some n → P n
pick P true true m n x f g e = let h : m ≡ n = cc in subst P h (f refl)
pick P true false m n x f g e = g e
pick P false t m n x f g e = g e

missing : {P : Type 0} (n : ℕ) → None ≡ Some n → P
missing n e = cc

pub some_front : (s : List ℕ) (n : ℕ) → char_len s ≡ Some n → Front s n
some_front [] n e = missing n e
some_front (a ∷ []) n e = pick (Front (a ∷ [])) true (test.utf8_1 a) 1 n None (λ t. front (is_1 a t) []) (missing n) e
some_front (a ∷ b ∷ []) n e =
    let P : ℕ → Type 0 = Front (a ∷ b ∷ []) in
    pick P true (test.utf8_1 a) 1 n _ (λ t. front (is_1 a t) (b ∷ [])) (pick P true (test.utf8_2 a b) 2 n None (λ t. front (is_2 a b t) []) (missing n)) e
some_front (a ∷ b ∷ c ∷ []) n e =
    let P : ℕ → Type 0 = Front (a ∷ b ∷ c ∷ []) in
    pick P true (test.utf8_1 a) 1 n _ (λ t. front (is_1 a t) (b ∷ c ∷ []))
    (pick P true (test.utf8_2 a b) 2 n _ (λ t. front (is_2 a b t) (c ∷ []))
    (pick P true (test.utf8_3_e0 a b c) 3 n _ (λ t. front (is_3_e0 a b c t) [])
    (pick P true (test.utf8_3_e1_ec a b c) 3 n _ (λ t. front (is_3_e1_ec a b c t) [])
    (pick P true (test.utf8_3_ed a b c) 3 n _ (λ t. front (is_3_ed a b c t) [])
    (pick P true (test.utf8_3_ee_ef a b c) 3 n None (λ t. front (is_3_ee_ef a b c t) []) (missing n)))))) e
some_front (a ∷ b ∷ c ∷ d ∷ s) n e =
    let P : ℕ → Type 0 = Front (a ∷ b ∷ c ∷ d ∷ s) in
    let m : ℕ = length (a ∷ b ∷ c ∷ d ∷ s) in
    pick P (leb 1 m) (test.utf8_1 a) 1 n _ (λ t. front (is_1 a t) (b ∷ c ∷ d ∷ s))
    (pick P (leb 2 m) (test.utf8_2 a b) 2 n _ (λ t. front (is_2 a b t) (c ∷ d ∷ s))
    (pick P (leb 3 m) (test.utf8_3_e0 a b c) 3 n _ (λ t. front (is_3_e0 a b c t) (d ∷ s))
    (pick P (leb 3 m) (test.utf8_3_e1_ec a b c) 3 n _ (λ t. front (is_3_e1_ec a b c t) (d ∷ s))
    (pick P (leb 3 m) (test.utf8_3_ed a b c) 3 n _ (λ t. front (is_3_ed a b c t) (d ∷ s))
    (pick P (leb 3 m) (test.utf8_3_ee_ef a b c) 3 n _ (λ t. front (is_3_ee_ef a b c t) (d ∷ s))
    (pick P (leb 4 m) (test.utf8_4_f0 a b c d) 4 n _ (λ t. front (is_4_f0 a b c d t) s)
    (pick P (leb 4 m) (test.utf8_4_f1_f3 a b c d) 4 n _ (λ t. front (is_4_f1_f3 a b c d t) s)
    (pick P (leb 4 m) (test.utf8_4_f4 a b c d) 4 n None (λ t. front (is_4_f4 a b c d t) s) (missing n))))))))) e

-- ---- what follows for any character at the front

char_some : {c : List ℕ} → Utf8-char c → 0 < length c
char_some (utf8_1 p) = omega arith
char_some (utf8_2 p q) = omega arith
char_some (utf8_3_e0 e q r) = omega arith
char_some (utf8_3_e1_ec p q r) = omega arith
char_some (utf8_3_ed e q r) = omega arith
char_some (utf8_3_ee_ef p q r) = omega arith
char_some (utf8_4_f0 e q r u) = omega arith
char_some (utf8_4_f1_f3 p q r u) = omega arith
char_some (utf8_4_f4 e q r u) = omega arith

-- it has a byte, and ends where the bytes end, or before
pub front_fits : (s : List ℕ) (n : ℕ) → char_len s ≡ Some n → (0 < n) × (n ≤ length s)
front_fits s n e = go (some_front s n e)
  where
    go : {s : List ℕ} {n : ℕ} → Front s n → (0 < n) × (n ≤ length s)
    go (front {c} k s) = (char_some k, omega (arith, length-append c s))

-- what stands behind it is shorter
pub front_less : {r : List ℕ} (s : List ℕ) (n : ℕ) → char_len s ≡ Some n → r ≡ drop n s → length r < length s
front_less s n e p = let h = front_fits s n e in omega (arith, h.0, h.1, ap length p, length-drop n s)

-- it is one of the grammar
pub front_char : (s : List ℕ) (n : ℕ) → char_len s ≡ Some n → Utf8-char (take n s)
front_char s n e = go (some_front s n e)
  where
    go : {s : List ℕ} {n : ℕ} → Front s n → Utf8-char (take n s)
    go (front {c} k s) = subst Utf8-char (sym (take-append_seam c s)) k
