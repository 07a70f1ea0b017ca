-- What the nine alternatives come to: no two overlap, a text is cut in one way, and they are the forms of section 3's numbers, each once.
use Prim.Native.Nat.{ℕ, ◌+◌, ◌/◌, ◌%◌, ◌≤◌, ◌<◌}
use mathlib.Core.Path.{◌≡◌, refl, sym, ap, subst, ◌∙◌}
use mathlib.Core.Bool.{Bool, true, cond, and-eq-true_iff}
use mathlib.Core.List.{List, [], ◌∷◌, ◌++◌}
use mathlib.Core.Logic.{◌⊎◌, inl, inr}
use native.Mathlib.Decide.{dec_le}
use native.Mathlib.Omega.{arith}
use lib.Dec.{leb, eqb}
use lib.ListN.{length, get_or, take, drop}
use lib.Seq.{take-append_seam, drop-append_seam}
use lib.Utf8.{scalar, scalars, encode, encodes, scalar_cases, low_scalar}
use borrow.Author.Tests.{eq-eqb, le-leb, lt-leb, lt-ltb, le-ltb}
use Rattle.std.specs.Prelude.{IsUtf8}
use Rattle.utf8.specs.Rfc3629.{Byte, Tail, Utf8-char, Utf8, number, InRow}
use Rattle.utf8.specs.Rfc3629.Utf8-char.{utf8_1, utf8_2, utf8_3_e0, utf8_3_e1_ec, utf8_3_ed, utf8_3_ee_ef, utf8_4_f0, utf8_4_f1_f3, utf8_4_f4}
use Rattle.utf8.specs.Rfc3629.Utf8.{none, more}
use Rattle.utf8.specs.Rfc3629.InRow.{row_1, row_2, row_3, row_4}
use Rattle.octets.specs.Bytes.{byte_at}
use Rattle.utf8.specs.Inside as test
use Rattle.utf8.specs.Rows.{alternative, TestsAreRows, FirstByteTells, CutInOneWay, RowsHold, SameAsStd}
use Rattle.utf8.specs.Inside.{char_len}
use Rattle.utf8.proofs.Front.{within, a_tail, is_1, is_2, is_3_e0, is_3_e1_ec, is_3_ed, is_3_ee_ef, is_4_f0, is_4_f1_f3, is_4_f4, front_some}

-- ---- each test is its own alternative

-- the test of an alternative by its place, of the first bytes
test_of : ℕ → List ℕ → Bool
test_of k s =
    let a = byte_at s 0 in
    let b = byte_at s 1 in
    let c = byte_at s 2 in
    let d = byte_at s 3 in
    cond (eqb k 1) (test.utf8_1 a)
    (cond (eqb k 2) (test.utf8_2 a b)
    (cond (eqb k 3) (test.utf8_3_e0 a b c)
    (cond (eqb k 4) (test.utf8_3_e1_ec a b c)
    (cond (eqb k 5) (test.utf8_3_ed a b c)
    (cond (eqb k 6) (test.utf8_3_ee_ef a b c)
    (cond (eqb k 7) (test.utf8_4_f0 a b c d) (cond (eqb k 8) (test.utf8_4_f1_f3 a b c d) (test.utf8_4_f4 a b c d))))))))

own : {c : List ℕ} (x : Utf8-char c) → test_of (alternative x) c ≡ true
unfolding test_of
own (utf8_1 {a} p) = within _ _ a p
own (utf8_2 {a} p q) = rw (within _ _ a p, a_tail q)
own (utf8_3_e0 {a} {b} e q r) = rw (eq-eqb a _ e, within _ _ b q, a_tail r)
own (utf8_3_e1_ec {a} p q r) = rw (within _ _ a p, a_tail q, a_tail r)
own (utf8_3_ed {a} {b} e q r) = rw (eq-eqb a _ e, within _ _ b q, a_tail r)
own (utf8_3_ee_ef {a} p q r) = rw (within _ _ a p, a_tail q, a_tail r)
own (utf8_4_f0 {a} {b} e q r u) = rw (eq-eqb a _ e, within _ _ b q, a_tail r, a_tail u)
own (utf8_4_f1_f3 {a} p q r u) = rw (within _ _ a p, a_tail q, a_tail r, a_tail u)
own (utf8_4_f4 {a} {b} e q r u) = rw (eq-eqb a _ e, within _ _ b q, a_tail r, a_tail u)

back : (k : ℕ) (c : List ℕ) → (x : Utf8-char c) × (alternative x ≡ k) → test_of k c ≡ true
back k c h = subst (λ (n : ℕ). test_of n c ≡ true) h.1 (own h.0)

pub tests_are_rows : TestsAreRows
unfolding test_of
tests_are_rows = record {
  row_1 = λ a. (λ t. (is_1 a t, refl), back 1 (a ∷ []));
  row_2 = λ a b. (λ t. (is_2 a b t, refl), back 2 (a ∷ b ∷ []));
  row_3 = λ a b c. (λ t. (is_3_e0 a b c t, refl), back 3 (a ∷ b ∷ c ∷ []));
  row_4 = λ a b c. (λ t. (is_3_e1_ec a b c t, refl), back 4 (a ∷ b ∷ c ∷ []));
  row_5 = λ a b c. (λ t. (is_3_ed a b c t, refl), back 5 (a ∷ b ∷ c ∷ []));
  row_6 = λ a b c. (λ t. (is_3_ee_ef a b c t, refl), back 6 (a ∷ b ∷ c ∷ []));
  row_7 = λ a b c d. (λ t. (is_4_f0 a b c d t, refl), back 7 (a ∷ b ∷ c ∷ d ∷ []));
  row_8 = λ a b c d. (λ t. (is_4_f1_f3 a b c d t, refl), back 8 (a ∷ b ∷ c ∷ d ∷ []));
  row_9 = λ a b c d. (λ t. (is_4_f4 a b c d t, refl), back 9 (a ∷ b ∷ c ∷ d ∷ []));
}

-- ---- no two overlap

-- the alternative that a first byte belongs to
by_first : ℕ → ℕ
by_first a =
    cond (leb a 0x7F) 1
    (cond (leb a 0xDF) 2 (cond (leb a 0xE0) 3 (cond (leb a 0xEC) 4 (cond (leb a 0xED) 5 (cond (leb a 0xEF) 6 (cond (leb a 0xF0) 7 (cond (leb a 0xF3) 8 9)))))))

told : {c : List ℕ} (x : Utf8-char c) → alternative x ≡ by_first (get_or c 0 0)
unfolding by_first
told (utf8_1 {a} p) = simp (le-leb a 0x7F (omega arith))
told (utf8_2 {a} p q) = simp (lt-leb a 0x7F (omega arith), le-leb a 0xDF (omega arith))
told (utf8_3_e0 {a} e q r) = simp e
told (utf8_3_e1_ec {a} p q r) = simp (lt-leb a 0x7F (omega arith), lt-leb a 0xDF (omega arith), lt-leb a 0xE0 (omega arith), le-leb a 0xEC (omega arith))
told (utf8_3_ed {a} e q r) = simp e
told (utf8_3_ee_ef {a} p q r) =
    simp (
      lt-leb a 0x7F (omega arith),
      lt-leb a 0xDF (omega arith),
      lt-leb a 0xE0 (omega arith),
      lt-leb a 0xEC (omega arith),
      lt-leb a 0xED (omega arith),
      le-leb a 0xEF (omega arith),
    )
told (utf8_4_f0 {a} e q r u) = simp e
told (utf8_4_f1_f3 {a} p q r u) =
    simp (
      lt-leb a 0x7F (omega arith),
      lt-leb a 0xDF (omega arith),
      lt-leb a 0xE0 (omega arith),
      lt-leb a 0xEC (omega arith),
      lt-leb a 0xED (omega arith),
      lt-leb a 0xEF (omega arith),
      lt-leb a 0xF0 (omega arith),
      le-leb a 0xF3 (omega arith),
    )
told (utf8_4_f4 {a} e q r u) = simp e

pub first_byte_tells : FirstByteTells
first_byte_tells a s t x y = told x ∙ sym (told y)

-- ---- in one way

pub cut_in_one_way : CutInOneWay
cut_in_one_way c d s t x y e =
    let f : length c ≡ length d = let g = front_some x s in let h = front_some y t in cc (g, h, ap char_len e) in (
      sym (take-append_seam c s) ∙ ap (take (length c)) e ∙ ap (λ (n : ℕ). take n (d ++ t)) f ∙ take-append_seam d t,
      sym (drop-append_seam c s) ∙ ap (drop (length c)) e ∙ ap (λ (n : ℕ). drop n (d ++ t)) f ∙ drop-append_seam d t,
    )

-- ---- from a character to its number

pub number_in_row : {c : List ℕ} → Utf8-char c → InRow (length c) (number c)
number_in_row (utf8_1 p) = row_1 p.high
number_in_row (utf8_2 {a} {b} p q) = row_2 {p = number (a ∷ b ∷ [])} (omega arith) (omega arith)
number_in_row (utf8_3_e0 {a} {b} {c} e q r) = row_3 {p = number (a ∷ b ∷ c ∷ [])} (omega arith) (omega arith) (λ l h. omega arith)
number_in_row (utf8_3_e1_ec {a} {b} {c} p q r) = row_3 {p = number (a ∷ b ∷ c ∷ [])} (omega arith) (omega arith) (λ l h. omega arith)
number_in_row (utf8_3_ed {a} {b} {c} e q r) = row_3 {p = number (a ∷ b ∷ c ∷ [])} (omega arith) (omega arith) (λ l h. omega arith)
number_in_row (utf8_3_ee_ef {a} {b} {c} p q r) = row_3 {p = number (a ∷ b ∷ c ∷ [])} (omega arith) (omega arith) (λ l h. omega arith)
number_in_row (utf8_4_f0 {a} {b} {c} {d} e q r u) = row_4 {p = number (a ∷ b ∷ c ∷ d ∷ [])} (omega arith) (omega arith)
number_in_row (utf8_4_f1_f3 {a} {b} {c} {d} p q r u) = row_4 {p = number (a ∷ b ∷ c ∷ d ∷ [])} (omega arith) (omega arith)
number_in_row (utf8_4_f4 {a} {b} {c} {d} e q r u) = row_4 {p = number (a ∷ b ∷ c ∷ d ∷ [])} (omega arith) (omega arith)

-- ---- how a number is written, by the rows of the table

one_is : (p : ℕ) → p ≤ 0x7F → encode p ≡ p ∷ []
unfolding encode
one_is p h = simp (lt-ltb p 128 (omega arith))

two_is : (p : ℕ) → 0x80 ≤ p → p ≤ 0x7FF → encode p ≡ (192 + p / 64) ∷ (128 + p % 64) ∷ []
unfolding encode
two_is p l h = simp (le-ltb p 128 (omega arith), lt-ltb p 2048 (omega arith))

three_is : (p : ℕ) → 0x800 ≤ p → p ≤ 0xFFFF → encode p ≡ (224 + p / 4096) ∷ (128 + p / 64 % 64) ∷ (128 + p % 64) ∷ []
unfolding encode
three_is p l h = simp (le-ltb p 128 (omega arith), le-ltb p 2048 (omega arith), lt-ltb p 65536 (omega arith))

four_is : (p : ℕ) → 0x10000 ≤ p → encode p ≡ (240 + p / 262144) ∷ (128 + p / 4096 % 64) ∷ (128 + p / 64 % 64) ∷ (128 + p % 64) ∷ []
unfolding encode
four_is p l = simp (le-ltb p 128 (omega arith), le-ltb p 2048 (omega arith), le-ltb p 65536 (omega arith))

-- a number of a row is written as a character
written_3 : (p : ℕ) → 0x800 ≤ p → p ≤ 0xFFFF → (0xD800 ≤ p → p ≤ 0xDFFF → ⊥) → Utf8-char ((224 + p / 4096) ∷ (128 + p / 64 % 64) ∷ (128 + p % 64) ∷ [])
written_3 p l h n = go (dec_le p 0xFFF) (dec_le p 0xCFFF) (dec_le p 0xD7FF)
  where
    last : Tail (128 + p % 64)
    last = record { low = omega arith; high = omega arith }

    middle : Tail (128 + p / 64 % 64)
    middle = record { low = omega arith; high = omega arith }

    go : Dec (p ≤ 0xFFF) → Dec (p ≤ 0xCFFF) → Dec (p ≤ 0xD7FF) → Utf8-char ((224 + p / 4096) ∷ (128 + p / 64 % 64) ∷ (128 + p % 64) ∷ [])
    go (yes i) j k = utf8_3_e0 (omega arith) (record { low = omega arith; high = omega arith }) last
    go (no i) (yes j) k = utf8_3_e1_ec (record { low = omega arith; high = omega arith }) middle last
    go (no i) (no j) (yes k) = utf8_3_ed (omega arith) (record { low = omega arith; high = omega arith }) last
    go (no i) (no j) (no k) =
        let m : 0xE000 ≤ p = above (dec_le p 0xDFFF) in utf8_3_ee_ef (record { low = omega arith; high = omega arith }) middle last
      where
        above : Dec (p ≤ 0xDFFF) → 0xE000 ≤ p
        above (yes i) = absurd (n (omega arith) i)
        above (no i) = omega arith

written_4 : (p : ℕ) → 0x10000 ≤ p → p ≤ 0x10FFFF → Utf8-char ((240 + p / 262144) ∷ (128 + p / 4096 % 64) ∷ (128 + p / 64 % 64) ∷ (128 + p % 64) ∷ [])
written_4 p l h = go (dec_le p 0x3FFFF) (dec_le p 0xFFFFF)
  where
    last : Tail (128 + p % 64)
    last = record { low = omega arith; high = omega arith }

    third : Tail (128 + p / 64 % 64)
    third = record { low = omega arith; high = omega arith }

    second : Tail (128 + p / 4096 % 64)
    second = record { low = omega arith; high = omega arith }

    go : Dec (p ≤ 0x3FFFF) → Dec (p ≤ 0xFFFFF) → Utf8-char ((240 + p / 262144) ∷ (128 + p / 4096 % 64) ∷ (128 + p / 64 % 64) ∷ (128 + p % 64) ∷ [])
    go (yes i) j = utf8_4_f0 (omega arith) (record { low = omega arith; high = omega arith }) third last
    go (no i) (yes j) = utf8_4_f1_f3 (record { low = omega arith; high = omega arith }) second third last
    go (no i) (no j) = utf8_4_f4 (omega arith) (record { low = omega arith; high = omega arith }) third last

-- the character of a number, and that it is what the toolchain writes
pub record Written (n p : ℕ) : Type 0 where
  pub bytes : List ℕ
  pub is : Utf8-char bytes
  pub size : length bytes ≡ n
  pub says : number bytes ≡ p
  pub std : encode p ≡ bytes

written : {n p : ℕ} → InRow n p → Written n p
written (row_1 {p} h) = record { bytes = p ∷ []; is = utf8_1 (record { low = omega arith; high = h }); size = refl; says = refl; std = one_is p h }
written (row_2 {p} l h) =
    record {
      bytes = (192 + p / 64) ∷ (128 + p % 64) ∷ [];
      is = utf8_2 (record { low = omega arith; high = omega arith }) (record { low = omega arith; high = omega arith });
      size = refl;
      says = omega arith;
      std = two_is p l h;
    }
written (row_3 {p} l h n) =
    record {
      bytes = (224 + p / 4096) ∷ (128 + p / 64 % 64) ∷ (128 + p % 64) ∷ [];
      is = written_3 p l h n;
      size = refl;
      says = omega arith;
      std = three_is p l h;
    }
written (row_4 {p} l h) =
    record {
      bytes = (240 + p / 262144) ∷ (128 + p / 4096 % 64) ∷ (128 + p / 64 % 64) ∷ (128 + p % 64) ∷ [];
      is = written_4 p l h;
      size = refl;
      says = omega arith;
      std = four_is p l;
    }

-- ---- from a character to how its number is written

pair_is : {a b x y : ℕ} → a ≡ x → b ≡ y → a ∷ b ∷ [] ≡ x ∷ y ∷ []
pair_is e f = rw (e, f)

triple_is : {a b c x y z : ℕ} → a ≡ x → b ≡ y → c ≡ z → a ∷ b ∷ c ∷ [] ≡ x ∷ y ∷ z ∷ []
triple_is e f g = rw (e, f, g)

four_are : {a b c d x y z w : ℕ} → a ≡ x → b ≡ y → c ≡ z → d ≡ w → a ∷ b ∷ c ∷ d ∷ [] ≡ x ∷ y ∷ z ∷ w ∷ []
four_are e f g h = rw (e, f, g, h)

three_again : (a b c : ℕ) → Byte 0xE0 0xEF a → Tail b → Tail c → number (a ∷ b ∷ c ∷ []) ≤ 0xFFFF → 0x800 ≤ number (a ∷ b ∷ c ∷ []) → a ∷ b ∷ c ∷ [] ≡ encode (number (a ∷ b ∷ c ∷ []))
three_again a b c p q r h l =
    let n : ℕ = number (a ∷ b ∷ c ∷ []) in
    triple_is (let e : a ≡ 224 + n / 4096 = omega arith in e) (let e : b ≡ 128 + n / 64 % 64 = omega arith in e) (let e : c ≡ 128 + n % 64 = omega arith in e)
    ∙ sym (three_is n l h)

four_again : (a b c d : ℕ) → Byte 0xF0 0xF4 a → Tail b → Tail c → Tail d → 0x10000 ≤ number (a ∷ b ∷ c ∷ d ∷ []) → a ∷ b ∷ c ∷ d ∷ [] ≡ encode (number (a ∷ b ∷ c ∷ d ∷ []))
four_again a b c d p q r u l =
    let n : ℕ = number (a ∷ b ∷ c ∷ d ∷ []) in
    four_are (let e : a ≡ 240 + n / 262144 = omega arith in e) (let e : b ≡ 128 + n / 4096 % 64 = omega arith in e) (let e : c ≡ 128 + n / 64 % 64 = omega arith in e) (let e : d ≡ 128 + n % 64 = omega arith in e)
    ∙ sym (four_is n l)

again : {c : List ℕ} → Utf8-char c → c ≡ encode (number c)
again (utf8_1 {a} p) = sym (one_is a p.high)
again (utf8_2 {a} {b} p q) =
    let n : ℕ = number (a ∷ b ∷ []) in
    pair_is (let e : a ≡ 192 + n / 64 = omega arith in e) (let e : b ≡ 128 + n % 64 = omega arith in e) ∙ sym (two_is n (omega arith) (omega arith))
again (utf8_3_e0 {a} {b} {c} e q r) = three_again a b c (record { low = omega arith; high = omega arith }) (record { low = omega arith; high = omega arith }) r (omega arith) (omega arith)
again (utf8_3_e1_ec {a} {b} {c} p q r) = three_again a b c (record { low = omega arith; high = omega arith }) q r (omega arith) (omega arith)
again (utf8_3_ed {a} {b} {c} e q r) = three_again a b c (record { low = omega arith; high = omega arith }) (record { low = omega arith; high = omega arith }) r (omega arith) (omega arith)
again (utf8_3_ee_ef {a} {b} {c} p q r) = three_again a b c (record { low = omega arith; high = omega arith }) q r (omega arith) (omega arith)
again (utf8_4_f0 {a} {b} {c} {d} e q r u) = four_again a b c d (record { low = omega arith; high = omega arith }) (record { low = omega arith; high = omega arith }) r u (omega arith)
again (utf8_4_f1_f3 {a} {b} {c} {d} p q r u) = four_again a b c d (record { low = omega arith; high = omega arith }) q r u (omega arith)
again (utf8_4_f4 {a} {b} {c} {d} e q r u) = four_again a b c d (record { low = omega arith; high = omega arith }) (record { low = omega arith; high = omega arith }) r u (omega arith)

pub rows_hold : RowsHold
rows_hold = record {
  in_row = λ c x. number_in_row x;
  has_one = λ n p r. let w = written r in (w.bytes, w.is, w.size, w.says);
  no_other = λ c d x y e. again x ∙ ap encode e ∙ sym (again y);
}

-- ---- the toolchain's words

scalar_in_row : {n p : ℕ} → InRow n p → scalar p ≡ true
scalar_in_row (row_1 {p} h) = low_scalar p (omega arith)
scalar_in_row (row_2 {p} l h) = low_scalar p (omega arith)
scalar_in_row (row_3 {p} l h n) = go (dec_le p 0xD7FF)
  where
    above : Dec (p ≤ 0xDFFF) → 0xD800 ≤ p → 0xE000 ≤ p
    above (yes i) j = absurd (n j i)
    above (no i) j = omega arith

    go : Dec (p ≤ 0xD7FF) → scalar p ≡ true
    go (yes i) = low_scalar p (omega arith)
    go (no i) = let m : 0xE000 ≤ p = above (dec_le p 0xDFFF) (omega arith) in simp (le-ltb p 55296 (omega arith), le-leb 57344 p m, lt-ltb p 1114112 (omega arith))
scalar_in_row (row_4 {p} l h) = simp (le-ltb p 55296 (omega arith), le-leb 57344 p (omega arith), lt-ltb p 1114112 (omega arith))

-- the row of a scalar value
row_of : (p : ℕ) → (p < 55296) ⊎ ((57344 ≤ p) × (p < 1114112)) → (n : ℕ) × InRow n p
row_of p h = go h (dec_le p 0x7F) (dec_le p 0x7FF) (dec_le p 0xFFFF)
  where
    go : (p < 55296) ⊎ ((57344 ≤ p) × (p < 1114112)) → Dec (p ≤ 0x7F) → Dec (p ≤ 0x7FF) → Dec (p ≤ 0xFFFF) → (n : ℕ) × InRow n p
    go h (yes i) j k = (1, row_1 i)
    go h (no i) (yes j) k = (2, row_2 (omega arith) j)
    go (inl h) (no i) (no j) (yes k) = (3, row_3 (omega arith) k (λ l m. omega arith))
    go (inr h) (no i) (no j) (yes k) = (3, row_3 (omega arith) k (λ l m. omega (arith, h.0)))
    go (inl h) (no i) (no j) (no k) = let z : ⊥ = omega arith in absurd z
    go (inr h) (no i) (no j) (no k) = (4, row_4 (omega arith) (omega (arith, h.1)))

encoded : (p : ℕ) → scalar p ≡ true → Utf8-char (encode p)
encoded p e = let r = row_of p (scalar_cases p e) in let w = written r.1 in subst Utf8-char (sym w.std) w.is

from_std : (c : List ℕ) → (scalar (number c) ≡ true) × (c ≡ encode (number c)) → Utf8-char c
from_std c h = subst Utf8-char (sym h.1) (encoded (number c) h.0)

std_text : {s : List ℕ} → Utf8 s → IsUtf8 s
std_text none = ([], (refl, refl))
std_text (more {c} {s} k r) =
    let t = std_text r in
    (number c ∷ t.0, (rw (scalar_in_row (number_in_row k)) t.1.0, rw (← again k, t.1.1)))

text_std : (cs s : List ℕ) → scalars cs ≡ true → encodes cs ≡ s → Utf8 s
text_std [] s e f = subst Utf8 f none
text_std (p ∷ cs) s e f =
    let h = (and-eq-true_iff (scalar p) (scalars cs)).0 e in
    subst Utf8 f (more (encoded p h.0) (text_std cs (encodes cs) h.1 refl))

pub same_as_std : SameAsStd
same_as_std = record {
  characters = λ c. (λ x. (scalar_in_row (number_in_row x), again x), from_std c);
  texts = λ s. (std_text, λ u. text_std u.0 s u.1.0 u.1.1);
}
