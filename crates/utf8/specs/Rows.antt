-- Checks of the nine alternatives of RFC 3629, section 4: each test is its own, none overlaps another, a text is cut in one way, each number of
-- section 3's table has one character, and the toolchain's UTF-8 is the same. A border moved or an alternative dropped, in grammar, test and
-- code alike, makes one of them false.
use Rattle.std.specs.Prelude.{ℕ, ◌≡◌, ◌↔◌, true, List, [], ◌∷◌, ◌++◌, length, IsUtf8}
use Rattle.std.specs.Char.{IsScalar, encode_utf8}
use Rattle.utf8.specs.Rfc3629.{Utf8-char, Utf8, number, InRow}
use Rattle.utf8.specs.Rfc3629.Utf8-char.{utf8_1, utf8_2, utf8_3_e0, utf8_3_e1_ec, utf8_3_ed, utf8_3_ee_ef, utf8_4_f0, utf8_4_f1_f3, utf8_4_f4}
use Rattle.utf8.specs.Inside as test

-- the place of a character's alternative among the nine, in the order of the print
abbrev pub alternative : {c : List ℕ} → Utf8-char c → ℕ
alternative (utf8_1 a) = 1
alternative (utf8_2 a b) = 2
alternative (utf8_3_e0 a b c) = 3
alternative (utf8_3_e1_ec a b c) = 4
alternative (utf8_3_ed a b c) = 5
alternative (utf8_3_ee_ef a b c) = 6
alternative (utf8_4_f0 a b c d) = 7
alternative (utf8_4_f1_f3 a b c d) = 8
alternative (utf8_4_f4 a b c d) = 9

-- each test, as the code has it, holds exactly of the characters of its own alternative
pub record TestsAreRows : Type 0 where
  pub row_1 : (a : ℕ) → (test.utf8_1 a ≡ true) ↔ ((x : Utf8-char (a ∷ [])) × (alternative x ≡ 1))
  pub row_2 : (a b : ℕ) → (test.utf8_2 a b ≡ true) ↔ ((x : Utf8-char (a ∷ b ∷ [])) × (alternative x ≡ 2))
  pub row_3 : (a b c : ℕ) → (test.utf8_3_e0 a b c ≡ true) ↔ ((x : Utf8-char (a ∷ b ∷ c ∷ [])) × (alternative x ≡ 3))
  pub row_4 : (a b c : ℕ) → (test.utf8_3_e1_ec a b c ≡ true) ↔ ((x : Utf8-char (a ∷ b ∷ c ∷ [])) × (alternative x ≡ 4))
  pub row_5 : (a b c : ℕ) → (test.utf8_3_ed a b c ≡ true) ↔ ((x : Utf8-char (a ∷ b ∷ c ∷ [])) × (alternative x ≡ 5))
  pub row_6 : (a b c : ℕ) → (test.utf8_3_ee_ef a b c ≡ true) ↔ ((x : Utf8-char (a ∷ b ∷ c ∷ [])) × (alternative x ≡ 6))
  pub row_7 : (a b c d : ℕ) → (test.utf8_4_f0 a b c d ≡ true) ↔ ((x : Utf8-char (a ∷ b ∷ c ∷ d ∷ [])) × (alternative x ≡ 7))
  pub row_8 : (a b c d : ℕ) → (test.utf8_4_f1_f3 a b c d ≡ true) ↔ ((x : Utf8-char (a ∷ b ∷ c ∷ d ∷ [])) × (alternative x ≡ 8))
  pub row_9 : (a b c d : ℕ) → (test.utf8_4_f4 a b c d ≡ true) ↔ ((x : Utf8-char (a ∷ b ∷ c ∷ d ∷ [])) × (alternative x ≡ 9))

-- no two alternatives overlap: characters that begin with the same byte are of the same one
abbrev pub FirstByteTells : Type 0
FirstByteTells = (a : ℕ) (s t : List ℕ) (x : Utf8-char (a ∷ s)) (y : Utf8-char (a ∷ t)) → alternative x ≡ alternative y

-- a text is a sequence of characters in one way: where two stand at the front of the same bytes they are the same, and so is what follows
abbrev pub CutInOneWay : Type 0
CutInOneWay = (c d s t : List ℕ) → Utf8-char c → Utf8-char d → c ++ s ≡ d ++ t → (c ≡ d) × (s ≡ t)

-- section 3, the table: a character's number stands in the row for its length, and each number of a row has one character (of the bits marked x; that the others are as printed is SameAsStd's)
pub record RowsHold : Type 0 where
  pub in_row : (c : List ℕ) → Utf8-char c → InRow (length c) (number c)
  pub has_one : (n p : ℕ) → InRow n p → (c : List ℕ) × Utf8-char c × (length c ≡ n) × (number c ≡ p)
  pub no_other : (c d : List ℕ) → Utf8-char c → Utf8-char d → number c ≡ number d → c ≡ d

-- the toolchain has its own definition of UTF-8, by how a number is written, which its `str::from_utf8` is held to: by it the same characters and the same texts are UTF-8
pub record SameAsStd : Type 0 where
  pub characters : (c : List ℕ) → Utf8-char c ↔ (IsScalar (number c) × (c ≡ encode_utf8 (number c)))
  pub texts : (s : List ℕ) → Utf8 s ↔ IsUtf8 s
