-- RFC 3629, "UTF-8, a transformation format of ISO 10646". Section 4 has the syntax: one case here for each printed alternative,
-- in the order of the print and by the names that the code has (UTF8-tail first and UTF8-octets last, as they are used). Section 3 has the
-- number of a character.
use Rattle.std.specs.Prelude.{ℕ, ◌+◌, ◌*◌, ◌%◌, ◌^◌, ◌≤◌, ◌≡◌, List, [], ◌∷◌, ◌++◌}

-- section 4, the form %xlo-hi: a byte from lo to hi
pub record Byte (lo hi b : ℕ) : Type 0 where
  pub low : lo ≤ b
  pub high : b ≤ hi

-- section 4:  UTF8-tail   = %x80-BF
abbrev pub Tail : ℕ → Type 0
Tail b = Byte 0x80 0xBF b

-- section 4:  UTF8-char   = UTF8-1 / UTF8-2 / UTF8-3 / UTF8-4
pub data Utf8-char : List ℕ → Type 0 where
  --           UTF8-1      = %x00-7F
  utf8_1 : {a : ℕ} → Byte 0x00 0x7F a → Utf8-char (a ∷ [])
  --           UTF8-2      = %xC2-DF UTF8-tail
  utf8_2 : {a b : ℕ} → Byte 0xC2 0xDF a → Tail b → Utf8-char (a ∷ b ∷ [])
  --           UTF8-3      = %xE0 %xA0-BF UTF8-tail /
  utf8_3_e0 : {a b c : ℕ} → a ≡ 0xE0 → Byte 0xA0 0xBF b → Tail c → Utf8-char (a ∷ b ∷ c ∷ [])
  --                         %xE1-EC 2( UTF8-tail ) /
  utf8_3_e1_ec : {a b c : ℕ} → Byte 0xE1 0xEC a → Tail b → Tail c → Utf8-char (a ∷ b ∷ c ∷ [])
  --                         %xED %x80-9F UTF8-tail /
  utf8_3_ed : {a b c : ℕ} → a ≡ 0xED → Byte 0x80 0x9F b → Tail c → Utf8-char (a ∷ b ∷ c ∷ [])
  --                         %xEE-EF 2( UTF8-tail )
  utf8_3_ee_ef : {a b c : ℕ} → Byte 0xEE 0xEF a → Tail b → Tail c → Utf8-char (a ∷ b ∷ c ∷ [])
  --           UTF8-4      = %xF0 %x90-BF 2( UTF8-tail ) /
  utf8_4_f0 : {a b c d : ℕ} → a ≡ 0xF0 → Byte 0x90 0xBF b → Tail c → Tail d → Utf8-char (a ∷ b ∷ c ∷ d ∷ [])
  --                         %xF1-F3 3( UTF8-tail ) /
  utf8_4_f1_f3 : {a b c d : ℕ} → Byte 0xF1 0xF3 a → Tail b → Tail c → Tail d → Utf8-char (a ∷ b ∷ c ∷ d ∷ [])
  --                         %xF4 %x80-8F 2( UTF8-tail )
  utf8_4_f4 : {a b c d : ℕ} → a ≡ 0xF4 → Byte 0x80 0x8F b → Tail c → Tail d → Utf8-char (a ∷ b ∷ c ∷ d ∷ [])

-- section 4:  UTF8-octets = *( UTF8-char )
-- (any number of characters, none too)
pub data Utf8 : List ℕ → Type 0 where
  none : Utf8 []
  more : {c s : List ℕ} → Utf8-char c → Utf8 s → Utf8 (c ++ s)

-- section 3: the number of a character is made of the bits marked x, those of the last byte lowest
abbrev pub number : List ℕ → ℕ
-- 0xxxxxxx
number (a ∷ []) = a
-- 110xxxxx 10xxxxxx
number (a ∷ b ∷ []) = a % 2 ^ 5 * 2 ^ 6 + b % 2 ^ 6
-- 1110xxxx 10xxxxxx 10xxxxxx
number (a ∷ b ∷ c ∷ []) = a % 2 ^ 4 * 2 ^ 12 + b % 2 ^ 6 * 2 ^ 6 + c % 2 ^ 6
-- 11110xxx 10xxxxxx 10xxxxxx 10xxxxxx
number (a ∷ b ∷ c ∷ d ∷ []) = a % 2 ^ 3 * 2 ^ 18 + b % 2 ^ 6 * 2 ^ 12 + c % 2 ^ 6 * 2 ^ 6 + d % 2 ^ 6
-- a list of another length is no character
number [] = 0
number (a ∷ b ∷ c ∷ d ∷ e ∷ s) = 0

-- section 3, the first column of the table: the numbers that take this many bytes, and none is a surrogate (U+D800..U+DFFF)
pub data InRow : ℕ → ℕ → Type 0 where
  -- 0000 0000-0000 007F
  row_1 : {p : ℕ} → p ≤ 0x7F → InRow 1 p
  -- 0000 0080-0000 07FF
  row_2 : {p : ℕ} → 0x80 ≤ p → p ≤ 0x7FF → InRow 2 p
  -- 0000 0800-0000 FFFF
  row_3 : {p : ℕ} → 0x800 ≤ p → p ≤ 0xFFFF → (0xD800 ≤ p → p ≤ 0xDFFF → ⊥) → InRow 3 p
  -- 0001 0000-0010 FFFF
  row_4 : {p : ℕ} → 0x10000 ≤ p → p ≤ 0x10FFFF → InRow 4 p
