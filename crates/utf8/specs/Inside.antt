-- What computes, for the chains of tests in the crates above, and what private functions promise: the nine cases of specs/Rfc3629 as tests,
-- by the same names. Nobody has to believe it: `is_utf8` and `is_plain` promise both forms, and `utf8_is_grammar` (proofs/Grammar),
-- `plain_is_characters` (proofs/Plain) and `TestsAreRows` (specs/Rows) say that they are the same.
use Rattle.std.specs.Prelude.{ℕ, zero, suc, Bool, true, false, not, ◌&&◌, ◌||◌, cond, List, Option, Some, None, leb, eqb, length, take, drop}
use Rattle.octets.specs.Bytes.{byte_at}
use Rattle.utf8.specs.Rfc3629.{number}

infix 40 ◌from◌to◌
-- the form %xlo-hi: a number from lo to hi, both counted
abbrev pub ◌from◌to◌ : ℕ → ℕ → ℕ → Bool
b from lo to hi = leb lo b && leb b hi

-- UTF8-tail   = %x80-BF
abbrev pub tail : ℕ → Bool
tail b = b from 0x80 to 0xBF

-- UTF8-1      = %x00-7F
abbrev pub utf8_1 : ℕ → Bool
utf8_1 a = a from 0x00 to 0x7F

-- UTF8-2      = %xC2-DF UTF8-tail
abbrev pub utf8_2 : ℕ → ℕ → Bool
utf8_2 a b = a from 0xC2 to 0xDF && tail b

-- UTF8-3      = %xE0 %xA0-BF UTF8-tail /
abbrev pub utf8_3_e0 : ℕ → ℕ → ℕ → Bool
utf8_3_e0 a b c = eqb a 0xE0 && b from 0xA0 to 0xBF && tail c

--               %xE1-EC 2( UTF8-tail ) /
abbrev pub utf8_3_e1_ec : ℕ → ℕ → ℕ → Bool
utf8_3_e1_ec a b c = a from 0xE1 to 0xEC && tail b && tail c

--               %xED %x80-9F UTF8-tail /
abbrev pub utf8_3_ed : ℕ → ℕ → ℕ → Bool
utf8_3_ed a b c = eqb a 0xED && b from 0x80 to 0x9F && tail c

--               %xEE-EF 2( UTF8-tail )
abbrev pub utf8_3_ee_ef : ℕ → ℕ → ℕ → Bool
utf8_3_ee_ef a b c = a from 0xEE to 0xEF && tail b && tail c

-- UTF8-4      = %xF0 %x90-BF 2( UTF8-tail ) /
abbrev pub utf8_4_f0 : ℕ → ℕ → ℕ → ℕ → Bool
utf8_4_f0 a b c d = eqb a 0xF0 && b from 0x90 to 0xBF && tail c && tail d

--               %xF1-F3 3( UTF8-tail ) /
abbrev pub utf8_4_f1_f3 : ℕ → ℕ → ℕ → ℕ → Bool
utf8_4_f1_f3 a b c d = a from 0xF1 to 0xF3 && tail b && tail c && tail d

--               %xF4 %x80-8F 2( UTF8-tail )
abbrev pub utf8_4_f4 : ℕ → ℕ → ℕ → ℕ → Bool
utf8_4_f4 a b c d = eqb a 0xF4 && b from 0x80 to 0x8F && tail c && tail d

-- how many bytes the character has that stands at the front of n bytes, of which the first are a, b, c and d: the first of the nine that fits; none where none does
abbrev pub front_len : ℕ → ℕ → ℕ → ℕ → ℕ → Option ℕ
front_len n a b c d =
    cond (leb 1 n && utf8_1 a) (Some 1)
    (cond (leb 2 n && utf8_2 a b) (Some 2)
    (cond (leb 3 n && utf8_3_e0 a b c) (Some 3)
    (cond (leb 3 n && utf8_3_e1_ec a b c) (Some 3)
    (cond (leb 3 n && utf8_3_ed a b c) (Some 3)
    (cond (leb 3 n && utf8_3_ee_ef a b c) (Some 3)
    (cond (leb 4 n && utf8_4_f0 a b c d) (Some 4)
    (cond (leb 4 n && utf8_4_f1_f3 a b c d) (Some 4)
    (cond (leb 4 n && utf8_4_f4 a b c d) (Some 4) None))))))))

-- how many bytes the character at the front has
abbrev pub char_len : List ℕ → Option ℕ
char_len s = front_len (length s) (byte_at s 0) (byte_at s 1) (byte_at s 2) (byte_at s 3)

-- what bytes read as: they end; no character starts; or a character with its number, and the reading of the bytes after it
pub data Reading : Type 0 where
  end : Reading
  bad : Reading
  char : ℕ → Reading → Reading

-- a turn of the reading: behind the character at the front it goes on; where none starts, the bytes end there or not
abbrev pub turn : (List ℕ → Reading) → List ℕ → Option ℕ → Reading
turn go s (Some n) = char (number (take n s)) (go (drop n s))
turn go s None = cond (eqb (length s) 0) end bad

-- so many turns at the most; `read` has enough, since each character has a byte
abbrev pub turns : ℕ → List ℕ → Reading
turns zero s = end
turns (suc k) s = turn (turns k) s (char_len s)

-- bytes are read from the front, character by character, each of one byte at least
unfoldable pub read : List ℕ → Reading
read s = turns (length s) s

-- the reading comes to the end of the bytes
abbrev pub ends : Reading → Bool
ends end = true
ends bad = false
ends (char p r) = ends r

-- whether the bytes are UTF-8
unfoldable pub utf8 : List ℕ → Bool
utf8 s = ends (read s)

-- 01, section 3: whether a label may hold the character of this number: not `/`, not U+0000..U+001F, not U+007F..U+009F
abbrev pub allowed : ℕ → Bool
allowed p = not (eqb p 0x2F || p from 0x0000 to 0x001F || p from 0x007F to 0x009F)

-- each character of a reading, as far as it goes, is allowed
abbrev pub all_allowed : Reading → Bool
all_allowed end = true
all_allowed bad = true
all_allowed (char p r) = allowed p && all_allowed r

-- whether each character, as far as the bytes are UTF-8, is allowed
unfoldable pub plain : List ℕ → Bool
plain s = all_allowed (read s)
