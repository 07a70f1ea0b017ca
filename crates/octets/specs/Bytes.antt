-- Lists of bytes: parts, bits, and comparisons.
use Rattle.std.specs.Prelude.{ℕ, ◌+◌, ◌-◌, ◌/◌, ◌%◌, ◌^◌, ◌<◌, min, ◌≡◌, Bool, true, false, ◌&&◌, List, [], ◌∷◌, ◌++◌, eqb, length, get_or, take, drop, replicate}
use Rattle.std.proofs.lemmas.List.Edits.{sets}
use Rattle.std.specs.Borrow.{Bor}

-- each element is a byte
pub record Bytes (s : List ℕ) : Type 0 where
  pub below : (i : ℕ) → get_or s i 0 < 256

-- the byte at an offset, 0 past the end
abbrev pub byte_at : List ℕ → ℕ → ℕ
byte_at s offset = get_or s offset 0

-- the part that starts at an offset and is so many bytes wide, as far as the bytes go
abbrev pub part : List ℕ → ℕ → ℕ → List ℕ
part s offset width = take width (drop offset s)

-- where in memory the byte at an offset of lent bytes stands; past their last byte, where they end
abbrev pub place_in : Bor (List ℕ) → ℕ → ℕ × ℕ
place_in lent offset = (lent.ref_ptr.0, lent.ref_ptr.1 + min offset (length lent.now))

-- the lent bytes from an offset on, so many, in the lender's own memory
pub record IsPart (lent : Bor (List ℕ)) (offset width : ℕ) (r : Bor (List ℕ)) : Type 0 where
  pub bytes : r.now ≡ part lent.now offset width
  pub place : r.ref_ptr ≡ place_in lent offset

-- the same up to their end
pub record IsRest (lent : Bor (List ℕ)) (offset : ℕ) (r : Bor (List ℕ)) : Type 0 where
  pub bytes : r.now ≡ drop offset lent.now
  pub place : r.ref_ptr ≡ place_in lent offset

-- the first n bytes, then zeros up to n bytes
abbrev pub padded_to : ℕ → List ℕ → List ℕ
padded_to n s = take n s ++ replicate (n - length s) 0

-- the bytes stand in a lent buffer from `at` on, as far as it goes, and nothing else in it has changed; r is the place behind them
pub record Laid (before : List ℕ) (at : ℕ) (bytes after : List ℕ) (r : ℕ) : Type 0 where
  pub stands : after ≡ sets before at bytes
  pub ends : r ≡ at + min (length bytes) (length before - at)

-- each byte is 0
abbrev pub all_zero : List ℕ → Bool
all_zero [] = true
all_zero (b ∷ bs) = eqb b 0 && all_zero bs

-- the same bytes
abbrev pub same_bytes : List ℕ → List ℕ → Bool
same_bytes [] [] = true
same_bytes [] (y ∷ ys) = false
same_bytes (x ∷ xs) [] = false
same_bytes (x ∷ xs) (y ∷ ys) = eqb x y && same_bytes xs ys

-- the text stands at the front
abbrev pub starts_with : List ℕ → List ℕ → Bool
starts_with s text = same_bytes (take (length text) s) text

-- READING-RULES 2: bit k of a byte, 1 or 0
abbrev pub bit : ℕ → ℕ → ℕ
bit byte k = byte / 2 ^ k % 2

-- bit i of a bitmap (01, section 6): bit i % 8 of byte i / 8 is set
abbrev pub bit_set : List ℕ → ℕ → Bool
bit_set s i = eqb (bit (byte_at s (i / 8)) (i % 8)) 1
