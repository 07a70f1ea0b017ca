-- Numbers and bytes as text.
use Rattle.std.specs.Prelude.{ℕ, zero, suc, ◌+◌, ◌/◌, ◌%◌, List, [], ◌∷◌, ◌++◌, flat_map, cond, eqb, ltb}

-- the decimal digits of a number in ASCII, the last so many of them, none in front of the first that isn't 0
abbrev pub leading : ℕ → ℕ → List ℕ
leading zero n = []
leading (suc k) n = cond (eqb n 0) [] (leading k (n / 10) ++ ((48 + n % 10) ∷ []))

-- 01, readback: a number in decimal; 0 is one digit, and a 64-bit number has at most 20
unfoldable pub decimal : ℕ → List ℕ
decimal n = leading 19 (n / 10) ++ ((48 + n % 10) ∷ [])

-- 01, readback: fields are parted by one space
unfoldable pub number_field : ℕ → List ℕ
number_field n = 32 ∷ decimal n

-- docs/PROBE.md, "Output": several numbers, each behind a space
unfoldable pub number_fields : List ℕ → List ℕ
number_fields ns = flat_map number_field ns

-- docs/PROBE.md, "Output": a hexadecimal digit, lowercase
unfoldable pub hex_digit : ℕ → ℕ
hex_digit n = cond (ltb n 10) (48 + n) (87 + n)

-- a byte as two digits
unfoldable pub hex_byte : ℕ → List ℕ
hex_byte b = hex_digit (b / 16) ∷ hex_digit (b % 16) ∷ []

-- an entry of a scratch as four, the high byte first
unfoldable pub hex_entry : ℕ → List ℕ
hex_entry e = hex_byte (e / 256) ++ hex_byte (e % 256)

-- what a field of bytes starts with: a space and `x`
abbrev pub hex_start : List ℕ
hex_start = 32 ∷ 120 ∷ []

-- bytes in hexadecimal
unfoldable pub hex_field : List ℕ → List ℕ
hex_field bytes = hex_start ++ flat_map hex_byte bytes

-- a scratch's entries
unfoldable pub entries_field : List ℕ → List ℕ
entries_field entries = hex_start ++ flat_map hex_entry entries
