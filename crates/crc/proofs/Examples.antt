-- A few cases of the definitions. (RFC 3720's vectors are run by the program crc_vectors.)
use mathlib.Core.Path.{◌≡◌, refl}
use mathlib.Core.List.{[], ◌∷◌}
use Rattle.crc.specs.Crc.{IsReflected, step_bit, step_bits, step_byte, extend, crc32c, zeroed}
use Rattle.octets.specs.Number.{little_bytes}

-- the polynomial is RFC 3720's, reflected
pub reflected : IsReflected
reflected = refl

-- "123456789"
digits : crc32c (0x31 ∷ 0x32 ∷ 0x33 ∷ 0x34 ∷ 0x35 ∷ 0x36 ∷ 0x37 ∷ 0x38 ∷ 0x39 ∷ []) ≡ 0xE3069283
unfolding crc32c extend step_byte step_bits step_bit
digits = refl

-- places 1 and 2; an end past the message is its end; an end before the start leaves all
two : zeroed 1 3 (7 ∷ 8 ∷ 9 ∷ 10 ∷ []) ≡ 7 ∷ 0 ∷ 0 ∷ 10 ∷ []
unfolding zeroed
two = refl

past : zeroed 2 9 (7 ∷ 8 ∷ 9 ∷ 10 ∷ []) ≡ 7 ∷ 8 ∷ 0 ∷ 0 ∷ []
unfolding zeroed
past = refl

crossed : zeroed 3 1 (7 ∷ 8 ∷ 9 ∷ 10 ∷ []) ≡ 7 ∷ 8 ∷ 9 ∷ 10 ∷ []
unfolding zeroed
crossed = refl

lowest_first : little_bytes 4 0x01020304 ≡ 4 ∷ 3 ∷ 2 ∷ 1 ∷ []
lowest_first = refl
