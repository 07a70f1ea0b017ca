-- CRC-32C (01, section 1), one bit at a time, in a register.
-- RFC 3720, section 12.1, says it as a division: the message, each byte's lowest bit first and the first 32 bits complemented, times x^32, by the
-- polynomial 0x11EDC6F41; the remainder is complemented. The register, which is 01's form, holds the remainder in reverse, the highest power lowest.
use Rattle.std.specs.Prelude.{ℕ, zero, suc, ◌≡◌, ◌+◌, ◌*◌, ◌/◌, ◌%◌, ◌^◌, List, [], ◌∷◌}
use Rattle.std.specs.Int.Bits.{bit_xor}

-- 01, section 1: the reflected polynomial, RFC 3720's (section 12.1) without its highest power, in reverse
abbrev pub polynomial : ℕ
polynomial = 0x82F63B78

-- RFC 3720, section 12.1: the polynomial as it is printed there, with its highest power, x^32
abbrev pub printed_polynomial : ℕ
printed_polynomial = 0x11EDC6F41

-- so many of a number's lowest bits, in reverse order
abbrev pub reversed : ℕ → ℕ → ℕ
reversed zero n = 0
reversed (suc bits) n = n % 2 * 2 ^ bits + reversed bits (n / 2)

-- 01, section 1: "reflected": the 32 lower bits of RFC 3720's polynomial in reverse order
abbrev pub IsReflected : Type 0
IsReflected = polynomial ≡ reversed 32 printed_polynomial

-- 01, section 1: start and final xor, RFC 3720's two complements (section 12.1)
abbrev pub ones : ℕ
ones = 0xFFFFFFFF

-- crc.rs, `CRC_TABLES`: the lowest bit leaves the register, and takes the polynomial with it if it is 1; a step of RFC 3720's division
unfoldable pub step_bit : ℕ → ℕ
step_bit register = bit_xor (register / 2) (register % 2 * polynomial)

-- n such steps
unfoldable pub step_bits : ℕ → ℕ → ℕ
step_bits zero register = register
step_bits (suc n) register = step_bits n (step_bit register)

-- crc.rs, `CRC_TABLES` and the end of `software_extend`: a byte goes into the register's low bits, and eight steps follow; so its lowest bit is first (RFC 3720, section 12.1)
unfoldable pub step_byte : ℕ → ℕ → ℕ
step_byte register byte = step_bits 8 (bit_xor register byte)

-- crc.rs, `software_extend`: the register after the bytes of a message, one after the other
unfoldable pub extend : ℕ → List ℕ → ℕ
extend register [] = register
extend register (byte ∷ bytes) = extend (step_byte register byte) bytes

-- 01, section 1: the checksum of a message, from the start to the final xor
unfoldable pub crc32c : List ℕ → ℕ
crc32c bytes = bit_xor (extend ones bytes) ones

-- the bytes, with those from place start up to but not including place end as zero
unfoldable pub zeroed : ℕ → ℕ → List ℕ → List ℕ
zeroed start end [] = []
zeroed zero zero (byte ∷ bytes) = byte ∷ bytes
zeroed (suc start) zero (byte ∷ bytes) = byte ∷ bytes
zeroed zero (suc end) (byte ∷ bytes) = 0 ∷ zeroed zero end bytes
zeroed (suc start) (suc end) (byte ∷ bytes) = byte ∷ zeroed start end bytes

-- 01, section 1: a block's word is taken with its own four bytes as zero; they stand from start up to but not including end
unfoldable pub crc32c_with_zero : List ℕ → ℕ → ℕ → ℕ
crc32c_with_zero bytes start end = crc32c (zeroed start end bytes)
