-- Numbers in bytes (01: stored integers are little-endian; integers inside keys are big-endian).
use Rattle.std.specs.Prelude.{ℕ, zero, suc, ◌+◌, ◌*◌, ◌/◌, ◌%◌, ◌^◌, Bool, cond, List, [], ◌∷◌, leb, length}
use Rattle.octets.specs.Bytes.{part}

-- little-endian: the first byte counts ones, the next 256s, and so on
abbrev pub little : List ℕ → ℕ
little [] = 0
little (b ∷ bs) = b + 256 * little bs

-- a number's bytes, so many, the lowest first
abbrev pub little_bytes : ℕ → ℕ → List ℕ
little_bytes zero n = []
little_bytes (suc width) n = n % 256 ∷ little_bytes width (n / 256)

-- big-endian: the last byte counts ones, the one before it 256s, and so on
abbrev pub big : List ℕ → ℕ
big [] = 0
big (b ∷ bs) = b * 256 ^ length bs + big bs

-- the stored number of so many bytes at an offset; bytes past the end count as 0
unfoldable pub field : List ℕ → ℕ → ℕ → ℕ
field s offset width = little (part s offset width)

-- the u16 at an offset
abbrev pub u16_at : List ℕ → ℕ → ℕ
u16_at s offset = field s offset 2

-- the u32 at an offset
abbrev pub u32_at : List ℕ → ℕ → ℕ
u32_at s offset = field s offset 4

-- the u64 at an offset
abbrev pub u64_at : List ℕ → ℕ → ℕ
u64_at s offset = field s offset 8

-- a field of that width at the offset lies within the bytes
abbrev pub within : List ℕ → ℕ → ℕ → Bool
within s offset width = leb (offset + width) (length s)

-- the u64 inside a key at an offset, 0 where the key ends before its last byte
unfoldable pub big_at : List ℕ → ℕ → ℕ
big_at key offset = cond (within key offset 8) (big (part key offset 8)) 0
