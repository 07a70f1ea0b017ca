-- Volume blocks (01, section 2): which block numbers mean what on a volume of B blocks.
use Rattle.std.specs.Prelude.{ℕ, ◌+◌, ◌-◌, Bool, ◌&&◌, ◌||◌, ltb, leb, eqb}

-- 01, section 2: a non-reserved block is 512 up to but not including B - 512, and B is at least 1,024
unfoldable pub is_nonreserved_block : ℕ → ℕ → Bool
is_nonreserved_block block blocks = leb 512 block && leb 1024 blocks && ltb block (blocks - 512)

-- `validate_extent`, `validate_cleanup_key_value`, READING-RULES 9.4 and 12.2: so many blocks from the first on: the first is non-reserved, and they end by B - 512
unfoldable pub is_nonreserved_run : ℕ → ℕ → ℕ → Bool
is_nonreserved_run first count blocks = is_nonreserved_block first blocks && leb (first + count) (blocks - 512)

-- 01, section 2: bank roots are 32 and B - 96, and B is at least 1,024
unfoldable pub is_bank_root : ℕ → ℕ → Bool
is_bank_root block blocks = leb 1024 blocks && (eqb block 32 || eqb block (blocks - 96))

-- 01, section 2: bank blocks are 32..95 and B - 96..B - 33, and B is at least 1,024
unfoldable pub is_bank_block : ℕ → ℕ → Bool
is_bank_block block blocks =
    leb 1024 blocks && (leb 32 block && leb block 95 || leb (blocks - 96) block && leb block (blocks - 33))

-- 01, section 2: root slots are 256 and B - 257, and B is at least 1,024
unfoldable pub is_root_slot : ℕ → ℕ → Bool
is_root_slot slot blocks = leb 1024 blocks && (eqb slot 256 || eqb slot (blocks - 257))
