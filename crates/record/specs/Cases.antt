-- The [P] cases of 01, section 5, computed from the definitions; one theorem, `proofs/Cases`, carries them all.
use Rattle.std.specs.Prelude.{ℕ, ◌≡◌, Bool, true, List, [], ◌∷◌, ◌++◌, pos, neg_ℤ, replicate}
use Rattle.error.specs.declared.Validation.{Validation}
use Rattle.error.specs.Answer.{Check}
use Rattle.error.specs.Demand.{all_true}
use Rattle.error.specs.Cases.{passes, violates}
use Rattle.error.specs.Reason as reason
use Rattle.catalog.specs.Times.{validate_timestamp_range}
use Rattle.catalog.specs.Inode.{validate_inode}
use Rattle.catalog.specs.Extent.{validate_extent}
use Rattle.record.specs.Cleanup.{validate_cleanup_key_value}

-- the key of an extent of owner 1 at logical block 0
abbrev pub extent_key : List ℕ
extent_key = replicate 7 0 ++ (1 ∷ 3 ∷ replicate 8 0)

-- the value of an extent at block 512, of so many blocks (below 256)
abbrev pub extent_at512 : ℕ → List ℕ
extent_at512 count = 0 ∷ 2 ∷ (replicate 6 0 ++ (count ∷ replicate 7 0))

-- the key of an orphan marker, of an object below 256; its value is empty
abbrev pub orphan_key : ℕ → List ℕ
orphan_key object = 3 ∷ (replicate 7 0 ++ (object ∷ []))

-- the value of a directory's inode, its parent 1: its first time as given, the others of 1970
abbrev pub inode_of_time : List ℕ → List ℕ
inode_of_time time = 2 ∷ (replicate 7 0 ++ (1 ∷ (replicate 31 0 ++ (time ++ replicate 72 0))))

-- such an inode, its first time stored as these eight bytes of seconds and four of nanoseconds
abbrev pub stored : List ℕ → List ℕ → Validation → Check
stored seconds nanos = validate_inode (inode_of_time (seconds ++ nanos ++ replicate 4 0)) 1025

-- four zero bytes: no nanoseconds
abbrev pub no_nanos : List ℕ
no_nanos = replicate 4 0

-- section 5: extents, times and orphan markers at their edges
unfoldable pub cases : List Bool
cases =
    -- B = 1,025: extent at 512 of count 1 passes, count 2 doesn't
    passes (validate_extent extent_key (extent_at512 1) 1025)
    ∷ violates reason.invalid_extent_range (validate_extent extent_key (extent_at512 2) 1025)
    -- seconds -11644473600 pass, one less fails
    ∷ passes (validate_timestamp_range (neg_ℤ (pos 11644473600)) 0)
    ∷ violates reason.timestamp_seconds_out_of_range (validate_timestamp_range (neg_ℤ (pos 11644473601)) 0)
    -- the same two as they are stored
    ∷ passes (stored (0x00 ∷ 0x6F ∷ 0xEF ∷ 0x49 ∷ 0xFD ∷ 0xFF ∷ 0xFF ∷ 0xFF ∷ []) no_nanos)
    ∷ violates reason.timestamp_seconds_out_of_range (stored (0xFF ∷ 0x6E ∷ 0xEF ∷ 0x49 ∷ 0xFD ∷ 0xFF ∷ 0xFF ∷ 0xFF ∷ []) no_nanos)
    -- the last second of 1969, stored: all ones
    ∷ passes (stored (replicate 8 0xFF) no_nanos)
    -- 253402300799 passes, one more fails
    ∷ passes (validate_timestamp_range (pos 253402300799) 0)
    ∷ violates reason.timestamp_seconds_out_of_range (validate_timestamp_range (pos 253402300800) 0)
    ∷ passes (stored (0x7F ∷ 0x41 ∷ 0xF4 ∷ 0xFF ∷ 0x3A ∷ 0 ∷ 0 ∷ 0 ∷ []) no_nanos)
    ∷ violates reason.timestamp_seconds_out_of_range (stored (0x80 ∷ 0x41 ∷ 0xF4 ∷ 0xFF ∷ 0x3A ∷ 0 ∷ 0 ∷ 0 ∷ []) no_nanos)
    -- nanoseconds 999999999 pass, 1000000000 fail
    ∷ passes (validate_timestamp_range (pos 0) 999999999)
    ∷ violates reason.timestamp_nanoseconds_out_of_range (validate_timestamp_range (pos 0) 1000000000)
    ∷ passes (stored (replicate 8 0) (0xFF ∷ 0xC9 ∷ 0x9A ∷ 0x3B ∷ []))
    ∷ violates reason.timestamp_nanoseconds_out_of_range (stored (replicate 8 0) (0x00 ∷ 0xCA ∷ 0x9A ∷ 0x3B ∷ []))
    -- orphan marker: object 0 fails, object 1 passes
    ∷ violates reason.invalid_object_id (validate_cleanup_key_value (orphan_key 0) [] 1025 1)
    ∷ passes (validate_cleanup_key_value (orphan_key 1) [] 1025 1)
    ∷ []

-- each of them is true
abbrev pub CasesHold : Type 0
CasesHold = all_true cases ≡ true
