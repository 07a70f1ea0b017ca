-- What the catalog's checks accept (01, section 5; READING-RULES 9), as plain conditions on fields: no order of tests and no mode is in them.
use Rattle.std.specs.Prelude.{ℕ, ◌+◌, ◌-◌, ◌^◌, ◌≤◌, ◌<◌, ◌≡◌, ◌↔◌, ◌⊎◌, ℤ, pos, neg_ℤ, ◌≤ℤ◌, List, length, drop, replicate, Ok}
use mathlib.Core.List.{Memᴰ as Among}
use Rattle.error.specs.declared.Validation.{Validation}
use Rattle.octets.specs.Bytes.{byte_at, part}
use Rattle.octets.specs.Number.{u16_at, u32_at, u64_at, big_at}
use Rattle.utf8.specs.Rfc3629.{Utf8}
use Rattle.volume.specs.Accept.{NonReservedRun}
use Rattle.catalog.specs.Keys.{validate_owner_id, validate_catalog_key}
use Rattle.catalog.specs.Times.{validate_timestamp_range, validate_timestamp}
use Rattle.catalog.specs.Inode.{validate_symlink_target, validate_inode}
use Rattle.catalog.specs.Entry.{validate_directory_entry}
use Rattle.catalog.specs.Extent.{validate_extent}

-- section 5: owner numbers run 1..2^63 - 2
pub record OwnerHolds (owner : ℕ) : Type 0 where
  pub least : 1 ≤ owner
  pub most : owner ≤ 2 ^ 63 - 2

-- ---- keys

-- READING-RULES 9.1: what byte 8 of a key says of the rest: an inode's, a directory entry's, an extent's or a checksum group's
pub data KeyForm : List ℕ → Type 0 where
  inode : {key : List ℕ} → byte_at key 8 ≡ 1 → length key ≡ 9 → KeyForm key
  entry : {key : List ℕ} → byte_at key 8 ≡ 2 → 10 ≤ length key → length key ≤ 774 → Utf8 (drop 9 key) → KeyForm key
  extent : {key : List ℕ} → byte_at key 8 ≡ 3 → length key ≡ 17 → KeyForm key
  group : {key : List ℕ} → byte_at key 8 ≡ 4 → length key ≡ 17 → KeyForm key

-- READING-RULES 9.1: an owner, big-endian, in its first eight bytes, and one of these forms
pub record KeyHolds (key : List ℕ) : Type 0 where
  pub owner : OwnerHolds (big_at key 0)
  pub form : KeyForm key

-- ---- times

-- section 5: seconds -11644473600 to 253402300799, and at most 999999999 nanoseconds
pub record TimeHolds (seconds : ℤ) (nanos : ℕ) : Type 0 where
  pub from : neg_ℤ (pos 11644473600) ≤ℤ seconds
  pub until : seconds ≤ℤ pos 253402300799
  pub nanos_most : nanos ≤ 999999999

-- READING-RULES 2 and 9.2: a stored time: its seconds are a word, less 2^64 if that is 2^63 or more: at most 253402300799, or at least the word of -11644473600; nanoseconds; four bytes of zero
pub record StoredTimeHolds (value : List ℕ) (offset : ℕ) : Type 0 where
  -- (the last bound holds of all bytes: a word of eight is below 2^64)
  pub seconds : (u64_at value offset ≤ 253402300799) ⊎ (2 ^ 64 ≤ u64_at value offset + 11644473600) × (u64_at value offset ≤ 2 ^ 64 + 253402300799)
  pub nanos_most : u32_at value (offset + 8) ≤ 999999999
  pub zero_12 : u32_at value (offset + 12) ≡ 0

-- ---- inodes

-- READING-RULES 9.2: a symlink's target: 1 to 1,023 bytes of UTF-8, none of them 0
pub record TargetHolds (target : List ℕ) : Type 0 where
  pub length_least : 1 ≤ length target
  pub length_most : length target ≤ 1023
  pub no_nul : Among 0 target → ⊥
  pub text : Utf8 target

-- READING-RULES 9.2: a file (type 1) has 128 bytes, no flag but an orphan's (1), and no children
pub record FileHolds (value : List ℕ) : Type 0 where
  pub type : byte_at value 0 ≡ 1
  pub value_size : length value ≡ 128
  pub flags : byte_at value 1 ≤ 1
  pub children_zero : u64_at value 32 ≡ 0

-- READING-RULES 9.2: a directory (2) has 128 bytes, no flag but an orphan's, size 0 and no blocks
pub record DirectoryHolds (value : List ℕ) : Type 0 where
  pub type : byte_at value 0 ≡ 2
  pub value_size : length value ≡ 128
  pub flags : byte_at value 1 ≤ 1
  pub size_zero : u64_at value 16 ≡ 0
  pub blocks_zero : u64_at value 24 ≡ 0

-- READING-RULES 9.2: a symlink (3) goes on with its target behind 128 bytes, whose size it states; its flags are 0 to 3, 6 or 7; it has no blocks and no children
pub record SymlinkHolds (value : List ℕ) : Type 0 where
  pub type : byte_at value 0 ≡ 3
  pub value_size : u64_at value 16 + 128 ≡ length value
  pub flags : (byte_at value 1 ≤ 3) ⊎ (6 ≤ byte_at value 1) × (byte_at value 1 ≤ 7)
  pub blocks_zero : u64_at value 24 ≡ 0
  pub children_zero : u64_at value 32 ≡ 0
  pub target : TargetHolds (drop 128 value)

-- READING-RULES 9.2: what holds of every inode, and of its type
pub record InodeHolds (value : List ℕ) (blocks : ℕ) : Type 0 where
  pub of_type : FileHolds value ⊎ (DirectoryHolds value ⊎ SymlinkHolds value)
  pub zeros_2 : part value 2 6 ≡ replicate 6 0
  pub parent : OwnerHolds (u64_at value 8)
  pub size_most : u64_at value 16 ≤ 2 ^ 63 - 1
  pub blocks_most : u64_at value 24 ≤ blocks
  pub children_most : u64_at value 32 ≤ 2 ^ 63 - 1
  pub time_40 : StoredTimeHolds value 40
  pub time_56 : StoredTimeHolds value 56
  pub time_72 : StoredTimeHolds value 72
  pub zeros_88 : part value 88 40 ≡ replicate 40 0

-- ---- directory entries and extents

-- READING-RULES 9.3: a directory entry: the object that it names, its type, a zero, and a name of 1 to 255 bytes of UTF-8 that ends it
pub record EntryHolds (value : List ℕ) : Type 0 where
  pub object : OwnerHolds (u64_at value 0)
  pub type_least : 1 ≤ byte_at value 8
  pub type_most : byte_at value 8 ≤ 3
  pub zero_9 : byte_at value 9 ≡ 0
  pub name_some : 1 ≤ u16_at value 10
  pub name_most : u16_at value 10 ≤ 255
  pub value_size : length value ≡ 12 + u16_at value 10
  pub name : Utf8 (drop 12 value)

-- READING-RULES 9.4: an extent: a run of non-reserved blocks, whose logical end, from the key's block on, is at most 2^51 (01, section 5); a zero. Asked by itself it takes longer keys than a page has (01, section 5)
pub record ExtentHolds (key value : List ℕ) (blocks : ℕ) : Type 0 where
  pub key_long : 17 ≤ length key
  pub value_size : length value ≡ 16
  pub run : NonReservedRun (u64_at value 0) (u32_at value 8) blocks
  -- (where B fits 64 bits, this follows)
  pub fits : u64_at value 0 + u32_at value 8 < 2 ^ 64
  pub logical : big_at key 9 + u32_at value 8 ≤ 2 ^ 51
  pub zero_12 : u32_at value 12 ≡ 0

-- section 5, READING-RULES 9: each check accepts exactly when that holds, whatever the mode; a key's check then gives byte 8, an extent's its count of blocks
pub record CatalogExactly : Type 0 where
  pub owner : (owner : ℕ) (mode : Validation) → (validate_owner_id owner mode ≡ Ok tt) ↔ OwnerHolds owner
  pub catalog_key : (key : List ℕ) (mode : Validation) (kind : ℕ) → (validate_catalog_key key mode ≡ Ok kind) ↔ (KeyHolds key × (kind ≡ byte_at key 8))
  pub timestamp_range : (seconds : ℤ) (nanos : ℕ) (mode : Validation) → (validate_timestamp_range seconds nanos mode ≡ Ok tt) ↔ TimeHolds seconds nanos
  pub timestamp : (value : List ℕ) (offset : ℕ) (mode : Validation) → (validate_timestamp value offset mode ≡ Ok tt) ↔ StoredTimeHolds value offset
  pub symlink_target : (target : List ℕ) (mode : Validation) → (validate_symlink_target target mode ≡ Ok tt) ↔ TargetHolds target
  pub inode : (value : List ℕ) (blocks : ℕ) (mode : Validation) → (validate_inode value blocks mode ≡ Ok tt) ↔ InodeHolds value blocks
  pub directory_entry : (value : List ℕ) (mode : Validation) → (validate_directory_entry value mode ≡ Ok tt) ↔ EntryHolds value
  pub extent : (key value : List ℕ) (blocks : ℕ) (mode : Validation) (count : ℕ) → (validate_extent key value blocks mode ≡ Ok count) ↔ (ExtentHolds key value blocks × (count ≡ u32_at value 8))
