-- A checksum group (01, section 6; READING-RULES 10) is accepted exactly when each of these holds; no order of tests and no mode is in it.
use Rattle.std.specs.Prelude.{ℕ, ◌+◌, ◌*◌, ◌^◌, ◌≤◌, ◌<◌, ◌≡◌, ◌↔◌, true, false, List, length, Ok}
use Rattle.error.specs.declared.Validation.{Validation}
use Rattle.octets.specs.Bytes.{bit_set}
use Rattle.octets.specs.Number.{u32_at, big_at}
use Rattle.group.specs.Group.{validate_checksum_group}

-- section 6, READING-RULES 10: what holds of an accepted group; asked by itself it takes longer keys than a page has (01, section 5)
pub record GroupHolds (key value : List ℕ) : Type 0 where
  -- the key holds an index: a file of 2^63 - 1 bytes ends in group 2^39 - 1, a group being 256 units of 65,536 bytes
  pub key_long : 17 ≤ length key
  pub index : big_at key 9 < 2 ^ 39
  -- it ends at its last present slot: 32 bytes of bitmap, and the words of the slots through that one
  pub last : ℕ
  pub last_most : last ≤ 255
  pub last_present : bit_set value last ≡ true
  pub none_behind : (s : ℕ) → last < s → s < 256 → bit_set value s ≡ false
  pub size : length value ≡ 36 + 4 * last
  -- each hole before it holds zero
  pub holes : (s : ℕ) → s < last → bit_set value s ≡ false → u32_at value (32 + 4 * s) ≡ 0

-- demand 2 for groups, whatever the mode
abbrev pub GroupExactly : Type 0
GroupExactly = (key value : List ℕ) (mode : Validation) → (validate_checksum_group key value mode ≡ Ok tt) ↔ GroupHolds key value
