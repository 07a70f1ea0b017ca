-- A part whose records are whole and whose keys strictly increase (01, section 5), and the answer that a floor lookup then owes.
use Rattle.std.specs.Prelude.{◌≡◌, Bool, true, false, List, ℕ, zero, suc, ◌<◌, ◌≤◌, length, drop, Option, Some, None}
use Rattle.octets.specs.Order.{order, is_greater}
use Rattle.std.specs.declared.cmp.Ordering.TheVariants.{Less}
use Rattle.lookup.specs.Record.{split_record, is_record, key_of}
use Rattle.lookup.specs.Floor.{next_offset, floor_at}
use Rattle.lookup.specs.declared.Floor.{Floor}

-- where record k starts
unfoldable pub offset_of : List ℕ → ℕ → ℕ
offset_of part zero = 0
offset_of part (suc k) = next_offset part (offset_of part k)

-- its key
abbrev pub key_at : List ℕ → ℕ → List ℕ
key_at part k = key_of (drop (offset_of part k) part)

-- section 5: each record is whole, and keys strictly increase
pub record Sorted (part : List ℕ) (count : ℕ) : Type 0 where
  pub whole : (k : ℕ) → k < count → is_record (split_record (drop (offset_of part k) part)) ≡ true
  pub increasing : (i j : ℕ) → i < j → j < count → order (key_at part i) (key_at part j) ≡ Less

-- the key of record k is above a sought one
abbrev pub key_above : List ℕ → List ℕ → ℕ → Bool
key_above part key k = is_greater (order (key_at part k) key)

-- the record found is the last whose key is not above the sought one; or there is none, and every key is above it
abbrev pub IsFloor : List ℕ → ℕ → List ℕ → Option Floor → Type 0
IsFloor part count key (Some f) = (f.index < count) × (f.offset ≡ offset_of part f.index) × (key_above part key f.index ≡ false) × ((j : ℕ) → f.index < j → j < count → key_above part key j ≡ true)
IsFloor part count key None = (j : ℕ) → j < count → key_above part key j ≡ true

-- on such a part, of at most 65,535 bytes, every lookup answers so
abbrev pub FloorIsTheLast : Type 0
FloorIsTheLast = (part key : List ℕ) (count : ℕ) → Sorted part count → (entries : ℕ) → length part ≤ 65535 → IsFloor part count key (floor_at part count key entries)

-- so walking and halving find the same record, whatever the scratch holds and however long it is
abbrev pub WalkingIsHalving : Type 0
WalkingIsHalving = (part key : List ℕ) (count : ℕ) → Sorted part count → (entries entries' : ℕ) → floor_at part count key entries ≡ floor_at part count key entries'
