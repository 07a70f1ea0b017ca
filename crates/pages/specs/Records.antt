-- The records of a page, plainly (01, section 5): entries laid end to end in its payload, each with the fields that its tree asks for.
use Rattle.std.specs.Prelude.{ℕ, ◌+◌, ◌^◌, ◌≤◌, ◌<◌, ◌≡◌, ◌↔◌, List, length, take, Ok}
use mathlib.Core.List.{map, sum, Nodup, Memᴰ as Among}
use Rattle.error.specs.declared.Validation.{Validation}
use Rattle.octets.specs.Bytes.{Bytes}
use Rattle.octets.specs.Number.{u64_at}
use Rattle.volume.specs.declared.TreeKind.{TreeKind}
use Rattle.records.specs.Record.{LeafHolds, InternalHolds, blocks_counted}
use Rattle.walk.specs.declared.RecordValidation.{RecordValidation}
use Rattle.walk.specs.Entries.{Entry, Read}
use Rattle.walk.specs.Records.{validate_records}

-- section 5: a leaf's payload: so many entries, each a leaf record of its tree, whose extents' counts add up to the total
pub record LeafRecords (kind : TreeKind) (blocks page_generation : ℕ) (payload : List ℕ) (count total : ℕ) : Type 0 where
  pub read : Read payload count
  pub hold : (e : Entry) → Among e read.entries → LeafHolds kind e.key e.value blocks page_generation
  pub total_is : total ≡ sum ◌+◌ 0 (map (λ (e : Entry). blocks_counted kind e.key e.value) read.entries)

-- section 5: an internal page's: so many entries, each an internal record of its tree, and no two children in one block
pub record InternalRecords (kind : TreeKind) (blocks page_generation : ℕ) (payload : List ℕ) (count : ℕ) : Type 0 where
  pub read : Read payload count
  pub hold : (e : Entry) → Among e read.entries → InternalHolds kind e.key e.value blocks page_generation
  pub distinct : Nodup (map (λ (e : Entry). u64_at e.value 0) read.entries)

-- `validate_records`, READING-RULES 8.2: `rest` is the block from byte 80 on; page kind 1 goes by a leaf's rules and answers its total, within 64 bits; every other kind goes by the internal ones and answers 0
pub record RecordsHold (c : RecordValidation) (rest : List ℕ) (payload_length count total : ℕ) : Type 0 where
  pub inside : payload_length ≤ length rest
  pub leaf : c.page_kind ≡ 1 → LeafRecords c.kind c.blocks c.page_generation (take payload_length rest) count total × (total < 2 ^ 64)
  pub internal : (c.page_kind ≡ 1 → ⊥) → InternalRecords c.kind c.blocks c.page_generation (take payload_length rest) count × (total ≡ 0)

-- the walk accepts a payload exactly when that holds, and gives the total; the mode plays no part
abbrev pub RecordsWalked : Type 0
RecordsWalked =
    (rest : List ℕ) (payload_length count : ℕ) (c : RecordValidation) (total : ℕ)
    → Bytes rest → (validate_records rest payload_length count c ≡ Ok total) ↔ RecordsHold c rest payload_length count total

-- 01, "Return classes": a context with another mode
abbrev pub in_mode : Validation → RecordValidation → RecordValidation
in_mode mode c = record {
  kind = c.kind;
  page_kind = c.page_kind;
  page_generation = c.page_generation;
  blocks = c.blocks;
  mode = mode;
}

-- so the mode has no say in what the walk accepts (01, "Return classes": it chooses the class of a refusal)
abbrev pub WalkModeFree : Type 0
WalkModeFree =
    (rest : List ℕ) (payload_length count : ℕ) (c : RecordValidation) (mode : Validation) (total : ℕ)
    → Bytes rest → (validate_records rest payload_length count c ≡ Ok total) ↔ (validate_records rest payload_length count (in_mode mode c) ≡ Ok total)
