-- A root in a block of 4,096 bytes (01, section 3): where its fields stand, and the checks in their order.
use Rattle.std.specs.Prelude.{ℕ, ◌+◌, ◌-◌, Bool, not, ◌&&◌, cond, List, [], ◌∷◌, leb, eqb, length}
use Rattle.error.specs.declared.Error.{Error}
use Rattle.error.specs.declared.Error.TheVariants.{InvalidGeometry, Corrupt, UnsupportedFormat}
use Rattle.error.specs.declared.Validation.TheVariants.{Input, Disk}
use Rattle.error.specs.Answer.{Check}
use Rattle.std.specs.Prelude.{Option, Some, None, Result, Ok}
use Rattle.error.specs.Demand.{Demand, ◌otherwise◌, passing, outcome, demands}
use Rattle.error.specs.Reason as reason
use Rattle.octets.specs.Bytes.{part, all_zero, starts_with}
use Rattle.octets.specs.Number.{u16_at, u32_at, u64_at}
use Rattle.crc.specs.Crc.{crc32c_with_zero}
use Rattle.utf8.specs.Inside.{utf8}
use Rattle.volume.specs.References.{ref_at, validate_root_slot}
use Rattle.root.specs.Label.{is_label, label_of}
use Rattle.root.specs.Fields.{validate_root_fields}
use Rattle.root.specs.declared.Label.{Label}
use Rattle.root.specs.declared.Root.{Root}

-- section 3: `CFSXROOT`
abbrev pub magic : List ℕ
magic = 0x43 ∷ 0x46 ∷ 0x53 ∷ 0x58 ∷ 0x52 ∷ 0x4F ∷ 0x4F ∷ 0x54 ∷ []

-- section 3: u16 at 184, the label's length
abbrev pub label_length : List ℕ → ℕ
label_length s = u16_at s 184

-- section 3: a label of length 0 is none
abbrev pub has_label : List ℕ → Bool
has_label s = not (eqb (label_length s) 0)

-- `Root::decode`, READING-RULES 6.1: its text, from byte 186 on
unfoldable pub label_text : List ℕ → List ℕ
label_text s = part s 186 (label_length s)

-- section 3: the label of the root in a block
abbrev pub label_in : List ℕ → Option Label
label_in s = cond (has_label s) (Some (label_of (label_text s))) None

-- section 3: the bytes behind it, to the checksum
unfoldable pub label_padding : List ℕ → List ℕ
label_padding s = part s (186 + label_length s) (4092 - (186 + label_length s))

-- section 3: the fields of the root in a block
unfoldable pub root_of : List ℕ → Root
root_of s = record {
  label = label_in s;
  uuid = part s 24 16;
  generation = u64_at s 48;
  blocks = u64_at s 56;
  catalog = ref_at s 64;
  allocation = ref_at s 80;
  cleanup = ref_at s 96;
  next_object = u64_at s 112;
  free_blocks = u64_at s 120;
  next_job = u64_at s 152;
  workspace = ref_at s 160;
  workspace_cursor = u64_at s 176;
}

-- section 3: length, geometry (class 1), slot (2)
abbrev pub place_demands : List ℕ → ℕ → ℕ → List Demand
place_demands s slot blocks =
    eqb (length s) 4096 otherwise Corrupt reason.root_page_length
    ∷ leb 1024 blocks otherwise InvalidGeometry
    ∷ passing (validate_root_slot slot blocks Input)
    ∷ []

-- 01, "Return classes": the first that fails answers
unfoldable pub check_place : List ℕ → ℕ → ℕ → Check
check_place s slot blocks = demands (place_demands s slot blocks)

-- section 3: checksum u32 at 4092, taken with its own four bytes as zero (section 1)
unfoldable pub checksum_fits : List ℕ → Bool
checksum_fits s = eqb (crc32c_with_zero s 4092 4096) (u32_at s 4092)

-- section 3: at 12, 16, 20: 4096, 4096, 65536
unfoldable pub are_sizes_right : List ℕ → Bool
are_sizes_right s = eqb (u32_at s 12) 4096 && eqb (u32_at s 16) 4096 && eqb (u32_at s 20) 65536

-- section 3: checksum at 4092, magic, revision u32 at 8 = 1 (4), the three sizes
abbrev pub envelope_demands : List ℕ → List Demand
envelope_demands s =
    checksum_fits s otherwise Corrupt reason.root_checksum
    ∷ starts_with s magic otherwise Corrupt reason.root_magic
    ∷ eqb (u32_at s 8) 1 otherwise UnsupportedFormat
    ∷ are_sizes_right s otherwise Corrupt reason.root_envelope
    ∷ []

-- 01, "Return classes": the first that fails answers
unfoldable pub check_envelope : List ℕ → Check
check_envelope s = demands (envelope_demands s)

-- `Root::decode`, READING-RULES 6.2: a label's text is UTF-8, and a label
abbrev pub text_demands : List ℕ → List Demand
text_demands text =
    utf8 text otherwise Corrupt reason.root_label_utf8
    ∷ is_label text otherwise Corrupt reason.invalid_root_label
    ∷ []

-- 01, "Return classes": the first that fails answers
unfoldable pub check_text : List ℕ → Check
check_text text = demands (text_demands text)

-- section 3: label length at most 255; zeros after the label to 4092; label checked, and length 0 is no label
abbrev pub label_field_demands : List ℕ → List Demand
label_field_demands s =
    leb (label_length s) 255 otherwise Corrupt reason.root_label_length
    ∷ all_zero (label_padding s) otherwise Corrupt reason.root_label_padding
    ∷ passing (cond (eqb (label_length s) 0) (Ok tt) (check_text (label_text s)))
    ∷ []

-- 01, "Return classes": the first that fails answers
unfoldable pub check_label : List ℕ → Check
check_label s = demands (label_field_demands s)

-- section 3: features 128 = 0, profile 136 = 2, state 140 = 0 (these three class 4), self block and blocks against the arguments, the reserve
abbrev pub identity_demands : List ℕ → ℕ → ℕ → List Demand
identity_demands s slot blocks =
    (eqb (u64_at s 128) 0 && eqb (u32_at s 136) 2 && eqb (u32_at s 140) 0) otherwise UnsupportedFormat
    ∷ (eqb (u64_at s 40) slot && eqb (u64_at s 56) blocks) otherwise Corrupt reason.root_identity_or_geometry
    ∷ eqb (u64_at s 144) 16384 otherwise Corrupt reason.root_maintenance_reserve
    ∷ []

-- 01, "Return classes": the first that fails answers
unfoldable pub check_identity : List ℕ → ℕ → ℕ → Check
check_identity s slot blocks = demands (identity_demands s slot blocks)

-- section 3: all that comes before `validate_root_fields`, group by group, in order
abbrev pub block_demands : List ℕ → ℕ → ℕ → List Demand
block_demands s slot blocks =
    passing (check_place s slot blocks)
    ∷ passing (check_envelope s)
    ∷ passing (check_label s)
    ∷ passing (check_identity s slot blocks)
    ∷ []

-- 01, "Return classes": the first that fails answers
unfoldable pub check_block : List ℕ → ℕ → ℕ → Check
check_block s slot blocks = demands (block_demands s slot blocks)

-- section 3: what `Root::decode` asks, in order
abbrev pub root_demands : List ℕ → ℕ → ℕ → List Demand
root_demands s slot blocks =
    passing (check_block s slot blocks)
    ∷ passing (validate_root_fields (root_of s) slot blocks Disk)
    ∷ []

-- section 3: `Root::decode`
unfoldable pub root_decode : List ℕ → ℕ → ℕ → Result Root Error
root_decode s slot blocks = outcome (root_demands s slot blocks) (Ok (root_of s))
