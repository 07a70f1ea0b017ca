-- The header of a page (01, section 4): its fields, and the checks of `validate_page_header` in their order.
use Rattle.std.specs.Prelude.{ℕ, Bool, true, not, ◌&&◌, ◌||◌, cond, List, [], ◌∷◌, leb, eqb, length, Option, Some, None}
use Rattle.error.specs.declared.Error.TheVariants.{InvalidInput, Corrupt, UnsupportedFormat}
use Rattle.error.specs.declared.Validation.TheVariants.{Input}
use Rattle.error.specs.Answer.{Check}
use Rattle.error.specs.Demand.{Demand, ◌otherwise◌, passing, demands}
use Rattle.error.specs.Reason as reason
use Rattle.octets.specs.Bytes.{byte_at, part, all_zero, same_bytes, starts_with}
use Rattle.octets.specs.Number.{u16_at, u32_at, u64_at}
use Rattle.crc.specs.Crc.{crc32c_with_zero}
use Rattle.volume.specs.declared.TreeRef.{TreeRef}
use Rattle.volume.specs.declared.TreeKind.{TreeKind}
use Rattle.volume.specs.References.{tree_kind_value, is_tree_kind_value, validate_blocks, validate_page_ref, validate_uuid}

-- ---- the fields

-- section 4: `CFSXPAGE`
abbrev pub magic : List ℕ
magic = 0x43 ∷ 0x46 ∷ 0x53 ∷ 0x58 ∷ 0x50 ∷ 0x41 ∷ 0x47 ∷ 0x45 ∷ []

-- section 4: byte 12, the page's kind, 1 leaf, 2 internal
abbrev pub page_kind : List ℕ → ℕ
page_kind page = byte_at page 12

-- section 4: byte 13, the tree's kind
abbrev pub tree_kind : List ℕ → ℕ
tree_kind page = byte_at page 13

-- section 4: byte 14, its level
abbrev pub level : List ℕ → ℕ
level page = byte_at page 14

-- section 4: u64 at 16, its own block
abbrev pub self_block : List ℕ → ℕ
self_block page = u64_at page 16

-- section 4: u64 at 24, its generation
abbrev pub generation : List ℕ → ℕ
generation page = u64_at page 24

-- section 4: u16 at 32, how many records it has
abbrev pub count : List ℕ → ℕ
count page = u16_at page 32

-- section 4: u16 at 34, how many bytes they take
abbrev pub payload_length : List ℕ → ℕ
payload_length page = u16_at page 34

-- section 4: u64 at 56, the data blocks that it counts
abbrev pub total : List ℕ → ℕ
total page = u64_at page 56

-- ---- the caller's part

-- 01, "The program readback": 255 is a level that isn't given
unfoldable pub expected_of : ℕ → Option ℕ
expected_of n = cond (eqb n 255) None (Some n)

-- 01, "The program readback": whether a level is given, the level
unfoldable pub expected_words : Option ℕ → List ℕ
expected_words (Some level) = 1 ∷ level ∷ []
expected_words None = 0 ∷ 0 ∷ []

-- `validate_page_header`, READING-RULES 7.2: a level that is expected, if any, is at most 7
unfoldable pub is_level : Option ℕ → Bool
is_level None = true
is_level (Some n) = leb n 7

-- `validate_page_header`, READING-RULES 7.2: what is asked of the caller's part, in order
abbrev pub caller_demands : TreeRef → List ℕ → TreeKind → ℕ → Option ℕ → ℕ → List ℕ → List Demand
caller_demands reference uuid kind parent_generation expected_level blocks page =
    eqb (length page) 4096 otherwise Corrupt reason.page_length
    ∷ passing (validate_blocks blocks Input)
    ∷ passing (validate_page_ref reference kind blocks Input)
    ∷ passing (validate_uuid uuid Input)
    ∷ (not (eqb parent_generation 0) && leb reference.generation parent_generation) otherwise InvalidInput reason.invalid_parent_generation
    ∷ is_level expected_level otherwise InvalidInput reason.invalid_expected_page_level
    ∷ []

-- 01, "Return classes": the first that fails answers
unfoldable pub check_caller : TreeRef → List ℕ → TreeKind → ℕ → Option ℕ → ℕ → List ℕ → Check
check_caller reference uuid kind parent_generation expected_level blocks page = demands (caller_demands reference uuid kind parent_generation expected_level blocks page)

-- ---- the stored part

-- section 4: checksum u32 at 64, taken with its own four bytes as zero (section 1)
unfoldable pub checksum_fits : List ℕ → Bool
checksum_fits page = eqb (crc32c_with_zero page 64 68) (u32_at page 64)

-- section 4: the checksum, the magic, revision u16 at 8, flags u16 at 10
abbrev pub format_demands : List ℕ → List Demand
format_demands page =
    checksum_fits page otherwise Corrupt reason.page_checksum
    ∷ starts_with page magic otherwise Corrupt reason.page_magic
    ∷ eqb (u16_at page 8) 1 otherwise UnsupportedFormat
    ∷ eqb (u16_at page 10) 0 otherwise UnsupportedFormat
    ∷ []

-- 01, "Return classes": the first that fails answers
unfoldable pub check_format : List ℕ → Check
check_format page = demands (format_demands page)

-- section 4: 1 is a leaf, 2 an internal page
unfoldable pub is_page_kind : List ℕ → Bool
is_page_kind page = eqb (page_kind page) 1 || eqb (page_kind page) 2

-- section 4: a tree's kind is 1 to 4
unfoldable pub is_tree_kind : List ℕ → Bool
is_tree_kind page = is_tree_kind_value (tree_kind page)

-- section 4: a leaf's level is 0, an internal page's 1..7
unfoldable pub level_fits : List ℕ → Bool
level_fits page =
    (not (eqb (page_kind page) 1) || eqb (level page) 0) && (not (eqb (page_kind page) 2) || (leb 1 (level page) && leb (level page) 7))

-- `validate_page_header`, READING-RULES 7.2: the level is the expected one, if one is given
unfoldable pub is_expected : Option ℕ → List ℕ → Bool
is_expected None page = true
is_expected (Some n) page = eqb n (level page)

-- section 4: zeros at 15, 36..39, 68..79
unfoldable pub reserved_zero : List ℕ → Bool
reserved_zero page = eqb (byte_at page 15) 0 && (all_zero (part page 36 4) && all_zero (part page 68 12))

-- `validate_page_header`, READING-RULES 7.2: the tree kind is the one that is asked for
unfoldable pub is_of_tree : TreeKind → List ℕ → Bool
is_of_tree kind page = eqb (tree_kind page) (tree_kind_value kind)

-- `validate_page_header`, READING-RULES 7.2: what is asked of kinds, level and reserved bytes, in order
abbrev pub kind_demands : TreeKind → Option ℕ → List ℕ → List Demand
kind_demands kind expected_level page =
    is_page_kind page otherwise Corrupt reason.page_kind
    ∷ is_tree_kind page otherwise Corrupt reason.page_tree_kind
    ∷ is_of_tree kind page otherwise Corrupt reason.page_tree_kind_mismatch
    ∷ level_fits page otherwise Corrupt reason.page_level
    ∷ is_expected expected_level page otherwise Corrupt reason.unexpected_page_level
    ∷ reserved_zero page otherwise Corrupt reason.page_reserved_bytes
    ∷ []

-- 01, "Return classes": the first that fails answers
unfoldable pub check_kind : TreeKind → Option ℕ → List ℕ → Check
check_kind kind expected_level page = demands (kind_demands kind expected_level page)

-- `validate_page_header`, READING-RULES 7.2: the page is the one that the reference names, and not newer than its parent
unfoldable pub is_referred : TreeRef → ℕ → List ℕ → Bool
is_referred reference parent_generation page =
    eqb (self_block page) reference.block && (eqb (generation page) reference.generation && leb (generation page) parent_generation)

-- section 4: UUID at 40, the one that is asked for
unfoldable pub has_uuid : List ℕ → List ℕ → Bool
has_uuid uuid page = same_bytes (part page 40 16) uuid

-- `validate_page_header`, READING-RULES 7.2: outside the catalog the total is 0
unfoldable pub total_allowed : TreeKind → List ℕ → Bool
total_allowed TreeKind.Catalog page = true
total_allowed TreeKind.Allocation page = eqb (total page) 0
total_allowed TreeKind.Cleanup page = eqb (total page) 0
total_allowed TreeKind.Workspace page = eqb (total page) 0

-- `validate_page_header`, READING-RULES 7.2: what is asked of the page's identity and numbers, in order
abbrev pub identity_demands : TreeRef → List ℕ → TreeKind → ℕ → ℕ → List ℕ → List Demand
identity_demands reference uuid kind parent_generation blocks page =
    is_referred reference parent_generation page otherwise Corrupt reason.page_identity_or_generation
    ∷ has_uuid uuid page otherwise Corrupt reason.page_uuid
    ∷ leb (payload_length page) 4016 otherwise Corrupt reason.page_payload_length
    ∷ leb (total page) blocks otherwise Corrupt reason.page_data_block_total
    ∷ total_allowed kind page otherwise Corrupt reason.non_catalog_data_block_total
    ∷ []

-- 01, "Return classes": the first that fails answers
unfoldable pub check_identity : TreeRef → List ℕ → TreeKind → ℕ → ℕ → List ℕ → Check
check_identity reference uuid kind parent_generation blocks page = demands (identity_demands reference uuid kind parent_generation blocks page)

-- ---- the header

-- `validate_page_header`, READING-RULES 7.2: all checks of the header, group by group, in order
abbrev pub header_demands : TreeRef → List ℕ → TreeKind → ℕ → Option ℕ → ℕ → List ℕ → List Demand
header_demands reference uuid kind parent_generation expected_level blocks page =
    passing (check_caller reference uuid kind parent_generation expected_level blocks page)
    ∷ passing (check_format page)
    ∷ passing (check_kind kind expected_level page)
    ∷ passing (check_identity reference uuid kind parent_generation blocks page)
    ∷ []

-- 01, "Return classes": the first that fails answers
unfoldable pub validate_page_header : TreeRef → List ℕ → TreeKind → ℕ → Option ℕ → ℕ → List ℕ → Check
validate_page_header reference uuid kind parent_generation expected_level blocks page = demands (header_demands reference uuid kind parent_generation expected_level blocks page)
