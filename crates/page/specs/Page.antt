-- A page (01, section 4): the header, then the records, the leaf's total, the padding, and two children in an internal page.
use Rattle.std.specs.Prelude.{ℕ, ◌+◌, ◌-◌, Bool, not, ◌||◌, List, [], ◌∷◌, leb, eqb, drop, replicate, Option, Result, Ok, Err}
use Rattle.error.specs.declared.Error.{Error}
use Rattle.error.specs.declared.Error.TheVariants.{Corrupt}
use Rattle.error.specs.declared.Validation.TheVariants.{Disk}
use Rattle.error.specs.Answer.{Check, Number, number_of, class_of, reason_of}
use Rattle.error.specs.Demand.{Demand, ◌otherwise◌, passing, outcome, demands}
use Rattle.error.specs.Reason as reason
use Rattle.octets.specs.Bytes.{all_zero}
use Rattle.volume.specs.declared.TreeRef.{TreeRef}
use Rattle.volume.specs.declared.TreeKind.{TreeKind}
use Rattle.walk.specs.declared.RecordValidation.{RecordValidation}
use Rattle.walk.specs.Records.{validate_records}
use Rattle.page.specs.declared.Page.{Page}
use Rattle.page.specs.Header.{page_kind, level, generation, count, payload_length, total, validate_page_header}

-- what the walk over the page's records goes by
abbrev pub context : TreeKind → ℕ → List ℕ → RecordValidation
context kind blocks page = record {
  kind = kind;
  page_kind = page_kind page;
  page_generation = generation page;
  blocks = blocks;
  mode = Disk;
}

-- `validate_records`, lent the block from byte 80 on (DECISIONS 15): the walk; it answers a leaf's total, 0 for an internal page
unfoldable pub validate_page_records : TreeKind → ℕ → List ℕ → Number
validate_page_records kind blocks page = validate_records (drop 80 page) (payload_length page) (count page) (context kind blocks page)

-- section 4: a leaf's total is what the walk found
unfoldable pub total_fits : List ℕ → ℕ → Bool
total_fits page found = not (eqb (page_kind page) 1) || eqb (total page) found

-- section 4: behind the payload stand zeros
unfoldable pub padding_zero : List ℕ → Bool
padding_zero page = all_zero (drop (80 + payload_length page) page)

-- section 4: an internal page has two children at least
unfoldable pub enough_children : List ℕ → Bool
enough_children page = not (eqb (page_kind page) 2) || leb 2 (count page)

-- section 4: last, records, leaf total, zero padding, two children in an internal page
abbrev pub content_demands : TreeKind → ℕ → List ℕ → List Demand
content_demands kind blocks page =
    passing (validate_page_records kind blocks page)
    ∷ total_fits page (number_of (validate_page_records kind blocks page)) otherwise Corrupt reason.leaf_data_block_total
    ∷ padding_zero page otherwise Corrupt reason.page_padding
    ∷ enough_children page otherwise Corrupt reason.internal_page_has_too_few_children
    ∷ []

-- 01, "Return classes": the first that fails answers
unfoldable pub check_content : TreeKind → ℕ → List ℕ → Check
check_content kind blocks page = demands (content_demands kind blocks page)

-- READING-RULES 7.2: every check of `decode_page`, in its order
abbrev pub page_demands : TreeRef → List ℕ → TreeKind → ℕ → Option ℕ → ℕ → List ℕ → List Demand
page_demands reference uuid kind parent_generation expected_level blocks page =
    passing (validate_page_header reference uuid kind parent_generation expected_level blocks page)
    ∷ passing (check_content kind blocks page)
    ∷ []

-- 01, "Return classes": the first that fails answers
unfoldable pub check_page : TreeRef → List ℕ → TreeKind → ℕ → Option ℕ → ℕ → List ℕ → Check
check_page reference uuid kind parent_generation expected_level blocks page = demands (page_demands reference uuid kind parent_generation expected_level blocks page)

-- ---- the answer in numbers

-- the level and the count that the page states, its payload from byte 80 on, and a total
abbrev pub stated_page : List ℕ → ℕ → Page
stated_page page data_blocks = record {
  level = level page;
  data_blocks = data_blocks;
  count = count page;
  start = 80;
  end = 80 + payload_length page;
}

-- the same with the total that it states
abbrev pub accepted_page : List ℕ → Page
accepted_page page = stated_page page (total page)

-- section 4: `decode_page`, in numbers: the refusal of the first check that fails, or what the page states
unfoldable pub decode_page : TreeRef → List ℕ → TreeKind → ℕ → Option ℕ → ℕ → List ℕ → Result Page Error
decode_page reference uuid kind parent_generation expected_level blocks page =
    outcome (page_demands reference uuid kind parent_generation expected_level blocks page) (Ok (accepted_page page))

-- 01, "Return classes" and section 4: class, reason, level, total, count, where the payload starts, its length
unfoldable pub page_words : Result Page Error → List ℕ
page_words (Ok p) = 0 ∷ 0 ∷ p.level ∷ p.data_blocks ∷ p.count ∷ p.start ∷ (p.end - p.start) ∷ []
page_words (Err e) = class_of e ∷ reason_of e ∷ replicate 5 0
