-- The walk over a page's records (01, section 5, in the order of `validate_records`). It goes record by record: `rest` is the block from the next record to the block's end, of which
-- the first `left` bytes belong to the payload. A record's two lengths are read even where they lie behind the payload's end.
use Rattle.std.specs.Prelude.{Ok}
use Rattle.std.specs.Prelude.{ℕ, zero, suc, ◌+◌, ◌-◌, ◌/◌, Bool, false, not, ◌&&◌, ◌||◌, cond, List, [], ◌∷◌, ◌++◌, leb, eqb, length, drop}
use Rattle.error.specs.declared.Error.TheVariants.{Corrupt}
use Rattle.error.specs.declared.Validation.{Validation}
use Rattle.error.specs.Answer.{Check}
use Rattle.error.specs.Answer.{Number}
use Rattle.error.specs.Answer.{violation_of, number_of}
use Rattle.error.specs.Demand.{Demand, ◌otherwise◌, passing, outcome, demands}
use Rattle.error.specs.Reason as reason
use Rattle.octets.specs.Number.{within}
use Rattle.octets.specs.Order.{order, is_less}
use Rattle.volume.specs.Numbers.{sum_fits}
use Rattle.lookup.specs.Record.{key_len, record_len, key_of, value_of}
use Rattle.record.specs.Internal.{validate_internal_record, child_block}
use Rattle.record.specs.Leaf.{validate_leaf_record}
use Rattle.walk.specs.declared.RecordValidation.{RecordValidation}

-- ---- one record

-- READING-RULES 8.2, tests 3 to 8: its form; the two reads answer class 3 in every mode; `previous` is the key before it, empty before the first
abbrev pub form_demands : List ℕ → ℕ → List ℕ → Validation → List Demand
form_demands rest left previous mode =
    within rest 0 2 otherwise Corrupt reason.record_key_length
    ∷ within rest 2 2 otherwise Corrupt reason.record_value_length
    ∷ (leb 1 (key_len rest) && leb (key_len rest) 1024) otherwise violation_of mode reason.invalid_record_key_length
    ∷ leb (record_len rest) 3072 otherwise violation_of mode reason.record_is_too_large
    ∷ leb (record_len rest) left otherwise violation_of mode reason.record_exceeds_payload
    ∷ is_less (order previous (key_of rest)) otherwise violation_of mode reason.record_keys_are_not_increasing
    ∷ []

-- these tests as one check
unfoldable pub form_check : List ℕ → ℕ → List ℕ → Validation → Check
form_check rest left previous mode = demands (form_demands rest left previous mode)

-- READING-RULES 8.2, tests 9 and 11: its own rules, by key and value; they answer the blocks that a leaf's record counts, or the child's block
abbrev pub Own : Type 0
Own = List ℕ → List ℕ → Number

-- READING-RULES 8.2: those of a leaf's record
abbrev pub leaf_rules : RecordValidation → Own
leaf_rules c key value = validate_leaf_record c.kind key value c.blocks c.page_generation c.mode

-- READING-RULES 8.2: those of an internal page's record
abbrev pub child_rules : RecordValidation → Own
child_rules c key value = child_block (validate_internal_record c.kind key value c.blocks c.page_generation c.mode)

-- what they answer of the record at the front
abbrev pub own_answer : Own → List ℕ → Number
own_answer own rest = own (key_of rest) (value_of rest)

-- a number is one of a list
abbrev pub is_one_of : ℕ → List ℕ → Bool
is_one_of n [] = false
is_one_of n (m ∷ ms) = eqb m n || is_one_of n ms

-- READING-RULES 8.2: its number beside those of the earlier records: in a leaf the total stays within 64 bits, in an internal page no two children share a block
abbrev pub join_demands : Bool → ℕ → List ℕ → ℕ → Validation → List Demand
join_demands leaf total seen n mode =
    cond leaf
    (sum_fits total n otherwise violation_of mode reason.leaf_data_block_total_overflow ∷ [])
    (not (is_one_of n seen) otherwise violation_of mode reason.internal_children_share_a_block ∷ [])

-- this test as a check
unfoldable pub join_check : Bool → ℕ → List ℕ → ℕ → Validation → Check
join_check leaf total seen n mode = demands (join_demands leaf total seen n mode)

-- READING-RULES 8.2: all checks of a record
abbrev pub record_demands : Bool → Validation → Own → List ℕ → ℕ → List ℕ → ℕ → List ℕ → List Demand
record_demands leaf mode own rest left previous total seen =
    passing (form_check rest left previous mode)
    ∷ passing (own_answer own rest)
    ∷ passing (join_check leaf total seen (number_of (own_answer own rest)) mode)
    ∷ []

-- ---- the walk

-- READING-RULES 8.2: a leaf's total after a record with this number; an internal page's stays as it is
abbrev pub next_total : Bool → ℕ → ℕ → ℕ
next_total leaf total n = cond leaf (total + n) total

-- READING-RULES 8.2: the children's blocks so far, with this one; a leaf has none
abbrev pub next_blocks : Bool → List ℕ → ℕ → List ℕ
next_blocks leaf seen n = cond leaf seen (seen ++ (n ∷ []))

-- READING-RULES 8.2: so many records are to come; `total` is a leaf's sum so far, `seen` an internal page's children; at the end no byte is left
unfoldable pub walk : Bool → Validation → Own → ℕ → List ℕ → ℕ → List ℕ → ℕ → List ℕ → Number
walk leaf mode own zero rest left previous total seen =
    outcome (eqb left 0 otherwise violation_of mode reason.payload_has_unconsumed_bytes ∷ []) (Ok total)
walk leaf mode own (suc n) rest left previous total seen =
    outcome (record_demands leaf mode own rest left previous total seen)
    (walk leaf mode own n (drop (record_len rest) rest) (left - record_len rest) (key_of rest)
    (next_total leaf total (number_of (own_answer own rest))) (next_blocks leaf seen (number_of (own_answer own rest))))

-- READING-RULES 8.2: the count is tested against the payload's length, and that against the bytes
abbrev pub size_demands : List ℕ → ℕ → ℕ → Validation → List Demand
size_demands rest payload_length count mode =
    leb count (payload_length / 4) otherwise violation_of mode reason.record_count_exceeds_payload
    ∷ leb payload_length (length rest) otherwise violation_of mode reason.payload_range
    ∷ []

-- READING-RULES 8.2: these tests, and then the walk from the first record on
unfoldable pub records : Bool → Validation → Own → List ℕ → ℕ → ℕ → Number
records leaf mode own rest payload_length count =
    outcome (size_demands rest payload_length count mode) (walk leaf mode own count rest payload_length [] 0 [])

-- `validate_records`: page kind 1 is a leaf; any other counts as internal
abbrev pub is_leaf : RecordValidation → Bool
is_leaf c = eqb c.page_kind 1

-- READING-RULES 8.2: a record's own rules, by the kind of its page
abbrev pub own_rules : RecordValidation → Own
own_rules c = cond (is_leaf c) (leaf_rules c) (child_rules c)

-- READING-RULES 8.2: the walk over a page's records, by the rules that its context names; `rest` is the block from byte 80 on
unfoldable pub validate_records : List ℕ → ℕ → ℕ → RecordValidation → Number
validate_records rest payload_length count c = records (is_leaf c) c.mode (own_rules c) rest payload_length count
