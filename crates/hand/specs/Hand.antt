-- What a caller of the views sees, in numbers (01, sections 4, 5 and 7): the page's answer, the lookup's on its payload, and the first of the records that it answers.
use Rattle.std.specs.Prelude.{ℕ, ◌-◌, List, [], ◌∷◌, length, replicate, Option, Some, None, Result, Ok, Err}
use Rattle.error.specs.declared.Error.{Error}
use Rattle.error.specs.Answer.{class_of, reason_of}
use Rattle.crc.specs.Crc.{crc32c}
use Rattle.octets.specs.Bytes.{part}
use Rattle.lookup.specs.Floor.{floor_answer, scratch_of, next_record}
use Rattle.lookup.specs.declared.Answer.{Answer}
use Rattle.lookup.specs.declared.Step.{Step}
use Rattle.volume.specs.declared.TreeRef.{TreeRef}
use Rattle.volume.specs.declared.TreeKind.{TreeKind}
use Rattle.page.specs.declared.Page.{Page}
use Rattle.hand.specs.declared.Given.{Given}
use Rattle.hand.specs.declared.First.{First}
use Rattle.hand.specs.declared.Handed.{Handed}
use Rattle.page.specs.Page.{decode_page}

-- of a record's key and its value the lengths and the checksums, and how many records are left after it
abbrev pub given_numbers : List ℕ → List ℕ → ℕ → Given
given_numbers key value left = record {
  key_len = length key;
  key_sum = crc32c key;
  value_len = length value;
  value_sum = crc32c value;
  left = left;
}

-- the record at a step's places of the bytes from the answer's record on
abbrev pub step_numbers : List ℕ → Option Step → Option Given
step_numbers rest (Some s) =
    Some (given_numbers
    (part rest s.key_start (s.key_end - s.key_start))
    (part rest s.key_end (s.value_end - s.key_end))
    s.remaining)
step_numbers rest None = None

-- the bytes from the answer's record on, and of so many records the first
abbrev pub first_numbers : Answer → List ℕ → First
first_numbers a rest = record {
  index = a.index;
  remaining = a.remaining;
  given = step_numbers rest (next_record rest a.remaining);
}

-- the first of the records from the answer's on
abbrev pub answer_numbers : List ℕ → Option Answer → Option First
answer_numbers payload (Some a) = Some (first_numbers a (part payload a.from (a.end - a.from)))
answer_numbers payload None = None

-- the first of the records that a lookup in a payload answers, lent a scratch of so many entries
unfoldable pub lookup_first : List ℕ → ℕ → List ℕ → ℕ → Option First
lookup_first payload count key entries = answer_numbers payload (floor_answer payload count key entries)

-- the payload that a page's answer names
abbrev pub payload_in : Page → List ℕ → List ℕ
payload_in answer page = part page answer.start (answer.end - answer.start)

-- what the lookup leaves in the scratch; where the page is refused there is none
abbrev pub scratch_in : Result Page Error → List ℕ → List ℕ → List ℕ
scratch_in (Ok answer) page scratch = scratch_of (payload_in answer page) answer.count scratch
scratch_in (Err e) page scratch = scratch

-- the answer's numbers, and the first of the records that the lookup in its payload answers
abbrev pub page_numbers : Page → List ℕ → List ℕ → ℕ → Handed
page_numbers answer page key entries = record {
  level = answer.level;
  data_blocks = answer.data_blocks;
  count = answer.count;
  first = lookup_first (payload_in answer page) answer.count key entries;
}

-- the same of an answer that may be a refusal
abbrev pub handed_of : Result Page Error → List ℕ → List ℕ → ℕ → Result Handed Error
handed_of (Ok answer) page key entries = Ok (page_numbers answer page key entries)
handed_of (Err e) page key entries = Err e

-- the page that is asked for, and the key looked up in it
abbrev pub hand_out : TreeRef → List ℕ → TreeKind → ℕ → Option ℕ → ℕ → List ℕ → List ℕ → ℕ → Result Handed Error
hand_out reference uuid kind parent_generation expected_level blocks page key entries = handed_of (decode_page reference uuid kind parent_generation expected_level blocks page) page key entries

-- `next` of `Records`, of so many records from the found one on: whether one is given, its key's length and checksum, its value's, how many are left after it; without one as many as before
abbrev pub given_words : ℕ → Option Given → List ℕ
given_words left (Some g) = 1 ∷ g.key_len ∷ g.key_sum ∷ g.value_len ∷ g.value_sum ∷ g.left ∷ []
given_words left None = 0 ∷ 0 ∷ 0 ∷ 0 ∷ 0 ∷ left ∷ []

-- 01, section 7: whether a record is found, its index, how many there are from it on, and of the first of them as above
unfoldable pub first_words : Option First → List ℕ
first_words (Some f) = 1 ∷ f.index ∷ f.remaining ∷ given_words f.remaining f.given
first_words None = replicate 9 0

-- 01, "Return classes" and section 4: class, reason, level, total and count of the view, and what the lookup finds
unfoldable pub handed_words : Result Handed Error → List ℕ
handed_words (Ok h) = 0 ∷ 0 ∷ h.level ∷ h.data_blocks ∷ h.count ∷ first_words h.first
handed_words (Err e) = class_of e ∷ reason_of e ∷ replicate 12 0
