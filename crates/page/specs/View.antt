-- Views of a page (01, sections 4 and 7): what they say of it, and the parts of its own memory that they refer to.
use Rattle.std.specs.Prelude.{◌≡◌, ℕ, ◌-◌, cond, ltb, List, [], ◌∷◌, length, Option, Some, None, Result, Ok, Err}
use Rattle.std.specs.Borrow.{Bor}
use Rattle.error.specs.declared.Error.{Error}
use Rattle.error.specs.Answer.{class_of, reason_of}
use Rattle.octets.specs.Bytes.{IsPart, IsRest}
use Rattle.lookup.specs.Record.{split_record}
use Rattle.lookup.specs.declared.Answer.{Answer}
use Rattle.lookup.specs.declared.Lengths.{Lengths}
use Rattle.lookup.specs.declared.Step.{Step}
use Rattle.page.specs.declared.Page.{Page}
use Rattle.page.specs.declared.view.PageView.{PageView}
use Rattle.page.specs.declared.view.Records.{Records}

-- section 4: the view of an answer has its numbers, and the page's part from where the payload starts to where it ends
pub record IsView (page : Bor (List ℕ)) (answer : Page) (v : PageView) : Type 0 where
  pub level : v.level ≡ answer.level
  pub total : v.data_blocks ≡ answer.data_blocks
  pub count : v.count ≡ answer.count
  pub payload : IsPart page answer.start (answer.end - answer.start) v.payload

-- section 4: where the answer is a refusal, it is the view's; otherwise there is a view of it
abbrev pub Views : Bor (List ℕ) → Result Page Error → Result PageView Error → Type 0
Views page (Ok answer) (Ok v) = IsView page answer v
Views page (Ok answer) (Err e) = ⊥
Views page (Err e) (Ok v) = ⊥
Views page (Err e) (Err d) = d ≡ e

-- 01, "Return classes" and section 4: class, reason, level, total, count
unfoldable pub view_words : Result PageView Error → List ℕ
view_words (Ok v) = 0 ∷ 0 ∷ v.level ∷ v.data_blocks ∷ v.count ∷ []
view_words (Err e) = class_of e ∷ reason_of e ∷ 0 ∷ 0 ∷ 0 ∷ []

-- section 7: a floor record has the answer's index, and as many records from it on, which are the payload from there to its end
pub record IsFound (payload : Bor (List ℕ)) (a : Answer) (index : ℕ) (records : Records) : Type 0 where
  pub index_is : index ≡ a.index
  pub remaining : records.remaining ≡ a.remaining
  pub from : IsPart payload a.from (a.end - a.from) records.payload

-- section 7: there is a floor record exactly where there is an answer
abbrev pub Found : Bor (List ℕ) → Option Answer → Option (ℕ × Records) → Type 0
Found payload (Some a) (Some r) = IsFound payload a r.0 r.1
Found payload (Some a) None = ⊥
Found payload None (Some r) = ⊥
Found payload None None = Unit

-- section 7: whether there is a record, its index, how many records there are from it on
unfoldable pub found_words : Option (ℕ × Records) → List ℕ
found_words (Some r) = 1 ∷ r.0 ∷ r.1.remaining ∷ []
found_words None = 0 ∷ 0 ∷ 0 ∷ []

-- `next` of `Records`: the record at a step's places of a payload, and what is left: the payload after it, and so many records
pub record IsStep (before : Records) (s : Step) (key value : Bor (List ℕ)) (after : Records) : Type 0 where
  pub key_is : IsPart before.payload s.key_start (s.key_end - s.key_start) key
  pub value_is : IsPart before.payload s.key_end (s.value_end - s.key_end) value
  pub rest : IsRest before.payload s.value_end after.payload
  pub remaining : after.remaining ≡ s.remaining

-- `next` of `Records`: a record is given exactly where there is a step; where there is none nothing is passed
abbrev pub Stepped : Records → Option Step → Option (Bor (List ℕ) × Bor (List ℕ)) → Records → Type 0
Stepped before (Some s) (Some r) after = IsStep before s r.0 r.1 after
Stepped before (Some s) None after = ⊥
Stepped before None (Some r) after = ⊥
Stepped before None None after = after ≡ before

-- section 5: the lengths of the first of n records; none where n is 0 or it is broken
abbrev pub first_lengths : List ℕ → ℕ → Option Lengths
first_lengths payload n = cond (ltb 0 n) (split_record payload) None

-- `next` of `Records`: whether there is a record, the lengths of its key and value
unfoldable pub next_words : Option (Bor (List ℕ) × Bor (List ℕ)) → List ℕ
next_words (Some r) = 1 ∷ length r.0.now ∷ length r.1.now ∷ []
next_words None = 0 ∷ 0 ∷ 0 ∷ []
