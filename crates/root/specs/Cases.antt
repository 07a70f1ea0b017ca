-- The [P] cases of 01, section 3, of the definitions; one theorem, `proofs/Cases`, carries them all.
use Rattle.std.specs.Prelude.{ℕ, ◌≡◌, Bool, true, ◌&&◌, List, [], ◌∷◌, eqb, length}
use Rattle.error.specs.Answer.{check_class, check_reason}
use Rattle.error.specs.Demand.{is_passed, all_true}
use Rattle.error.specs.Cases.{is_refused}
use Rattle.error.specs.Reason as reason
use Rattle.utf8.specs.Rfc3629.{number}
use Rattle.root.specs.Label.{dots, label_new}
use Rattle.root.specs.Root.{root_decode}

-- the text makes a label
abbrev pub is_new : List ℕ → Bool
is_new text = is_passed (label_new text)

-- the text makes none: the caller's part is at fault
abbrev pub is_no_label : List ℕ → Bool
is_no_label text = is_refused 2 reason.invalid_volume_label (label_new text)

-- U+009F, two bytes in UTF-8
abbrev pub u009f : List ℕ
u009f = 0xC2 ∷ 0x9F ∷ []

-- section 3: labels
unfoldable pub cases : List Bool
cases =
    -- `-` is a label, `..` isn't, U+009F isn't
    is_new (0x2D ∷ [])
    ∷ is_no_label dots
    ∷ (eqb (number u009f) 0x9F && is_no_label u009f)
    ∷ []

-- a root of so many bytes, in any slot of a volume of so many blocks, answers this class and reason
abbrev pub RootAnswers : ℕ → ℕ → ℕ → ℕ → Type 0
RootAnswers bytes blocks class why =
    (s : List ℕ) (slot : ℕ) → length s ≡ bytes → (check_class (root_decode s slot blocks) ≡ class) × (check_reason (root_decode s slot blocks) ≡ why)

-- section 3: the labels, and two roots' answers
pub record CasesHold : Type 0 where
  pub labels : all_true cases ≡ true
  -- 4,096 bytes, blocks 1,023: class 1
  pub few_blocks : RootAnswers 4096 1023 1 0
  -- 4,095 bytes, blocks 1,023: class 3
  pub short_block : RootAnswers 4095 1023 3 reason.root_page_length
