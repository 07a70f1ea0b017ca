-- A slot's answer, and its numbers (01, "What demand 3 compares"): whether the slot is present, and its word, 0 if it isn't.
use Rattle.std.specs.Prelude.{ℕ, Bool, true, false, List, [], ◌∷◌, Option, Some, None, Result, Ok, Err}
use Rattle.error.specs.declared.Error.{Error}
use Rattle.error.specs.Answer.{class_of, reason_of}

-- the word of a present slot, nothing of a hole, or a refusal
abbrev pub Slot : Type 0
Slot = Result (Option ℕ) Error

-- whether the slot is present
abbrev pub presence : Slot → Bool
presence (Ok None) = false
presence (Ok (Some w)) = true
presence (Err e) = false

-- its word, 0 if it isn't
abbrev pub word_in : Slot → ℕ
word_in (Ok None) = 0
word_in (Ok (Some w)) = w
word_in (Err e) = 0

-- 01, "Return classes" and "What demand 3 compares": class, reason, whether there is a word, the word
unfoldable pub slot_words : Slot → List ℕ
slot_words (Ok None) = 0 ∷ 0 ∷ 0 ∷ 0 ∷ []
slot_words (Ok (Some w)) = 0 ∷ 0 ∷ 1 ∷ w ∷ []
slot_words (Err e) = class_of e ∷ reason_of e ∷ 0 ∷ 0 ∷ []
