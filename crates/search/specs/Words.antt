-- The answer of a search in numbers (01, "Return classes"; 02, Ticket 1).
use Rattle.std.specs.Prelude.{ℕ, ◌-◌, List, [], ◌∷◌, ◌++◌, replicate, Option, Some, None, Result, Ok, Err}
use Rattle.error.specs.declared.Error.{Error}
use Rattle.error.specs.Answer.{class_of, reason_of}
use Rattle.search.specs.declared.Found.{Found}
use Rattle.search.specs.declared.Searched.{Searched}

-- class, reason, whether a record was found, where its key starts in the image and how long it is, the same of its value
abbrev pub found_words : Result (Option Found) Error → List ℕ
found_words (Ok (Some f)) = 0 ∷ 0 ∷ 1 ∷ f.key_start ∷ (f.key_end - f.key_start) ∷ f.key_end ∷ (f.value_end - f.key_end) ∷ []
found_words (Ok None) = replicate 7 0
found_words (Err e) = class_of e ∷ reason_of e ∷ replicate 5 0

-- the same, and the pages accepted so far, beside a refusal too
unfoldable pub search_words : Searched → List ℕ
search_words r = found_words r.answer ++ (r.state.count ∷ [])
