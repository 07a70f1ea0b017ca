-- Beside a refusal every further number is 0 (docs/PROBE.md, "Output"): of the calls of the table, and of call 41. Of call 34 carryfs says it; of the length in call 33 and the numbers of call 43 no theorem does. Texts are left out there: lines `label_told`, `named_told`.
use Rattle.std.specs.Prelude.{ℕ, List, [], ◌∷◌}
use Rattle.carryfs.specs.Words.{Bare}
use Rattle.calls.specs.declared.Numbers.{Numbers}
use Rattle.calls.specs.Table.{fields_of}
use Rattle.calls.specs.Given.{selected_fields}

-- the calls of the table whose fields start with class and reason
abbrev pub classed : List ℕ
classed =
    5 ∷ 8 ∷ 9 ∷ 10 ∷ 16 ∷ 17 ∷ 18 ∷ 19 ∷ 20 ∷ 21 ∷ 22 ∷ 23 ∷ 24 ∷ 25 ∷ 26 ∷ 27 ∷ 28 ∷ 29 ∷ 30 ∷ 35 ∷ 36 ∷ 37 ∷ 38 ∷ 42 ∷ 44 ∷ []

-- a claim on a call holds of each of the list
abbrev pub OfEach : (ℕ → Type 0) → List ℕ → Type 0
OfEach claim [] = Unit
OfEach claim (call ∷ calls) = claim call × OfEach claim calls

-- each of them, on whatever numbers and strings; and call 41, on whatever bytes
pub record FieldsBesideRefusals : Type 0 where
  pub listed : (n : Numbers) (a b : List ℕ) → OfEach (λ call. Bare (fields_of call n a b)) classed
  pub selected : (call : List ℕ) → Bare (selected_fields call)
