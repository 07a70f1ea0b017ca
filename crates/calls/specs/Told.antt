-- How a call of probe is answered (docs/PROBE.md): its numbers as the functions take them, and its answer as fields.
use Rattle.std.specs.Prelude.{ℕ, ◌+◌, ◌-◌, ◌<◌, ◌≡◌, cond, List, [], ◌∷◌, eqb, leb, replicate, Option, Some, None, Result, Ok, Err}
use Rattle.std.specs.Result.{OkIff, ResultUnwrapsOrElse}
use Rattle.std.specs.declared.num.TryFromIntError.{TryFromIntError}
use Rattle.error.specs.declared.Error.{Error}
use Rattle.error.specs.declared.Validation.{Validation}
use Rattle.error.specs.declared.Validation.TheVariants.{Input, Disk}
use Rattle.error.specs.Answer.{class_of, reason_of}
use Rattle.volume.specs.declared.GroupBlocks.{GroupBlocks}
use Rattle.volume.specs.declared.TreeRef.{TreeRef}
use Rattle.group.specs.Group.{compact_bytes}
use Rattle.lookup.specs.declared.Step.{Step}
use Rattle.page.specs.declared.Page.{Page}

-- ---- numbers

-- a number within its limit; another counts as 0
unfoldable pub at_most : ℕ → ℕ → ℕ
at_most most value = cond (leb value most) value 0

-- the same of a type that numbers are tried to be converted to: what the conversion gives, or the type's default (0) where it refuses
abbrev pub IsWithin : {T E : Type 0} → (ℕ → Result T E → Type 0) → (T → Type 0) → ℕ → T → Type 0
IsWithin {T} {E} gives is_default value t = (r : Result T E) × (gives value r × ResultUnwrapsOrElse r is_default t)

-- so of a number below a limit's successor (2^8, 2^16, 2^32) the number is given, and another counts as 0
abbrev pub WithinIsAtMost : Type 0
WithinIsAtMost = (most n t : ℕ) → IsWithin {T = ℕ} {E = TryFromIntError} (λ v r. OkIff r (v < most + 1) v) (λ x. x ≡ 0) n t → t ≡ at_most most n

-- a mode: 0 is Input, every other number Disk
unfoldable pub mode_of : ℕ → Validation
mode_of value = cond (eqb value 0) Input Disk

-- a reference of a block and a generation
abbrev pub reference_to : ℕ → ℕ → TreeRef
reference_to block generation = record { block = block; generation = generation }

-- ---- fields

-- a group's reserved blocks at its low end and at its high end, each as start and end
abbrev pub group_fields : GroupBlocks → List ℕ
group_fields g = g.low_start ∷ g.low_end ∷ g.high_start ∷ g.high_end ∷ []

-- the length of a group's front, its stored form
abbrev pub front_fields : List ℕ → List ℕ
front_fields group = compact_bytes group ∷ []

-- whether there is a record, its key's offset and length, its value's, the offset of the rest
abbrev pub step_fields : Option Step → List ℕ
step_fields (Some s) = 1 ∷ s.key_start ∷ (s.key_end - s.key_start) ∷ s.key_end ∷ (s.value_end - s.key_end) ∷ s.value_end ∷ []
step_fields None = replicate 6 0

-- class, reason, level, count, the payload's offset and length
abbrev pub draft_fields : Result Page Error → List ℕ
draft_fields (Ok p) = 0 ∷ 0 ∷ p.level ∷ p.count ∷ p.start ∷ (p.end - p.start) ∷ []
draft_fields (Err e) = class_of e ∷ reason_of e ∷ replicate 4 0

-- ---- the table

-- a row of the table of calls: a call's number, and the fields that it tells
pub record Row : Type 0 where
  pub number : ℕ
  pub fields : List ℕ

infixl 70 ◌tells◌
-- a call's number and its fields
abbrev pub ◌tells◌ : ℕ → List ℕ → Row
call tells xs = record { number = call; fields = xs }

-- the fields of a call, by the first row of its number; where there is no such row, none
unfoldable pub fields_in : ℕ → List Row → List ℕ
fields_in call [] = []
fields_in call (row ∷ rows) = cond (eqb call row.number) row.fields (fields_in call rows)
