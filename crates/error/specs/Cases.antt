-- Tests for the [P] cases: what an answer is, class and reason, in each mode.
use Rattle.std.specs.Prelude.{ℕ, Bool, false, ◌&&◌, eqb, Result, Ok, Err}
use Rattle.error.specs.declared.Error.{Error}
use Rattle.error.specs.declared.Validation.{Validation}
use Rattle.error.specs.declared.Validation.TheVariants.{Input, Disk}
use Rattle.error.specs.Answer.{class_of, reason_of}
use Rattle.error.specs.Demand.{is_passed}

-- 01, "Return classes": it is refused with this class and this reason
abbrev pub is_refused : {A : Type 0} → ℕ → ℕ → Result A Error → Bool
is_refused class reason (Ok a) = false
is_refused class reason (Err e) = eqb (class_of e) class && eqb (reason_of e) reason

-- 01, "Return classes": a check that goes by a mode passes in both
abbrev pub passes : {A : Type 0} → (Validation → Result A Error) → Bool
passes check = is_passed (check Input) && is_passed (check Disk)

-- 01, "Return classes": in mode Input it is refused with class 2, in mode Disk with class 3, and with this reason
abbrev pub violates : {A : Type 0} → ℕ → (Validation → Result A Error) → Bool
violates reason check = is_refused 2 reason (check Input) && is_refused 3 reason (check Disk)
