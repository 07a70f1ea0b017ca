-- Answers and their numbers (01, "Return classes"; the classes from 7 up are those of 02).
use Rattle.std.specs.Prelude.{ℕ, Bool, cond, List, [], ◌∷◌, Result, Ok, Err}
use Rattle.error.specs.declared.Error.{Error}
use Rattle.error.specs.declared.Error.TheVariants.{InvalidGeometry, InvalidInput, Corrupt, UnsupportedFormat, InvalidName, TooLong, Added}
use Rattle.error.specs.declared.Class.{Class}
use Rattle.error.specs.declared.Class.TheVariants.{BeyondImage, OutOfBounds, OutOfCalendar, OutputLength, RecordsTooLong, NoWindowsTime, ListTooShort, NotApart, NoRecordRefused, NoSuchDesk, DeskFull}
use Rattle.error.specs.declared.Validation.{Validation}
use Rattle.error.specs.declared.Validation.TheVariants.{Input, Disk}

-- 02: the classes that its tickets add, by their numbers
abbrev pub class_number : Class → ℕ
class_number BeyondImage = 7
class_number OutOfBounds = 8
class_number OutOfCalendar = 9
class_number OutputLength = 10
class_number RecordsTooLong = 11
class_number NoWindowsTime = 12
class_number ListTooShort = 13
class_number NotApart = 14
class_number NoRecordRefused = 15
class_number NoSuchDesk = 16
class_number DeskFull = 17

-- 01, "Return classes": the class of each refusal
abbrev pub class_of : Error → ℕ
class_of InvalidGeometry = 1
class_of (InvalidInput reason) = 2
class_of (Corrupt reason) = 3
class_of UnsupportedFormat = 4
class_of (InvalidName reason) = 5
class_of (TooLong reason) = 6
class_of (Added class) = class_number class

-- 01, "Return classes": its reason; classes 1 and 4, and those from 7 up, carry reason 0
abbrev pub reason_of : Error → ℕ
reason_of InvalidGeometry = 0
reason_of (InvalidInput reason) = reason
reason_of (Corrupt reason) = reason
reason_of UnsupportedFormat = 0
reason_of (InvalidName reason) = reason
reason_of (TooLong reason) = reason
reason_of (Added class) = 0

-- the answer of a check that gives no value: it passed, or a refusal
abbrev pub Check : Type 0
Check = Result Unit Error

-- the answer of a check that gives a number: it, or a refusal
abbrev pub Number : Type 0
Number = Result ℕ Error

-- 01, "Return classes": the class of a check's answer, 0 where it passed
abbrev pub check_class : {A : Type 0} → Result A Error → ℕ
check_class (Ok a) = 0
check_class (Err e) = class_of e

-- 01, "Return classes": the reason of a check's answer, 0 where it passed
abbrev pub check_reason : {A : Type 0} → Result A Error → ℕ
check_reason (Ok a) = 0
check_reason (Err e) = reason_of e

-- a check that gives a number, as a check alone
abbrev pub number_check : Number → Check
number_check (Ok n) = Ok tt
number_check (Err e) = Err e

-- 01, "Return classes": the number of an answer, 0 beside a refusal
abbrev pub number_of : Number → ℕ
number_of (Ok n) = n
number_of (Err e) = 0

-- a number for a test: 1 where it holds
abbrev pub flag : Bool → ℕ
flag b = cond b 1 0

-- 01, "Return classes": class, reason
unfoldable pub check_words : Check → List ℕ
check_words (Ok passed) = 0 ∷ 0 ∷ []
check_words (Err e) = class_of e ∷ reason_of e ∷ []

-- 01, "Return classes": class, reason, the number of a check that gives one
unfoldable pub number_words : Number → List ℕ
number_words (Ok n) = 0 ∷ 0 ∷ n ∷ []
number_words (Err e) = class_of e ∷ reason_of e ∷ 0 ∷ []

-- `violation`: what breaks a rule is class 2 in mode Input, class 3 in mode Disk (01, "Return classes"); but for a symlink target that is too long, catalog `too_long_of`
abbrev pub violation_of : Validation → ℕ → Error
violation_of Input reason = InvalidInput reason
violation_of Disk reason = Corrupt reason
