-- The words tell answers apart: from class and reason the refusal is made again, and no refusal has the class of an answer.
use Prim.Native.Nat.{ℕ}
use mathlib.Core.Path.{◌≡◌, refl, sym, ap, ap₂, ◌∙◌}
use mathlib.Core.Bool.{cond}
use native.Mathlib.Omega.{arith}
use lib.Dec.{eqb}
use Rattle.std.specs.Prelude.{Some, None, Ok, Err}
use Rattle.error.specs.declared.Error.{Error}
use Rattle.error.specs.declared.Error.TheVariants.{InvalidGeometry, InvalidInput, Corrupt, UnsupportedFormat, InvalidName, TooLong, Added}
use Rattle.error.specs.declared.Class.{Class}
use Rattle.error.specs.declared.Class.TheVariants.{BeyondImage, OutOfBounds, OutOfCalendar, OutputLength, RecordsTooLong, NoWindowsTime, ListTooShort, NotApart, NoRecordRefused, NoSuchDesk, DeskFull}
use Rattle.error.specs.Answer.{Check, Number, class_of, reason_of, check_words, number_words}
use Rattle.error.proofs.Exactly.{class_some}
use Rattle.volume.specs.declared.TreeRef.{TreeRef}
use Rattle.group.specs.Slots.{Slot, slot_words}
use Rattle.record.specs.Internal.{Child, child_words}
use Rattle.claims.specs.Words.{WordsTellApart}

-- ---- refusals

-- the added class of a number, the last of any other
abbrev added : ℕ → Class
added class =
    cond (eqb class 7) BeyondImage
    (cond (eqb class 8) OutOfBounds
    (cond (eqb class 9) OutOfCalendar
    (cond (eqb class 10) OutputLength
    (cond (eqb class 11) RecordsTooLong
    (cond (eqb class 12) NoWindowsTime
    (cond (eqb class 13) ListTooShort
    (cond (eqb class 14) NotApart
    (cond (eqb class 15) NoRecordRefused
    (cond (eqb class 16) NoSuchDesk
    DeskFull)))))))))

-- the refusal of a class and a reason; classes 1 and 4, and those from 7 up, have none
abbrev refusal : ℕ → ℕ → Error
refusal class reason =
    cond (eqb class 1) InvalidGeometry
    (cond (eqb class 2) (InvalidInput reason)
    (cond (eqb class 3) (Corrupt reason)
    (cond (eqb class 4) UnsupportedFormat
    (cond (eqb class 5) (InvalidName reason)
    (cond (eqb class 6) (TooLong reason)
    (Added (added class)))))))

-- each is the one of its class and its reason
made_again : (e : Error) → refusal (class_of e) (reason_of e) ≡ e
made_again InvalidGeometry = refl
made_again (InvalidInput n) = refl
made_again (Corrupt n) = refl
made_again UnsupportedFormat = refl
made_again (InvalidName n) = refl
made_again (TooLong n) = refl
made_again (Added BeyondImage) = refl
made_again (Added OutOfBounds) = refl
made_again (Added OutOfCalendar) = refl
made_again (Added OutputLength) = refl
made_again (Added RecordsTooLong) = refl
made_again (Added NoWindowsTime) = refl
made_again (Added ListTooShort) = refl
made_again (Added NotApart) = refl
made_again (Added NoRecordRefused) = refl
made_again (Added NoSuchDesk) = refl
made_again (Added DeskFull) = refl

refusals : (a b : Error) → class_of a ≡ class_of b → reason_of a ≡ reason_of b → a ≡ b
refusals a b c r = sym (made_again a) ∙ ap₂ refusal c r ∙ made_again b

-- ---- answers

checks : (a b : Check) → check_words a ≡ check_words b → a ≡ b
unfolding check_words
checks (Ok u) (Ok v) p = refl
checks (Ok u) (Err f) p = let z : class_of f ≡ 0 = cc in absurd (class_some f z)
checks (Err e) (Ok v) p = let z : class_of e ≡ 0 = cc in absurd (class_some e z)
checks (Err e) (Err f) p =
    let c : class_of e ≡ class_of f = cc in
    let r : reason_of e ≡ reason_of f = cc in
    ap Err (refusals e f c r)

numbers : (a b : Number) → number_words a ≡ number_words b → a ≡ b
unfolding number_words
numbers (Ok m) (Ok n) p = let z : m ≡ n = cc in ap Ok z
numbers (Ok m) (Err f) p = let z : class_of f ≡ 0 = cc in absurd (class_some f z)
numbers (Err e) (Ok n) p = let z : class_of e ≡ 0 = cc in absurd (class_some e z)
numbers (Err e) (Err f) p =
    let c : class_of e ≡ class_of f = cc in
    let r : reason_of e ≡ reason_of f = cc in
    ap Err (refusals e f c r)

slots : (a b : Slot) → slot_words a ≡ slot_words b → a ≡ b
unfolding slot_words
slots (Ok None) (Ok None) p = refl
slots (Ok None) (Ok (Some w)) p = let z : ◌≡◌ {A = ℕ} 0 1 = cc in absurd (omega arith)
slots (Ok (Some v)) (Ok None) p = let z : ◌≡◌ {A = ℕ} 1 0 = cc in absurd (omega arith)
slots (Ok (Some v)) (Ok (Some w)) p = let z : v ≡ w = cc in ap (λ (x : ℕ). Ok (Some x)) z
slots (Ok None) (Err f) p = let z : class_of f ≡ 0 = cc in absurd (class_some f z)
slots (Ok (Some v)) (Err f) p = let z : class_of f ≡ 0 = cc in absurd (class_some f z)
slots (Err e) (Ok None) p = let z : class_of e ≡ 0 = cc in absurd (class_some e z)
slots (Err e) (Ok (Some w)) p = let z : class_of e ≡ 0 = cc in absurd (class_some e z)
slots (Err e) (Err f) p =
    let c : class_of e ≡ class_of f = cc in
    let r : reason_of e ≡ reason_of f = cc in
    ap Err (refusals e f c r)

abbrev reference : ℕ → ℕ → TreeRef
reference block generation = record { block = block; generation = generation }

children : (a b : Child) → child_words a ≡ child_words b → a ≡ b
unfolding child_words
children (Ok r) (Ok s) p =
    let b : r.block ≡ s.block = cc in
    let g : r.generation ≡ s.generation = cc in
    ap Ok (ap₂ reference b g)
children (Ok r) (Err f) p = let z : class_of f ≡ 0 = cc in absurd (class_some f z)
children (Err e) (Ok s) p = let z : class_of e ≡ 0 = cc in absurd (class_some e z)
children (Err e) (Err f) p =
    let c : class_of e ≡ class_of f = cc in
    let r : reason_of e ≡ reason_of f = cc in
    ap Err (refusals e f c r)

pub words_tell_apart : WordsTellApart
words_tell_apart = record {
  refusals = refusals;
  checks = checks;
  numbers = numbers;
  slots = slots;
  children = children;
}
