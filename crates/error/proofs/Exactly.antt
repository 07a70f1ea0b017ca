-- What a list of demands says: it passes exactly where each test holds, and lists join.
use mathlib.Core.Path.{◌≡◌, refl, sym, ap, ◌∙◌}
use mathlib.Core.Bool.{Bool, true, false, cond}
use mathlib.Core.Logic.{◌↔◌}
use mathlib.Core.List.{List, [], ◌∷◌, ◌++◌}
use Prim.Native.Nat.{ℕ, ◌≤◌}
use native.Mathlib.Omega.{arith}
use Rattle.std.specs.Prelude.{Result, Ok, Err}
use Rattle.error.specs.declared.Error.{Error}
use Rattle.error.specs.declared.Error.TheVariants.{InvalidGeometry, InvalidInput, Corrupt, UnsupportedFormat, InvalidName, TooLong, Added}
use Rattle.error.specs.Answer.{Check, Number, number_check, class_number, class_of}
use Rattle.error.specs.declared.Class.{Class}
use Rattle.error.specs.declared.Class.TheVariants.{BeyondImage, OutOfBounds, OutOfCalendar, OutputLength, RecordsTooLong, NoWindowsTime, ListTooShort, NotApart, NoRecordRefused, NoSuchDesk, DeskFull}
use Rattle.error.specs.Demand.{Demand, passing, is_passed, outcome, demands, AllHold}

-- it passes exactly where each test holds
pub all_hold : (ds : List Demand) → demands ds ≡ Ok tt → AllHold ds
unfolding outcome
all_hold [] e = tt
all_hold (d ∷ ds) e = go d.test refl e (all_hold ds)
  where
    go : (b : Bool) → d.test ≡ b → cond b (demands ds) (Err d.refusal) ≡ Ok tt → (demands ds ≡ Ok tt → AllHold ds) → AllHold (d ∷ ds)
    go true p e rest = (p, rest e)
    go false p e rest = let z : ◌≡◌ {A = ℕ} 0 1 = cc in absurd (omega arith)

pub all_pass : (ds : List Demand) → AllHold ds → demands ds ≡ Ok tt
unfolding outcome
all_pass [] h = refl
all_pass (d ∷ ds) h = rw h.0 (all_pass ds h.1)

pub accepted_exactly : (ds : List Demand) → (demands ds ≡ Ok tt) ↔ AllHold ds
accepted_exactly ds = (all_hold ds, all_pass ds)

-- a check that passed, as a demand of a longer chain
pub passed_is : (c : Check) → is_passed c ≡ true → c ≡ Ok tt
passed_is (Ok tt) e = refl
passed_is (Err x) e = let z : ◌≡◌ {A = ℕ} 0 1 = cc in absurd (omega arith)

-- the same of a check that gives a number, as a check alone
pub number_passed : (r : Number) → is_passed r ≡ true → number_check r ≡ Ok tt
number_passed (Ok n) e = refl
number_passed (Err x) e = let z : ◌≡◌ {A = ℕ} 0 1 = cc in absurd (omega arith)

pub number_test : (r : Number) → number_check r ≡ Ok tt → is_passed r ≡ true
number_test (Ok n) e = refl
number_test (Err x) e = let z : ◌≡◌ {A = ℕ} 0 1 = cc in absurd (omega arith)

pub passed_test : {A : Type 0} (c : Result A Error) (a : A) → c ≡ Ok a → is_passed c ≡ true
passed_test c a e = rw e

-- an answer of another type goes by the same list
abbrev pub by : {A : Type 0} → Check → Result A Error → Result A Error
by (Ok tt) accepted = accepted
by (Err e) accepted = Err e

pub outcome_by : {A : Type 0} (ds : List Demand) (accepted : Result A Error) → outcome ds accepted ≡ by (demands ds) accepted
unfolding outcome
outcome_by [] accepted = refl
outcome_by (d ∷ ds) accepted = go d.test (outcome_by ds accepted)
  where
    go : (b : Bool) → outcome ds accepted ≡ by (demands ds) accepted → cond b (outcome ds accepted) (Err d.refusal) ≡ by (cond b (demands ds) (Err d.refusal)) accepted
    go true e = e
    go false e = refl

-- where all hold, the result is the call's own
pub outcome_holds : {A : Type 0} (ds : List Demand) (accepted : Result A Error) → AllHold ds → outcome ds accepted ≡ accepted
outcome_holds ds accepted h = outcome_by ds accepted ∙ rw (all_pass ds h)

-- an answer of another type beside the check of the same list
module _ {A : Type 0} (ds : List Demand) (accepted x : Result A Error) (c : Check) (is : c ≡ demands ds) where
  pub outcome_refused : (e : Error) → c ≡ Err e → x ≡ Err e → x ≡ outcome ds accepted
  outcome_refused e p q = q ∙ sym (outcome_by ds accepted ∙ ap (λ (d : Check). by d accepted) (sym is ∙ p))

  pub outcome_passed : c ≡ Ok tt → x ≡ accepted → x ≡ outcome ds accepted
  outcome_passed p q = q ∙ sym (outcome_by ds accepted ∙ ap (λ (d : Check). by d accepted) (sym is ∙ p))

-- what such an answer tells of the list
module _ {A : Type 0} (ds : List Demand) (accepted : Result A Error) where
  -- one that gives a value: all demands hold, and it is the accepted one
  pub answer_passed : (a : A) → outcome ds accepted ≡ Ok a → (demands ds ≡ Ok tt) × (accepted ≡ Ok a)
  answer_passed a e = go (demands ds) refl (sym (outcome_by ds accepted) ∙ e)
    where
      go : (c : Check) → demands ds ≡ c → by c accepted ≡ Ok a → (demands ds ≡ Ok tt) × (accepted ≡ Ok a)
      go (Ok tt) p f = (p, f)
      go (Err y) p f = let z : ◌≡◌ {A = ℕ} 0 1 = cc in absurd (omega arith)

-- a refusal, where the call's own result is none: it is that of the demands
pub answer_refused : {A : Type 0} (ds : List Demand) (a : A) (x : Error) → outcome ds (Ok a) ≡ Err x → demands ds ≡ Err x
answer_refused ds a x e = go (demands ds) (sym (outcome_by ds (Ok a)) ∙ e)
  where
    go : (c : Check) → by c (Ok a) ≡ Err x → c ≡ Err x
    go (Ok tt) f = let z : ◌≡◌ {A = ℕ} 0 1 = cc in absurd (omega arith)
    go (Err y) f = cc

-- such an answer gives its own value exactly where each test holds
module _ {A : Type 0} (ds : List Demand) (v w : A) where
  given_only : outcome ds (Ok v) ≡ Ok w → AllHold ds × (w ≡ v)
  given_only p =
      let a = answer_passed ds (Ok v) w p in
      let same : v ≡ w = cc (a.1) in
      (all_hold ds a.0, sym same)

  pub given_exactly : (outcome ds (Ok v) ≡ Ok w) ↔ (AllHold ds × (w ≡ v))
  given_exactly = (given_only, λ h. outcome_holds ds (Ok v) h.0 ∙ rw (sym h.1))

-- a group of demands within a chain is its demands, one after the other
pub flat : (ds es : List Demand) → demands (passing (demands ds) ∷ es) ≡ demands (ds ++ es)
unfolding outcome
flat [] es = refl
flat (d ∷ ds) es = go d.test (flat ds es)
  where
    go : (b : Bool) → demands (passing (demands ds) ∷ es) ≡ demands (ds ++ es) → demands (passing (cond b (demands ds) (Err d.refusal)) ∷ es) ≡ cond b (demands (ds ++ es)) (Err d.refusal)
    go true e = e
    go false e = refl

-- chains with one demand in front are the same where the rests are
pub front : (d : Demand) (ds es : List Demand) → demands ds ≡ demands es → demands (d ∷ ds) ≡ demands (d ∷ es)
unfolding outcome
front d ds es e = ap (λ (c : Check). cond d.test c (Err d.refusal)) e

pub fronts : (cs ds es : List Demand) → demands ds ≡ demands es → demands (cs ++ ds) ≡ demands (cs ++ es)
fronts [] ds es e = e
fronts (c ∷ cs) ds es e = front c (cs ++ ds) (cs ++ es) (fronts cs ds es e)

-- a chain whose result is a chain is one chain
pub two_chains : {A : Type 0} (ds es : List Demand) (accepted : Result A Error) → outcome ds (outcome es accepted) ≡ outcome (ds ++ es) accepted
unfolding outcome
two_chains [] es accepted = refl
two_chains (d ∷ ds) es accepted = ap (λ (x : Result _ Error). cond d.test x (Err d.refusal)) (two_chains ds es accepted)

-- where the first demands hold, the others answer
pub after : {A : Type 0} (accepted : Result A Error) (cs ds : List Demand) → AllHold cs → outcome ds accepted ≡ outcome (cs ++ ds) accepted
after accepted cs ds h = sym (outcome_holds cs (outcome ds accepted) h) ∙ two_chains cs ds accepted

-- the added classes start at 7
pub added_above : (c : Class) → 7 ≤ class_number c
added_above BeyondImage = omega arith
added_above OutOfBounds = omega arith
added_above OutOfCalendar = omega arith
added_above OutputLength = omega arith
added_above RecordsTooLong = omega arith
added_above NoWindowsTime = omega arith
added_above ListTooShort = omega arith
added_above NotApart = omega arith
added_above NoRecordRefused = omega arith
added_above NoSuchDesk = omega arith
added_above DeskFull = omega arith

-- no refusal has class 0
pub class_some : (e : Error) → class_of e ≡ 0 → ⊥
class_some InvalidGeometry p = omega arith
class_some (InvalidInput n) p = omega arith
class_some (Corrupt n) p = omega arith
class_some UnsupportedFormat p = omega arith
class_some (InvalidName n) p = omega arith
class_some (TooLong n) p = omega arith
class_some (Added c) p = omega (arith, added_above c)
