-- A chain of checks as a list of demands (01, "Return classes": the first failing check in the Rust's order answers).
use Rattle.std.specs.Prelude.{ℕ, ◌≡◌, Bool, true, false, ◌&&◌, cond, List, [], ◌∷◌, length, replicate, Result, Ok, Err}
use Rattle.error.specs.declared.Error.{Error}
use Rattle.error.specs.declared.Error.TheVariants.{UnsupportedFormat}
use Rattle.error.specs.Answer.{Check, class_of, reason_of}

-- a demand: a test, and the refusal where the test doesn't hold
pub record Demand : Type 0 where
  pub test : Bool
  pub refusal : Error

infixl 70 ◌otherwise◌
-- a test, and the refusal where it fails
abbrev pub ◌otherwise◌ : Bool → Error → Demand
t otherwise e = record { test = t; refusal = e }

-- whether a check passed, whatever it gives
abbrev pub is_passed : {A : Type 0} → Result A Error → Bool
is_passed (Ok a) = true
is_passed (Err e) = false

-- the refusal of a check; of one that passed, a stand-in that `outcome` never answers
abbrev pub refusal_of : {A : Type 0} → Result A Error → Error
refusal_of (Ok a) = UnsupportedFormat
refusal_of (Err e) = e

-- a check as one demand of a longer chain: it passes, otherwise its own refusal answers
abbrev pub passing : {A : Type 0} → Result A Error → Demand
passing c = record { test = is_passed c; refusal = refusal_of c }

-- the first demand whose test fails answers with its refusal; where all hold, the call's own result
unfoldable pub outcome : {A : Type 0} → List Demand → Result A Error → Result A Error
outcome [] accepted = accepted
outcome (d ∷ ds) accepted = cond d.test (outcome ds accepted) (Err d.refusal)

-- the same where the result is only that all hold
abbrev pub demands : List Demand → Check
demands ds = outcome ds (Ok tt)

-- 01, "Return classes": in numbers: class and reason of the first demand that fails, with zeros in the place of the values; where all hold, 0, 0 and the values
unfoldable pub first_failing : List Demand → List ℕ → List ℕ
first_failing [] values = 0 ∷ 0 ∷ values
first_failing (d ∷ ds) values = cond d.test (first_failing ds values) (class_of d.refusal ∷ reason_of d.refusal ∷ replicate (length values) 0)

-- every test of the list holds; no order is in it
abbrev pub AllHold : List Demand → Type 0
AllHold [] = Unit
AllHold (d ∷ ds) = (d.test ≡ true) × AllHold ds

-- each test of a list of cases holds
abbrev pub all_true : List Bool → Bool
all_true [] = true
all_true (t ∷ ts) = t && all_true ts
