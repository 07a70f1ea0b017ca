-- The early returns of a function, by its list of demands: `search chain depth N` follows them with these laws.
use mathlib.Core.Path.{◌≡◌, sym, ◌∙◌}
use mathlib.Core.Bool.{Bool, true, false, cond}
use mathlib.Core.List.{List, [], ◌∷◌}
use Prim.Native.Nat.{ℕ, zero, suc}
use Rattle.std.specs.Prelude.{Result, Ok, Err}
use Rattle.error.specs.declared.Error.{Error}
use Rattle.error.specs.declared.Error.TheVariants.{UnsupportedFormat}
use Rattle.error.specs.Answer.{Check}
use Rattle.error.specs.Demand.{Demand, ◌otherwise◌, passing, is_passed, outcome, demands}
use Rattle.error.proofs.Tests.{tests}

-- ---- one demand after the other

module _ {A : Type 0} (accepted : Result A Error) where
  -- all demands are met
  pub met : (x : Result A Error) → x ≡ accepted → x ≡ outcome [] accepted
  unfolding outcome
  met x p = p

  -- the first demand of what is left fails, and answers
  pub fails : (x : Result A Error) (t : Bool) (e : Error) (ds : List Demand) → t ≡ false → x ≡ Err e → x ≡ outcome (t otherwise e ∷ ds) accepted
  unfolding outcome
  fails x t e ds p q = q ∙ rw p

  -- it holds, and the rest answers
  pub holds : (x : Result A Error) (t : Bool) (e : Error) (ds : List Demand) → t ≡ true → x ≡ outcome ds accepted → x ≡ outcome (t otherwise e ∷ ds) accepted
  unfolding outcome
  holds x t e ds p q = q ∙ rw p

  -- the same of a check that was called: r is its result
  pub inner_fails : {B : Type 0} (x : Result A Error) (r c : Result B Error) (e : Error) (ds : List Demand) → r ≡ c → r ≡ Err e → x ≡ Err e → x ≡ outcome (passing c ∷ ds) accepted
  unfolding outcome
  inner_fails x r c e ds p q k = k ∙ rw (sym p ∙ q)

  pub inner_holds : {B : Type 0} (x : Result A Error) (r c : Result B Error) (b : B) (ds : List Demand) → r ≡ c → r ≡ Ok b → x ≡ outcome ds accepted → x ≡ outcome (passing c ∷ ds) accepted
  unfolding outcome
  inner_holds x r c b ds p q k = k ∙ rw (sym p ∙ q)

-- ---- the same, place by place: where a search over the whole list would be too long, each test is its own

-- the demands before place k hold, the one at k fails, and its refusal
abbrev pub Before : List Demand → ℕ → Type 0
Before [] k = Unit
Before (d ∷ ds) zero = Unit
Before (d ∷ ds) (suc k) = (d.test ≡ true) × Before ds k

abbrev pub FailsAt : List Demand → ℕ → Type 0
FailsAt [] k = ⊥
FailsAt (d ∷ ds) zero = d.test ≡ false
FailsAt (d ∷ ds) (suc k) = FailsAt ds k

abbrev pub refusal_at : List Demand → ℕ → Error
refusal_at [] k = UnsupportedFormat
refusal_at (d ∷ ds) zero = d.refusal
refusal_at (d ∷ ds) (suc k) = refusal_at ds k

pub refused_at : {A : Type 0} (accepted : Result A Error) (ds : List Demand) (k : ℕ) → Before ds k → FailsAt ds k → Err (refusal_at ds k) ≡ outcome ds accepted
unfolding outcome
refused_at accepted [] k h f = absurd f
refused_at accepted (d ∷ ds) zero h f = rw f
refused_at accepted (d ∷ ds) (suc k) h f = rw h.0 (refused_at accepted ds k h.1 f)

-- a check that was called, as a test
pub passed_of : {B : Type 0} (r c : Result B Error) (b : B) → r ≡ Ok b → r ≡ c → is_passed c ≡ true
passed_of r c b p q = rw (sym q ∙ p)

-- what `search` goes by at one test
pub ruleset each = (passed_of, tests)

-- a check that is called last answers for the chain
pub last_check : (r c : Check) → r ≡ c → r ≡ demands (passing c ∷ [])
unfolding outcome
last_check r (Ok tt) p = p
last_check r (Err e) p = p

-- a check's refusal handed on
pub handed_on : (r c : Check) (e : Error) (ds : List Demand) → r ≡ c → r ≡ Err e → r ≡ demands (passing c ∷ ds)
handed_on r c e ds p q = inner_fails (Ok tt) r r c e ds p q q

-- a refusal that a call made, and a value
pub refused_same : {A : Type 0} (y e : Error) → y ≡ e → ◌≡◌ {A = Result A Error} (Err y) (Err e)
refused_same y e p = rw p

pub value_same : {A : Type 0} (r n : A) → r ≡ n → ◌≡◌ {A = Result A Error} (Ok r) (Ok n)
value_same r n p = rw p

-- a result that goes by a test
pub cond_first : {A : Type 0} (t : Bool) (x a b : A) → t ≡ true → x ≡ a → x ≡ cond t a b
cond_first t x a b p q = q ∙ rw p

pub cond_second : {A : Type 0} (t : Bool) (x a b : A) → t ≡ false → x ≡ b → x ≡ cond t a b
cond_second t x a b p q = q ∙ rw p

pub ruleset chain = (met, fails, holds, inner_fails, inner_holds, last_check, handed_on, refused_same, value_same, cond_first, cond_second, tests)
