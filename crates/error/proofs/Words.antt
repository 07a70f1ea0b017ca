-- A list of demands in 01's numbers, for every type of answer: what the first that fails answers.
use mathlib.Core.Path.{◌≡◌, refl}
use mathlib.Core.Bool.{Bool, true, false, cond}
use mathlib.Core.List.{List, [], ◌∷◌}
use lib.ListN.{length}
use Rattle.std.proofs.Math.ListN.{replicate}
use Prim.Native.Nat.{ℕ}
use Rattle.std.specs.Prelude.{Result, Ok, Err}
use Rattle.error.specs.declared.Error.{Error}
use Rattle.error.specs.Answer.{class_of, reason_of, check_words, number_words}
use Rattle.error.specs.Demand.{Demand, outcome, demands, first_failing}

-- of words that give class, reason and zeros for each refusal, and for the accepted result 0, 0 and the values
module _ {A : Type 0} (words : Result A Error → List ℕ) (accepted : Result A Error) (values : List ℕ) (refused : (e : Error) → words (Err e) ≡ class_of e ∷ reason_of e ∷ replicate (length values) 0) (given : words accepted ≡ 0 ∷ 0 ∷ values) where
  pub first_answers : (ds : List Demand) → words (outcome ds accepted) ≡ first_failing ds values
  unfolding outcome first_failing
  first_answers [] = given
  first_answers (d ∷ ds) = go d.test (first_answers ds)
    where
      go : (b : Bool) → words (outcome ds accepted) ≡ first_failing ds values → words (cond b (outcome ds accepted) (Err d.refusal)) ≡ cond b (first_failing ds values) (class_of d.refusal ∷ reason_of d.refusal ∷ replicate (length values) 0)
      go true rest = rest
      go false rest = refused d.refusal

-- the same of a check, and of one that gives a number
pub first_check : (ds : List Demand) → check_words (demands ds) ≡ first_failing ds []
unfolding check_words
first_check ds = first_answers check_words (Ok tt) [] (λ e. refl) refl ds

pub first_number : (n : ℕ) (ds : List Demand) → number_words (outcome ds (Ok n)) ≡ first_failing ds (n ∷ [])
unfolding number_words
first_number n ds = first_answers number_words (Ok n) (n ∷ []) (λ e. refl) refl ds
