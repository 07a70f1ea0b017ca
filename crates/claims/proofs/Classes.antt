-- No call of the C interface answers a class outside its list: what demand 1 says of each; a data unit's length is its own.
use mathlib.Core.Path.{◌≡◌, refl}
use mathlib.Core.Logic.{⊎_elim}
use mathlib.Core.List.{List}
use Prim.Native.Nat.{ℕ}
use Rattle.std.specs.Prelude.{true, Result}
use Rattle.error.specs.declared.Error.{Error}
use Rattle.error.specs.declared.Validation.TheVariants.{Disk}
use Rattle.error.specs.Answer.{Number, check_class, check_reason}
use Rattle.error.proofs.Tests.{and_left}
use Rattle.walk.specs.Records.{is_one_of}
use Rattle.root.specs.Root.{root_decode}
use Rattle.root.specs.Select.{supported_root}
use Rattle.claims.specs.Answers.{AnswersIn, RefusesAlone}
use Rattle.claims.specs.Classes.{root_classes, unit_classes, Classes}
use Rattle.claims.proofs.Answers.{supported_kept, choice_kept, demand_1}
use Rattle.claims.proofs.Searches.{search_told}

class_in : {A : Type 0} {cs : List ℕ} {c : Result A Error} → AnswersIn cs c → is_one_of (check_class c) cs ≡ true
class_in {A} {cs} {c} h = and_left (is_one_of (check_class c) cs) _ h.told

supported_in : (s : List ℕ) (slot blocks : ℕ) → AnswersIn root_classes (supported_root (root_decode s slot blocks))
supported_in s slot blocks = supported_kept root_classes refl (root_decode s slot blocks) (demand_1.root s slot blocks)

unit_in : (n : Number) → RefusesAlone 2 0 n → (is_one_of (check_class n) unit_classes ≡ true) × (check_reason n ≡ 0)
unit_in n h = ⊎_elim (λ p. (rw p.0 refl, p.1)) (λ p. (rw p.0 refl, p.1)) h.told

pub classes : Classes
classes = record {
  root = λ s slot blocks. class_in (demand_1.root s slot blocks);
  choice = λ s slot blocks t slot₂ blocks₂. class_in (choice_kept root_classes refl refl _ _ (supported_in s slot blocks) (supported_in t slot₂ blocks₂));
  page = λ r u k g l b p. class_in (demand_1.page r u k g l b p);
  search = search_told;
  group = λ key value. class_in (demand_1.group key value Disk);
  slot = λ g s. class_in (demand_1.slot g s);
  unit = λ uuid object unit valid. unit_in _ (demand_1.unit uuid object unit valid);
}
