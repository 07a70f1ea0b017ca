-- A symlink's target is accepted exactly when its conditions hold.
use mathlib.Core.Path.{◌≡◌, sym, ◌∙◌}
use mathlib.Core.Bool.{Bool, true, false≢true}
use mathlib.Core.Logic.{◌↔◌, ⊎_elim}
use mathlib.Core.List.{List, [], ◌∷◌, Memᴰ as Among}
use mathlib.Core.List.Memᴰ.{head, tail}
use Prim.Native.Nat.{ℕ}
use borrow.Author.Tests.{le-leb, leb-true, eq-eqb, eqb-true, not-true}
use lib.Dec.{eqb}
use lib.ListN.{length}
use Rattle.std.specs.Prelude.{Ok}
use Rattle.std.specs.List.{list_any}
use Rattle.std.proofs.lemmas.Bool.{or_cases}
use Rattle.error.specs.declared.Validation.{Validation}
use Rattle.error.proofs.Exactly.{all_hold, all_pass}
use Rattle.error.proofs.Tests.{and_left, and_right, and_both, or_first, or_second}
use Rattle.utf8.proofs.Grammar.{utf8_is_grammar}
use Rattle.volume.proofs.Accept.{never_holds, some_is, is_some}
use Rattle.catalog.specs.Inode.{is_target, symlink_target_demands, validate_symlink_target}
use Rattle.records.specs.Catalog.{TargetHolds}

abbrev nul : ℕ → Bool
nul b = eqb b 0

nul_among : (s : List ℕ) → list_any nul s ≡ true → Among 0 s
nul_among [] e = absurd (false≢true e)
nul_among (x ∷ s) e = ⊎_elim (λ h. head (sym (eqb-true x 0 h))) (λ h. tail (nul_among s h)) (or_cases (eqb x 0) (list_any nul s) e)

among_nul : {s : List ℕ} → Among 0 s → list_any nul s ≡ true
among_nul (head {x} {xs} e) = or_first (eqb x 0) (list_any nul xs) (eq-eqb x 0 (sym e))
among_nul (tail {x} {xs} m) = or_second (eqb x 0) (list_any nul xs) (among_nul m)

module _ (target : List ℕ) (mode : Validation) where
  holds : validate_symlink_target target mode ≡ Ok tt → TargetHolds target
  unfolding validate_symlink_target is_target
  holds e =
      let h = all_hold (symlink_target_demands target mode) e in
      let t = and_left _ _ h.1.0 in
      record {
        length_least = some_is (length target) (and_left _ _ t);
        length_most = leb-true (length target) 1023 h.0;
        no_nul = λ m. absurd (false≢true (sym (not-true (list_any nul target) (and_right _ _ t)) ∙ among_nul m));
        text = (utf8_is_grammar target).0 (and_right _ _ h.1.0);
      }

  passes : TargetHolds target → validate_symlink_target target mode ≡ Ok tt
  unfolding validate_symlink_target is_target
  passes h =
      let no = never_holds (list_any nul target) (λ e. search (h.no_nul, nul_among target e)) in
      let t = and_both _ _ (and_both _ _ (is_some (length target) h.length_least) no) ((utf8_is_grammar target).1 h.text) in
      all_pass (symlink_target_demands target mode) (le-leb (length target) 1023 h.length_most, (t, tt))

  pub target_exactly : (validate_symlink_target target mode ≡ Ok tt) ↔ TargetHolds target
  target_exactly = (holds, passes)
