-- The choice between two slots' roots, plainly: what is chosen is the newest, and a refusal that isn't class 3 stands.
use mathlib.Core.Path.{◌≡◌, refl, subst}
use mathlib.Core.Bool.{Bool, true, false, cond}
use mathlib.Core.Logic.{◌⊎◌, inl, inr}
use Prim.Native.Nat.{ℕ}
use native.Mathlib.Omega.{arith}
use borrow.Author.Tests.{ne_eqb, leb-true, leb-false}
use lib.Dec.{leb}
use Rattle.std.specs.Prelude.{Some, None, Result, Ok, Err}
use Rattle.error.specs.declared.Error.{Error}
use Rattle.error.specs.Answer.{class_of, check_class}
use Rattle.error.proofs.Exactly.{given_exactly, class_some}
use Rattle.root.specs.declared.Root.{Root}
use Rattle.root.specs.declared.Selected.{Selected}
use Rattle.root.specs.Select.{selection, pair_demands, select_pair, supported_root, choose_root, Newest, ChosenIsNewest, RefusalsStand}

-- ---- a chosen root is the newest

never : {A T : Type 0} {e : Error} {a : A} → ◌≡◌ {A = Result A Error} (Err e) (Ok a) → T
never p = let z : ◌≡◌ {A = ℕ} 0 1 = cc in absurd (omega arith)

-- of two, the one with the higher generation, the first if equal
newer : (a b : Root) (t : Bool) → leb b.generation a.generation ≡ t → Newest (Ok (Some a)) (Ok (Some b)) (cond t (selection 1 a) (selection 2 b))
newer a b true e = record {
  one = inl (refl, refl);
  first = λ r p. let g : r.generation ≡ a.generation = cc in omega arith;
  second = λ r p. let g : r.generation ≡ b.generation = cc in omega (arith, leb-true b.generation a.generation e);
}
newer a b false e = record {
  one = inr (refl, refl);
  first = λ r p. let g : r.generation ≡ a.generation = cc in omega (arith, leb-false b.generation a.generation e);
  second = λ r p. let g : r.generation ≡ b.generation = cc in omega arith;
}

pair_newest : (a b : Root) (s : Selected) → select_pair a b ≡ Ok s → Newest (Ok (Some a)) (Ok (Some b)) s
unfolding select_pair
pair_newest a b s h = rw ((given_exactly (pair_demands a b) (cond (leb b.generation a.generation) (selection 1 a) (selection 2 b)) s).0 h).1 (newer a b (leb b.generation a.generation) refl)

pub chosen_is_newest : ChosenIsNewest
chosen_is_newest (Err e) b s h = never h
chosen_is_newest (Ok a) (Err e) s h = never h
chosen_is_newest (Ok None) (Ok None) s h = never h
chosen_is_newest (Ok (Some a)) (Ok (Some b)) s h = pair_newest a b s h
chosen_is_newest (Ok (Some a)) (Ok None) s h =
    let z : selection 1 a ≡ s = cc in
    subst (Newest (Ok (Some a)) (Ok None)) z (
    record {
      one = inl (refl, refl);
      first = λ r p. let g : r.generation ≡ a.generation = cc in omega arith;
      second = λ r p. let g : ◌≡◌ {A = ℕ} 0 1 = cc in omega arith;
    }
    )
chosen_is_newest (Ok None) (Ok (Some b)) s h =
    let z : selection 2 b ≡ s = cc in
    subst (Newest (Ok None) (Ok (Some b))) z (
    record {
      one = inr (refl, refl);
      first = λ r p. let g : ◌≡◌ {A = ℕ} 0 1 = cc in omega arith;
      second = λ r p. let g : r.generation ≡ b.generation = cc in omega arith;
    }
    )

-- ---- a refusal that isn't class 3 stands

-- where the first slot's root isn't refused, or with class 3, the second's refusal is the answer
second_refused : (a : Result Root Error) (e : Error) → (check_class a ≡ 0) ⊎ (check_class a ≡ 3) → choose_root (supported_root a) (Err e) ≡ Err e
second_refused (Ok r) e s = refl
second_refused (Err x) e (inl p) = absurd (class_some x p)
second_refused (Err x) e (inr p) = rw p

pub refusals_stand : RefusalsStand
refusals_stand = record {
  of_first = λ a b e p k. rw (p, ne_eqb (class_of e) 3 k);
  of_second = λ a b e s p k. rw (p, ne_eqb (class_of e) 3 k) (second_refused a e s);
}
