-- The choice between two roots: what its two demands and its result say.
use mathlib.Core.Path.{◌≡◌, refl, sym, ap, ap₂, ◌∙◌}
use mathlib.Core.Bool.{Bool, true, false, not, ◌||◌, cond}
use mathlib.Core.List.{List}
use Prim.Native.Nat.{ℕ, ◌≤◌, ◌<◌}
use native.Mathlib.Decide.{ℕ_discrete}
use native.Mathlib.Omega.{arith}
use borrow.Author.Tests.{eq-eqb, eqb-true, ne_eqb, le-leb, lt-leb}
use lib.Dec.{eqb, leb}
use Rattle.std.specs.Prelude.{◌↔◌, Option, Some, None, Ok, Result}
use Rattle.std.proofs.Math.Decide.{dec_le}
use Rattle.error.specs.declared.Error.{Error}
use Rattle.error.proofs.Tests.{and_left, and_right}
use Rattle.error.proofs.Exactly.{given_exactly}
use Rattle.octets.specs.Bytes.{same_bytes}
use Rattle.octets.proofs.Same.{same_is, same_self}
use Rattle.volume.specs.declared.TreeRef.{TreeRef}
use Rattle.root.specs.declared.Label.{Label}
use Rattle.root.specs.declared.Root.{Root}
use Rattle.root.specs.declared.Selected.{Selected}
use Rattle.root.specs.Select.{same_label, same_ref, same_root, selection, pair_demands, select_pair}
use Rattle.roots.specs.Choice.{Agreeing, Higher, ChoiceExactly}

-- ---- the test of equality holds exactly of equal roots
abbrev labelled : ℕ → List ℕ → Option Label
labelled n t = Some (record { len = n; bytes = t })

abbrev referred : ℕ → ℕ → TreeRef
referred b g = record { block = b; generation = g }

same_label_is : (a b : Option Label) → same_label a b ≡ true → a ≡ b
same_label_is (Some a) (Some b) e =
    ap₂ labelled (eqb-true a.len b.len (and_left _ _ e)) (same_is a.bytes b.bytes (and_right _ _ e))
same_label_is (Some a) None e = cc
same_label_is None (Some b) e = cc
same_label_is None None e = refl

same_label_self : (a : Option Label) → same_label a a ≡ true
same_label_self (Some a) = rw (eq-eqb a.len a.len refl, same_self a.bytes) refl
same_label_self None = refl

same_ref_is : (a b : TreeRef) → same_ref a b ≡ true → a ≡ b
same_ref_is a b e = ap₂ referred (eqb-true a.block b.block (and_left _ _ e)) (eqb-true a.generation b.generation (and_right _ _ e))

same_ref_self : (a : TreeRef) → same_ref a a ≡ true
same_ref_self a = rw (eq-eqb a.block a.block refl, eq-eqb a.generation a.generation refl) refl

pub same_root_self : (a : Root) → same_root a a ≡ true
unfolding same_root
same_root_self a =
    rw (same_label_self a.label, same_self a.uuid, eq-eqb a.generation a.generation refl, eq-eqb a.blocks a.blocks refl, same_ref_self a.catalog, same_ref_self a.allocation, same_ref_self a.cleanup, eq-eqb a.next_object a.next_object refl, eq-eqb a.free_blocks a.free_blocks refl, eq-eqb a.next_job a.next_job refl, same_ref_self a.workspace, eq-eqb a.workspace_cursor a.workspace_cursor refl) refl

abbrev rooted : Option Label → List ℕ → ℕ → ℕ → TreeRef → TreeRef → TreeRef → ℕ → ℕ → ℕ → TreeRef → ℕ → Root
rooted l u g n c t p o f j w k = record {
  label = l;
  uuid = u;
  generation = g;
  blocks = n;
  catalog = c;
  allocation = t;
  cleanup = p;
  next_object = o;
  free_blocks = f;
  next_job = j;
  workspace = w;
  workspace_cursor = k;
}

-- a root is made of its fields
rebuilt : (b : Root) → rooted b.label b.uuid b.generation b.blocks b.catalog b.allocation b.cleanup b.next_object b.free_blocks b.next_job b.workspace b.workspace_cursor ≡ b
rebuilt b = refl

from_fields : (a b : Root) → a.label ≡ b.label → a.uuid ≡ b.uuid → a.generation ≡ b.generation → a.blocks ≡ b.blocks → a.catalog ≡ b.catalog → a.allocation ≡ b.allocation → a.cleanup ≡ b.cleanup
    → a.next_object ≡ b.next_object → a.free_blocks ≡ b.free_blocks → a.next_job ≡ b.next_job → a.workspace ≡ b.workspace → a.workspace_cursor ≡ b.workspace_cursor → a ≡ b
from_fields a b l u g n c t p o f j w k = sym (rebuilt a) ∙ rw (l, u, g, n, c, t, p, o, f, j, w, k) (rebuilt b)

pub same_root_is : (a b : Root) → same_root a b ≡ true → a ≡ b
unfolding same_root
same_root_is a b e =
    let k = and_right _ _ e in
    let s11 = and_left _ _ e in
    let w = and_right _ _ s11 in
    let s10 = and_left _ _ s11 in
    let j = and_right _ _ s10 in
    let s9 = and_left _ _ s10 in
    let f = and_right _ _ s9 in
    let s8 = and_left _ _ s9 in
    let o = and_right _ _ s8 in
    let s7 = and_left _ _ s8 in
    let p = and_right _ _ s7 in
    let s6 = and_left _ _ s7 in
    let t = and_right _ _ s6 in
    let s5 = and_left _ _ s6 in
    let c = and_right _ _ s5 in
    let s4 = and_left _ _ s5 in
    let n = and_right _ _ s4 in
    let s3 = and_left _ _ s4 in
    let g = and_right _ _ s3 in
    let s2 = and_left _ _ s3 in
    let u = and_right _ _ s2 in
    let l = and_left _ _ s2 in
    from_fields a b
    (same_label_is _ _ l) (same_is _ _ u) (eqb-true _ _ g) (eqb-true _ _ n) (same_ref_is _ _ c) (same_ref_is _ _ t) (same_ref_is _ _ p) (eqb-true _ _ o) (eqb-true _ _ f) (eqb-true _ _ j) (same_ref_is _ _ w) (eqb-true _ _ k)

-- ---- two roots
implied : (t x : Bool) → t ≡ true → (not t || x) ≡ true → x ≡ true
implied true x p e = e
implied false x p e = cc

conflict_free : (a b : Root) → Agreeing a b → Dec (a.generation ≡ b.generation) → (not (eqb a.generation b.generation) || same_root a b) ≡ true
conflict_free a b h (yes p) = rw (eq-eqb _ _ p) (ap (same_root a) (sym (h.same p)) ∙ same_root_self a)
conflict_free a b h (no n) = rw (ne_eqb _ _ n) refl

of_selected : (n : ℕ) (r : Root) (s : Selected) → s ≡ selection n r → (s.which ≡ n) × (s.root ≡ r)
of_selected n r s e = (ap (λ (x : Selected). x.which) e, ap (λ (x : Selected). x.root) e)

selected_of : (n : ℕ) (r : Root) (s : Selected) → (s.which ≡ n) × (s.root ≡ r) → s ≡ selection n r
selected_of n r s h = ap₂ selection h.0 h.1

higher_of : (a b : Root) (s : Selected) → s ≡ cond (leb b.generation a.generation) (selection 1 a) (selection 2 b) → Higher a b s
higher_of a b s e = record {
  first = λ h. of_selected 1 a s (e ∙ rw (le-leb _ _ h));
  second = λ h. of_selected 2 b s (e ∙ rw (lt-leb _ _ h));
}

of_higher : (a b : Root) (s : Selected) → Higher a b s → Dec (b.generation ≤ a.generation) → s ≡ cond (leb b.generation a.generation) (selection 1 a) (selection 2 b)
of_higher a b s h (yes p) = rw (le-leb _ _ p) (selected_of 1 a s (h.first p))
of_higher a b s h (no n) = let l : a.generation < b.generation = omega (arith, n) in rw (lt-leb _ _ l) (selected_of 2 b s (h.second l))

module _ (a b : Root) (s : Selected) where
  abbrev one : Selected
  one = cond (leb b.generation a.generation) (selection 1 a) (selection 2 b)

  both_only : select_pair a b ≡ Ok s → Agreeing a b × Higher a b s
  unfolding select_pair
  both_only p =
      let h = (given_exactly (pair_demands a b) one s).0 p in
      (record { uuid = same_is _ _ h.0.0; same = λ g. same_root_is a b (implied _ _ (eq-eqb _ _ g) h.0.1.0) }, higher_of a b s h.1)

  both_back : Agreeing a b × Higher a b s → select_pair a b ≡ Ok s
  unfolding select_pair
  both_back h =
      let u : same_bytes a.uuid b.uuid ≡ true = rw h.0.uuid (same_self b.uuid) in
      (given_exactly (pair_demands a b) one s).1 ((u, (conflict_free a b h.0 (ℕ_discrete _ _), tt)), of_higher a b s h.1 (dec_le _ _))

-- ---- one root, or none
taken : (n : ℕ) (r : Root) (s : Selected) → ◌≡◌ {A = Result Selected Error} (Ok (selection n r)) (Ok s) ↔ ((s.which ≡ n) × (s.root ≡ r))
taken n r s = (λ p. let e : selection n r ≡ s = cc in of_selected n r s (sym e), λ h. rw (selected_of n r s h))

pub choice_exactly : ChoiceExactly
choice_exactly = record {
  none = λ s p. (let z : ◌≡◌ {A = ℕ} 0 1 = cc in absurd (omega arith));
  first = λ a s. taken 1 a s;
  second = λ b s. taken 2 b s;
  both = λ a b s. (both_only a b s, both_back a b s);
}
