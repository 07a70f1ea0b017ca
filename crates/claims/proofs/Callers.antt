-- Class 2 is the caller's: below the root's page no page is refused so.
use mathlib.Core.Path.{◌≡◌, refl, sym, ap, ◌∙◌, subst}
use mathlib.Core.Bool.{not, true≢false}
use mathlib.Core.Logic.{◌⊎◌, inl, inr}
use mathlib.Core.List.{List, []}
use Prim.Native.Nat.{ℕ, ◌-◌, ◌*◌, ◌≤◌, ◌<◌}
use native.Mathlib.Omega.{arith}
use borrow.Author.Tests.{le-leb, eq-eqb, ne_eqb}
use lib.Dec.{leb, eqb}
use lib.ListN.{length, get_or}
use Rattle.std.specs.Prelude.{Option, Result, Ok, Err}
use Rattle.error.specs.declared.Error.{Error}
use Rattle.error.specs.declared.Validation.TheVariants.{Input}
use Rattle.error.specs.Answer.{class_of, check_class}
use Rattle.error.proofs.Exactly.{all_pass, passed_test}
use Rattle.error.proofs.Tests.{and_left, and_both, not_yes}
use Rattle.octets.specs.Bytes.{Bytes, byte_at}
use Rattle.octets.proofs.Join.{part_length}
use Rattle.volume.specs.declared.TreeKind.{TreeKind}
use Rattle.volume.specs.References.{ref_at, validate_blocks, validate_page_ref, validate_uuid}
use Rattle.volume.specs.Accept.{PageRefHolds}
use Rattle.volume.proofs.Accept.{volume_exactly}
use Rattle.walk.specs.Entries.{Entry}
use Rattle.walk.specs.Records.{is_one_of}
use Rattle.walk.proofs.Lists.{among_at}
use Rattle.page.specs.declared.Page.{Page}
use Rattle.page.specs.Header.{is_level, caller_demands, check_caller}
use Rattle.root.specs.declared.Root.{Root}
use Rattle.search.specs.declared.Found.{Found}
use Rattle.search.specs.declared.Searched.{Searched}
use Rattle.search.specs.declared.Searches.{Searches}
use Rattle.search.specs.Search.{Sought, Under, block_at, page_of, below, sought, top, answered, search}
use Rattle.paths.specs.Paths.{read_of, InImage, Accepted, Sound, below_in, Path, here, through, refused}
use Rattle.paths.specs.Exactly.{OnPath, IsRefused, CountIs, OnlyTheRootsPage}
use Rattle.paths.specs.Steps.{entry}
use Rattle.paths.proofs.Pages.{known}
use Rattle.paths.proofs.Down.{search_answers}
use Rattle.paths.proofs.Exactly.{answer_is, sentences_hold}
use Rattle.paths.proofs.Steps.{steps}
use Rattle.claims.proofs.Answers.{stored_classes, page_stored}
use Rattle.claims.proofs.Searches.{own_classes}

-- a page that is asked for below an internal page
record Child (s : Sought) (v : Under) : Type 0 where
  page : Under
  states : Page
  index : ℕ
  sound : Sound s page states
  internal : 1 ≤ states.level
  there : index < states.count
  is : below_in s page states index ≡ v

-- a path of one page or more ends at one
child_of : (s : Sought) {u v : Under} {m : ℕ} → Path s u v m → (m ≡ 0) × (u ≡ v) ⊎ Child s v
child_of s here = inl (refl, refl)
child_of s {u} {v} (through {m = m} p k h i f w) = inr (go (child_of s w))
  where
    go : (m ≡ 0) × (below_in s u p k ≡ v) ⊎ Child s v → Child s v
    go (inl e) = record { page = u; states = p; index = k; sound = h; internal = i; there = f.there; is = e.1 }
    go (inr c) = c

module _ (image : List ℕ) (root : Root) (kind : TreeKind) (key : List ℕ) (bytes : Bytes image) where
  abbrev s : Sought
  s = sought image root kind key

  -- an internal page's children lie where pages of its tree do
  child_lies : (u : Under) (p : Page) (k : ℕ) → Accepted s u p → 1 ≤ p.level → k < p.count → PageRefHolds (below_in s u p k).reference kind root.blocks
  unfolding block_at below
  child_lies u p k a i l =
      let h = (steps.accepted image root kind key u p bytes).0 a in
      let r = (h.holds.content.internal (two h.holds.header.level.kind h.states.level)).0 in
      let e : get_or r.read.entries k (entry [] []) ≡ _ = steps.records s u p r.read k bytes a l in
      let there : k < length r.read.entries = omega (arith, r.read.many, h.states.count) in
      subst (λ (x : Entry). PageRefHolds (ref_at x.value 0) kind root.blocks) e (r.hold (get_or r.read.entries k (entry [] [])) (among_at r.read.entries k (entry [] []) there)).child
    where
      two : (byte_at (page_of s u) 12 ≡ 1) × (byte_at (page_of s u) 14 ≡ 0) ⊎ (byte_at (page_of s u) 12 ≡ 2) × (1 ≤ byte_at (page_of s u) 14) × (byte_at (page_of s u) 14 ≤ 7) → p.level ≡ byte_at (page_of s u) 14 → byte_at (page_of s u) 12 ≡ 2
      two (inl q) e = absurd (omega (arith, q.1))
      two (inr q) e = q.0

  -- so each is asked for as the reader wants it
  asked_right : (u : Under) (p : Page) (k : ℕ) → Accepted s u p → 1 ≤ p.level → k < p.count → InImage s (below_in s u p k)
      → let v = below_in s u p k in
      check_caller v.reference root.uuid kind v.parent_generation v.expected_level root.blocks (page_of s v) ≡ Ok tt
  unfolding check_caller is_level block_at below
  asked_right u p k a i l inside =
      let v = below_in s u p k in
      let h = (steps.accepted image root kind key u p bytes).0 a in
      let n = known s bytes u p a in
      all_pass (caller_demands v.reference root.uuid kind v.parent_generation v.expected_level root.blocks (page_of s v)) (
        eq-eqb (length (page_of s v)) 4096 (part_length image (v.reference.block * 4096) 4096 (omega (arith, inside))),
        (
          passed_test (validate_blocks root.blocks Input) tt ((volume_exactly.blocks root.blocks Input).1 h.holds.caller.geometry),
          (
            passed_test (validate_page_ref v.reference kind root.blocks Input) tt ((volume_exactly.page_ref v.reference kind root.blocks Input).1 (child_lies u p k a i l)),
            (
              passed_test (validate_uuid root.uuid Input) tt ((volume_exactly.uuid root.uuid Input).1 h.holds.caller.volume),
              (
                and_both (not (eqb v.parent_generation 0)) (leb v.reference.generation v.parent_generation) (not_yes (eqb v.parent_generation 0) (ne_eqb v.parent_generation 0 (λ z. omega (arith, n.generation_is, n.dated)))) (le-leb v.reference.generation v.parent_generation (n.older i k l)),
                (le-leb (p.level - 1) 7 (omega (arith, n.level)), tt),
              ),
            ),
          ),
        ),
      )

  -- so a page below the root's is not refused with class 2
  child_class : (v : Under) → Child s v → InImage s v → check_class (read_of s v) ≡ 2 → ⊥
  child_class v c inside e =
      let right = asked_right c.page c.states c.index c.sound.accepted c.internal c.there (subst (InImage s) (sym c.is) inside) in
      let passed = subst (λ (w : Under). check_caller w.reference root.uuid kind w.parent_generation w.expected_level root.blocks (page_of s w) ≡ Ok tt) c.is right in
      let told = (page_stored v.reference root.uuid kind v.parent_generation v.expected_level root.blocks (page_of s v) passed).told in
      true≢false (sym (and_left _ _ told) ∙ ap (λ (n : ℕ). is_one_of n stored_classes) e)

  module _ (state : Searches) where
    abbrev u : Under
    u = top root kind

    abbrev r : Searched
    r = search image root kind key state

    first_page : (e : Error) → class_of e ≡ 2 → OnPath s u (λ v m. IsRefused s e v × CountIs state m r.state.count) → InImage s u × (check_class (read_of s u) ≡ 2) × CountIs state 0 r.state.count
    first_page e two w = go (child_of s w.path)
      where
        refused_so : check_class (read_of s w.page) ≡ 2
        refused_so = ap check_class w.holds.0.1 ∙ two

        go : (w.above ≡ 0) × (u ≡ w.page) ⊎ Child s w.page → InImage s u × (check_class (read_of s u) ≡ 2) × CountIs state 0 r.state.count
        go (inl q) = (
          subst (InImage s) (sym q.1) w.holds.0.0,
          subst (λ (v : Under). check_class (read_of s v) ≡ 2) (sym q.1) refused_so,
          subst (λ (m : ℕ). CountIs state m r.state.count) q.0 w.holds.1,
        )
        go (inr c) = absurd (child_class w.page c w.holds.0.0 refused_so)

    there : (a : Result (Option Found) Error) → r.answer ≡ a → check_class a ≡ 2 → InImage s u × (check_class (read_of s u) ≡ 2) × CountIs state 0 r.state.count
    there (Ok f) q e = absurd (omega arith)
    there (Err x) q e = first_page x e (((sentences_hold own_classes image root kind key state bytes).refusal_exactly x r.state.count (omega arith)).0 (q, refl))

    back : (a : Result Page Error) → read_of s u ≡ a → check_class a ≡ 2 → InImage s u → check_class r.answer ≡ 2
    back (Ok p) q e inside = absurd (omega arith)
    back (Err x) q e inside =
        let d = (search_answers image root kind key state (answered state (Err x, 0)) bytes).1 ((Err x, 0), refused x here inside q, refl) in
        ap check_class (answer_is state r (Err x, 0) d) ∙ e

pub only_the_roots_page : OnlyTheRootsPage
only_the_roots_page image root kind key state bytes = (
  λ e. there image root kind key bytes state (search image root kind key state).answer refl e,
  λ h. back image root kind key bytes state (read_of (sought image root kind key) (top root kind)) refl h.1 h.0,
)
