-- Demand 3 for pages.
use mathlib.Core.Path.{◌≡◌, refl, sym, ap, ap₂, subst, ◌∙◌}
use mathlib.Core.Logic.{◌⊎◌, inl, inr}
use mathlib.Core.List.{List}
use Prim.Native.Nat.{ℕ, ◌-◌, ◌≤◌}
use native.Mathlib.Omega.{arith}
use lib.ListN.{length}
use denote.Ref.{Bor}
use Rattle.std.specs.Prelude.{Option, Some, None, Result, Ok, Err}
use Rattle.error.specs.declared.Error.{Error}
use Rattle.error.specs.Answer.{check_class}
use Rattle.error.proofs.Exactly.{class_some}
use Rattle.octets.specs.Bytes.{byte_at, part}
use Rattle.volume.specs.declared.TreeRef.{TreeRef}
use Rattle.volume.specs.declared.TreeKind.{TreeKind}
use Rattle.walk.specs.Entries.{Read}
use Rattle.lookup.specs.Floor.{floor_at, answer_of, next_record}
use Rattle.lookup.specs.declared.Floor.{Floor}
use Rattle.lookup.specs.declared.Step.{Step}
use Rattle.walk.specs.Found.{Finding, first_of, step_found, answer_found, lookup_in}
use Rattle.octets.proofs.Join.{part_length}
use Rattle.octets.proofs.Parts.{part_from}
use Rattle.walk.proofs.Found.{scratch_free, runs_agree}
use Rattle.page.specs.declared.Page.{Page}
use Rattle.page.specs.declared.view.PageView.{PageView}
use Rattle.page.specs.declared.view.Records.{Records}
use Rattle.page.specs.Header.{level, total, count, payload_length}
use Rattle.page.specs.Page.{decode_page}
use Rattle.page.specs.View.{IsView, Views, Found, Stepped}
use Rattle.pages.specs.Agree.{lookup, Accepted, Same, PagesAgree, handed_out, GivenFirst, LookupIsHandedOut}
use Rattle.pages.specs.Accept.{ContentHolds, PageHolds, PageStates}
use Rattle.pages.proofs.Accept.{page_exactly}
use Rattle.pages.proofs.Fields.{Good, page_same}

-- the records of an accepted page
pub read_of : (kind : TreeKind) (blocks : ℕ) (page : List ℕ) → (byte_at page 12 ≡ 1) × (byte_at page 14 ≡ 0) ⊎ (byte_at page 12 ≡ 2) × (1 ≤ byte_at page 14) × (byte_at page 14 ≤ 7) → ContentHolds kind blocks page
    → Read (part page 80 (payload_length page)) (count page)
read_of kind blocks page (inl p) h = (h.leaf p.0).read
read_of kind blocks page (inr p) h = (h.internal p.0).0.read

-- class 0 is a result
result_of : {A : Type 0} (r : Result A Error) → check_class r ≡ 0 → (a : A) × (r ≡ Ok a)
result_of (Ok a) e = (a, refl)
result_of (Err x) e = absurd (class_some x e)

-- what `decode_page` answers on an accepted page
module _ (reference : TreeRef) (uuid : List ℕ) (kind : TreeKind) (parent_generation : ℕ) (expected_level : Option ℕ) (blocks : ℕ) (page : List ℕ) (a : Accepted reference uuid kind parent_generation expected_level blocks page) where
  answered : (answer : Page) × (decode_page reference uuid kind parent_generation expected_level blocks page ≡ Ok answer)
  answered = result_of (decode_page reference uuid kind parent_generation expected_level blocks page) a.passed

  holding : PageHolds reference uuid kind parent_generation expected_level blocks page × PageStates page answered.0
  holding = (page_exactly reference uuid kind parent_generation expected_level blocks page answered.0 a.bytes).0 answered.1

  good : Good reference uuid kind page
  good = record {
    bytes = a.bytes;
    parent_generation = parent_generation;
    expected_level = expected_level;
    blocks = blocks;
    holds = holding.0;
    reads = read_of kind blocks page holding.0.header.level.kind holding.0.content;
  }

-- a view of the page: what it states, and its payload
pub record Seen (page : List ℕ) (v : PageView) : Type 0 where
  pub level_is : v.level ≡ level page
  pub total_is : v.data_blocks ≡ total page
  pub count_is : v.count ≡ count page
  pub payload_is : v.payload.now ≡ part page 80 (payload_length page)

-- the view that `decode_page` returns on an accepted page
pub seen : (reference : TreeRef) (uuid : List ℕ) (kind : TreeKind) (parent_generation : ℕ) (expected_level : Option ℕ) (blocks : ℕ) (page : Bor (List ℕ)) (v : PageView)
    → Accepted reference uuid kind parent_generation expected_level blocks page.now → Views page (decode_page reference uuid kind parent_generation expected_level blocks page.now) (Ok v) → Seen page.now v
seen reference uuid kind parent_generation expected_level blocks page v a views =
    let x = answered reference uuid kind parent_generation expected_level blocks page.now a in
    let s = (holding reference uuid kind parent_generation expected_level blocks page.now a).1 in
    let w : IsView page x.0 v = subst (λ (r : Result Page Error). Views page r (Ok v)) x.1 views in
    let width : x.0.end - x.0.start ≡ payload_length page.now = omega (arith, s.end, s.start) in
    record {
      level_is = w.level ∙ s.level;
      total_is = w.total ∙ s.total;
      count_is = w.count ∙ s.count;
      payload_is = w.payload.bytes ∙ ap₂ (λ (m n : ℕ). part page.now m n) s.start width;
    }

module _ (reference : TreeRef) (uuid : List ℕ) (kind : TreeKind) (p q : List ℕ) (v w : PageView) (g : Good reference uuid kind p) (h : Good reference uuid kind q) (a : Seen p v) (b : Seen q w) (s t : List ℕ → List ℕ) where
  -- the payload is as long as the header says
  payload_length_lem : (x : List ℕ) → Good reference uuid kind x → length (part x 80 (payload_length x)) ≡ payload_length x
  payload_length_lem x f = part_length x 80 (payload_length x) (omega (arith, f.holds.caller.size, f.holds.header.payload_fits))

  small : (x : List ℕ) → Good reference uuid kind x → length (part x 80 (payload_length x)) ≤ 65535
  small x f = omega (arith, payload_length_lem x f, f.holds.header.payload_fits)

  abbrev found_in : List ℕ → List ℕ → List ℕ → Finding
  found_in x key scratch = lookup_in (part x 80 (payload_length x)) (count x) key scratch

  looked : (x : List ℕ) (u : PageView) → Seen x u → (key scratch : List ℕ) → lookup u key scratch ≡ found_in x key scratch
  looked x u c key scratch = rw (c.payload_is, c.count_is) refl

  forth : p ≡ q → Same v w s t
  forth e =
      let levels : level p ≡ level q = ap (λ (x : List ℕ). level x) e in
      let totals : total p ≡ total q = ap (λ (x : List ℕ). total x) e in
      record {
        level_same = omega (arith, levels, totals, a.level_is, b.level_is, a.total_is, b.total_is);
        total_same = omega (arith, levels, totals, a.level_is, b.level_is, a.total_is, b.total_is);
        found_same = λ key _. looked p v a key (s key) ∙ scratch_free (part p 80 (payload_length p)) (count p) g.reads (small p g) key (s key) (t key) ∙ ap (λ (x : List ℕ). found_in x key (t key)) e ∙ sym (looked q w b key (t key));
      }

  back : Same v w s t → p ≡ q
  back same =
      let run = runs_agree (part p 80 (payload_length p)) (part q 80 (payload_length q)) (count p) (count q) g.reads h.reads (small p g) (small q h) s t
      (λ key k. sym (looked p v a key (s key)) ∙ same.found_same key k ∙ looked q w b key (t key)) in
      let payload : payload_length p ≡ payload_length q = sym (payload_length_lem p g) ∙ ap length run.1 ∙ payload_length_lem q h in
      page_same reference uuid kind p q g h (omega (arith, a.level_is, b.level_is, same.level_same)) (omega (arith, a.total_is, b.total_is, same.total_same)) run.0 payload run.1

pub pages_agree : PagesAgree
pages_agree reference uuid kind parent₁ parent₂ expected₁ expected₂ blocks₁ blocks₂ page₁ page₂ v₁ v₂ a₁ views₁ a₂ views₂ scratch₁ scratch₂ =
    let g = good reference uuid kind parent₁ expected₁ blocks₁ page₁.now a₁ in
    let h = good reference uuid kind parent₂ expected₂ blocks₂ page₂.now a₂ in
    let a = seen reference uuid kind parent₁ expected₁ blocks₁ page₁ v₁ a₁ views₁ in
    let b = seen reference uuid kind parent₂ expected₂ blocks₂ page₂ v₂ a₂ views₂ in
    (forth reference uuid kind page₁.now page₂.now v₁ v₂ g h a b scratch₁ scratch₂, back reference uuid kind page₁.now page₂.now v₁ v₂ g h a b scratch₁ scratch₂)

-- what `next` hands out is the record at its step
given_by : (r : Records) (x : Option Step) (next : Option (Bor (List ℕ) × Bor (List ℕ))) (after : Records) → Stepped r x next after → step_found r.payload.now x ≡ handed_out next
given_by r (Some s) (Some p) after st = rw (st.key_is.bytes, st.value_is.bytes) refl
given_by r (Some s) None after st = absurd st
given_by r None (Some p) after st = absurd st
given_by r None None after st = refl

-- the first record of those that a lookup answers stands at the front of the part that it hands out
given_first : (payload : Bor (List ℕ)) (count : ℕ) (o : Option Floor) (floor : Option (ℕ × Records)) (next : Option (Bor (List ℕ) × Bor (List ℕ))) (after : Records)
    → Found payload (answer_of (length payload.now) count o) floor → GivenFirst floor next after → answer_found payload.now (answer_of (length payload.now) count o) ≡ handed_out next
given_first payload count (Some a) (Some r) next after f g =
    ap₂ first_of (sym (f.from.bytes ∙ part_from payload.now a.offset)) (sym f.remaining) ∙ given_by r.1 (next_record r.1.payload.now r.1.remaining) next after g
given_first payload count (Some a) None next after f g = absurd f
given_first payload count None (Some r) next after f g = absurd f
given_first payload count None None next after f g = ap handed_out (sym g)

pub lookup_is_handed_out : LookupIsHandedOut
lookup_is_handed_out view key scratch floor next after f g = given_first view.payload view.count (floor_at view.payload.now view.count key (length scratch)) floor next after f g
