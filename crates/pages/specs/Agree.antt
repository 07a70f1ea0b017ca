-- Demand 3 for pages (01, "What demand 3 compares"): two accepted pages agree in all 4,096 bytes exactly when level, total and all lookups on the returned
-- views agree.
use Rattle.std.specs.Prelude.{ℕ, ◌≡◌, ◌↔◌, List, length, Option, Some, None, Ok}
use Rattle.std.specs.Borrow.{Bor}
use Rattle.error.specs.Answer.{check_class}
use Rattle.octets.specs.Bytes.{Bytes}
use Rattle.lookup.specs.Floor.{floor_answer, next_record}
use Rattle.walk.specs.Found.{Finding, found, nothing, lookup_in}
use Rattle.volume.specs.declared.TreeRef.{TreeRef}
use Rattle.volume.specs.declared.TreeKind.{TreeKind}
use Rattle.page.specs.declared.view.PageView.{PageView}
use Rattle.page.specs.declared.view.Records.{Records}
use Rattle.page.specs.Page.{decode_page}
use Rattle.page.specs.View.{Views, Found, Stepped}

-- 01, section 7 and "What demand 3 compares": the lookup of a key on a view, lent a scratch: the key and value of the first record that it answers, or nothing
abbrev pub lookup : PageView → List ℕ → List ℕ → Finding
lookup view key scratch = lookup_in view.payload.now view.count key scratch

-- accepted as in demand 2: `decode_page` answers class 0 on the bytes, with the call's arguments
pub record Accepted (reference : TreeRef) (uuid : List ℕ) (kind : TreeKind) (parent_generation : ℕ) (expected_level : Option ℕ) (blocks : ℕ) (page : List ℕ) : Type 0 where
  pub bytes : Bytes page
  pub passed : check_class (decode_page reference uuid kind parent_generation expected_level blocks page) ≡ 0

-- 01, "What demand 3 compares": two views agree in level, total, and what the lookup of every byte string finds, or that it finds none; each lookup has a scratch of its own
pub record Same (v w : PageView) (scratch₁ scratch₂ : List ℕ → List ℕ) : Type 0 where
  pub level_same : v.level ≡ w.level
  pub total_same : v.data_blocks ≡ w.data_blocks
  pub found_same : (key : List ℕ) → Bytes key → lookup v key (scratch₁ key) ≡ lookup w key (scratch₂ key)

-- v₁ and v₂ are what `decode_page` returns on two pages of one reference, UUID and tree kind (the other arguments may differ); whatever the scratch
abbrev pub PagesAgree : Type 0
PagesAgree =
    (reference : TreeRef) (uuid : List ℕ) (kind : TreeKind)
    (parent₁ parent₂ : ℕ) (expected₁ expected₂ : Option ℕ) (blocks₁ blocks₂ : ℕ) (page₁ page₂ : Bor (List ℕ)) (v₁ v₂ : PageView)
    → Accepted reference uuid kind parent₁ expected₁ blocks₁ page₁.now → Views page₁ (decode_page reference uuid kind parent₁ expected₁ blocks₁ page₁.now) (Ok v₁)
    → Accepted reference uuid kind parent₂ expected₂ blocks₂ page₂.now → Views page₂ (decode_page reference uuid kind parent₂ expected₂ blocks₂ page₂.now) (Ok v₂)
    → (scratch₁ scratch₂ : List ℕ → List ℕ) → (page₁.now ≡ page₂.now) ↔ Same v₁ v₂ scratch₁ scratch₂

-- 01, "What demand 3 compares": the record that `next` hands out, or nothing
abbrev pub handed_out : Option (Bor (List ℕ) × Bor (List ℕ)) → Finding
handed_out (Some r) = found r.0.now r.1.now
handed_out None = nothing

-- 01, "What demand 3 compares": what `next` gives first of the records of a floor record; without one there is nothing to give
abbrev pub GivenFirst : Option (ℕ × Records) → Option (Bor (List ℕ) × Bor (List ℕ)) → Records → Type 0
GivenFirst (Some f) next after = Stepped f.1 (next_record f.1.payload.now f.1.remaining) next after
GivenFirst None next after = next ≡ None

-- what demand 3 compares is what the calls hand out: the lookup of a key finds the record that `next` gives first of those that `floor_record` answers
abbrev pub LookupIsHandedOut : Type 0
LookupIsHandedOut =
    (view : PageView) (key scratch : List ℕ) (floor : Option (ℕ × Records)) (next : Option (Bor (List ℕ) × Bor (List ℕ))) (after : Records)
    → Found view.payload (floor_answer view.payload.now view.count key (length scratch)) floor
    → GivenFirst floor next after
    → lookup view key scratch ≡ handed_out next
