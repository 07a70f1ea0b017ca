-- An empty leaf is accepted, and its lookups find none.
use mathlib.Core.Path.{◌≡◌, refl, sym, ap, ◌∙◌, subst}
use mathlib.Core.List.{List, [], flat_map, sum}
use mathlib.Core.List.Memᴰ.{not-nil as no_member}
use mathlib.Core.Bool.{Bool, true, false, cond}
use Prim.Native.Nat.{ℕ, ◌+◌, ◌-◌}
use lib.Dec.{ltb}
use native.Mathlib.Omega.{arith}
use lib.ListN.{length, take, drop, replicate}
use Rattle.std.specs.Prelude.{Option, None, Result, Ok}
use Rattle.error.specs.declared.Error.{Error}
use Rattle.error.specs.Answer.{check_class}
use Rattle.octets.specs.Bytes.{part}
use Rattle.octets.specs.Number.{u16_at}
use Rattle.lookup.specs.declared.Floor.{Floor}
use Rattle.lookup.specs.Floor.{floor_at, walk_floor, bisect, unbroken}
use Rattle.walk.specs.Entries.{Read}
use Rattle.walk.specs.Found.{nothing, lookup_in}
use Rattle.volume.specs.declared.TreeRef.{TreeRef}
use Rattle.volume.specs.declared.TreeKind.{TreeKind}
use Rattle.page.specs.declared.Page.{Page}
use Rattle.page.specs.declared.view.PageView.{PageView}
use Rattle.page.specs.Page.{accepted_page, decode_page}
use Rattle.page.specs.View.{IsView, Views}
use Rattle.pages.specs.Accept.{ContentHolds}
use Rattle.pages.specs.Agree.{lookup}
use Rattle.pages.specs.Empty.{EmptyLeaf, EmptyLeafIsAccepted}
use Rattle.pages.proofs.Accept.{page_exactly}

-- a payload of no bytes holds no entry
no_records : (payload : List ℕ) (count : ℕ) → payload ≡ [] → count ≡ 0 → Read payload count
unfolding flat_map
no_records payload count p c = record {
  entries = [];
  many = sym c;
  are = sym p;
  increasing = tt;
  fit = λ e m. absurd (no_member m);
}

module _ (reference : TreeRef) (uuid : List ℕ) (kind : TreeKind) (blocks : ℕ) (page : List ℕ) (h : EmptyLeaf page) where
  empty_payload : part page 80 (u16_at page 34) ≡ []
  empty_payload = ap (λ (n : ℕ). take n (drop 80 page)) h.payload_length

  empty_content : ContentHolds kind blocks page
  unfolding no_records sum
  empty_content = record {
    leaf = λ _. record {
      read = no_records (part page 80 (u16_at page 34)) (u16_at page 32) empty_payload h.count;
      hold = λ e m. absurd (no_member m);
      total_is = omega (arith, h.total);
    };
    internal = λ p. absurd (omega (arith, p, h.leaf));
    padding = ap (λ (n : ℕ). drop (80 + n) page) h.payload_length ∙ h.zeros ∙ sym (ap (λ (n : ℕ). replicate (4016 - n) 0) h.payload_length);
  }

-- of no records the walk and the halving find none
no_floor : (payload key : List ℕ) (entries : ℕ) → floor_at payload 0 key entries ≡ None
unfolding floor_at walk_floor bisect unbroken
no_floor payload key entries = go (ltb 65535 (length payload)) (ltb entries 0)
  where
    go : (a b : Bool) → ◌≡◌ {A = Option Floor} (cond a None (cond b None None)) None
    go true b = refl
    go false true = refl
    go false false = refl

nothing_found : (payload key scratch : List ℕ) (count : ℕ) → count ≡ 0 → lookup_in payload count key scratch ≡ nothing
nothing_found payload key scratch count e = rw (e, no_floor payload key (length scratch)) refl

pub empty_leaf_is_accepted : EmptyLeafIsAccepted
empty_leaf_is_accepted reference uuid kind parent_generation expected_level blocks page bytes caller header empty = (ap check_class answer, finds)
  where
    answer : decode_page reference uuid kind parent_generation expected_level blocks page.now ≡ Ok (accepted_page page.now)
    answer = (page_exactly reference uuid kind parent_generation expected_level blocks page.now (accepted_page page.now) bytes).1
        (record { caller = caller; header = header; content = empty_content reference uuid kind blocks page.now empty }, record { level = refl; total = refl; count = refl; start = refl; end = refl })

    finds : (view : PageView) → Views page (decode_page reference uuid kind parent_generation expected_level blocks page.now) (Ok view) → (key scratch : List ℕ) → lookup view key scratch ≡ nothing
    finds view views key scratch =
        let w : IsView page (accepted_page page.now) view = subst (λ (x : Result Page Error). Views page x (Ok view)) answer views in
        nothing_found view.payload.now key scratch view.count (w.count ∙ empty.count)
