-- The classes of a search: those of a page, 7 and 8.
use mathlib.Core.Path.{◌≡◌, refl, sym, ap, ◌∙◌}
use mathlib.Core.Bool.{Bool, true, false, ◌||◌, cond, true≢false}
use mathlib.Core.Logic.{◌⊎◌, inl, inr}
use mathlib.Core.List.{List}
use Prim.Native.Nat.{ℕ, zero, suc, ◌+◌, ◌*◌, ◌≤◌}
use native.Mathlib.Omega.{arith}
use borrow.Author.Tests.{eqb-true}
use lib.Dec.{eqb}
use Rattle.std.specs.Prelude.{Option, Some, None, Result, Ok, Err}
use Rattle.std.proofs.lemmas.Bool.{or_cases}
use Rattle.error.specs.declared.Error.{Error}
use Rattle.error.specs.declared.Error.TheVariants.{Added}
use Rattle.error.specs.declared.Class.TheVariants.{BeyondImage, OutOfBounds}
use Rattle.error.specs.Answer.{class_of, check_class, check_reason}
use Rattle.error.specs.Demand.{outcome}
use Rattle.error.proofs.Tests.{and_left}
use Rattle.volume.specs.declared.TreeKind.{TreeKind}
use Rattle.walk.specs.Records.{is_one_of}
use Rattle.page.specs.declared.Page.{Page}
use Rattle.page.specs.Page.{decode_page}
use Rattle.root.specs.declared.Root.{Root}
use Rattle.search.specs.declared.Searches.{Searches}
use Rattle.search.specs.Search.{Sought, Under, in_image, page_of, records_of, read_page, keys_in_bounds, with_key, found_at, floor_of, Turn, ends, goes, onward, searched, follow, counted, descend, sought, top, search}
use Rattle.paths.specs.Exactly.{OwnClasses}
use Rattle.claims.specs.Classes.{page_classes, search_classes}
use Rattle.claims.proofs.Answers.{demand_1}

-- ---- a page's classes

-- one of them, by its number
page_class : (n : ℕ) → is_one_of n page_classes ≡ true → (is_one_of n search_classes ≡ true) × (n ≤ 4)
page_class n e = go (or_cases (eqb 0 n) _ e)
  where
    named : (m : ℕ) → is_one_of m search_classes ≡ true → m ≤ 4 → eqb m n ≡ true → (is_one_of n search_classes ≡ true) × (n ≤ 4)
    named m i l q = let z : m ≡ n = eqb-true m n q in (ap (λ (x : ℕ). is_one_of x search_classes) (sym z) ∙ i, omega arith)

    last : (eqb 3 n ≡ true) ⊎ ((eqb 4 n || false) ≡ true) → (is_one_of n search_classes ≡ true) × (n ≤ 4)
    last (inl q) = named 3 refl (omega arith) q
    last (inr q) = by (or_cases (eqb 4 n) false q)
      where
        by : (eqb 4 n ≡ true) ⊎ (false ≡ true) → (is_one_of n search_classes ≡ true) × (n ≤ 4)
        by (inl q) = named 4 refl (omega arith) q
        by (inr q) = absurd (true≢false (sym q))

    later : (eqb 2 n ≡ true) ⊎ ((eqb 3 n || (eqb 4 n || false)) ≡ true) → (is_one_of n search_classes ≡ true) × (n ≤ 4)
    later (inl q) = named 2 refl (omega arith) q
    later (inr q) = last (or_cases (eqb 3 n) _ q)

    go : (eqb 0 n ≡ true) ⊎ ((eqb 2 n || (eqb 3 n || (eqb 4 n || false))) ≡ true) → (is_one_of n search_classes ≡ true) × (n ≤ 4)
    go (inl q) = named 0 refl (omega arith) q
    go (inr q) = later (or_cases (eqb 2 n) _ q)

pub own_classes : OwnClasses
own_classes reference uuid kind parent_generation expected_level blocks page e q =
    let told = (demand_1.page reference uuid kind parent_generation expected_level blocks page).told in
    let one : is_one_of (class_of e) page_classes ≡ true = ap (λ (r : Result Page Error). is_one_of (check_class r) page_classes) (sym q) ∙ and_left _ _ told in
    omega (arith, (page_class (class_of e) one).1)

-- ---- a search's

-- one of its classes, and reason 0 from 7 up
abbrev Told : {A : Type 0} → Result A Error → Type 0
Told r = (is_one_of (check_class r) search_classes ≡ true) × (7 ≤ check_class r → check_reason r ≡ 0)

read_told : (s : Sought) (u : Under) → Told (read_page s u)
unfolding read_page outcome
read_told s u = go (in_image s.image u.reference.block)
  where
    r : Result Page Error
    r = decode_page u.reference s.uuid s.kind u.parent_generation u.expected_level s.blocks (page_of s u)

    go : (b : Bool) → Told (cond b r (Err (Added BeyondImage)))
    go true =
        let c = page_class (check_class r) (and_left _ _ (demand_1.page u.reference s.uuid s.kind u.parent_generation u.expected_level s.blocks (page_of s u)).told) in
        (c.0, λ l. absurd (omega (arith, c.1)))
    go false = (refl, λ l. refl)

abbrev TurnTold : Turn → Type 0
TurnTold (ends answer) = Told answer
TurnTold (goes u) = Unit

turn_told : (s : Sought) (u : Under) (p : Page) → TurnTold (searched s u p)
unfolding searched
turn_told s u p = go (keys_in_bounds payload p.count u.lower u.upper) (eqb p.level 0) (floor_of payload s.key p.count)
  where
    payload : List ℕ
    payload = records_of (page_of s u) p

    go : (a b : Bool) (o : Option ℕ) → TurnTold (cond a (cond b (ends (Ok (found_at payload (u.reference.block * 4096 + p.start) (with_key payload s.key p.count)))) (onward (page_of s u) payload p.level p.count u.upper o)) (ends (Err (Added OutOfBounds))))
    go true true o = (refl, λ l. refl)
    go true false (Some k) = tt
    go true false None = (refl, λ l. refl)
    go false b o = (refl, λ l. refl)

descend_told : (s : Sought) (pages : ℕ) (u : Under) (n : ℕ) → Told (descend s pages u n).0
unfolding descend
descend_told s zero u n = (refl, λ l. refl)
descend_told s (suc pages) u n = go (read_page s u) (read_told s u) (λ v m. descend_told s pages v m)
  where
    turned : ((v : Under) (m : ℕ) → Told (descend s pages v m).0) → (t : Turn) → TurnTold t → Told (follow (λ v. descend s pages v (n + 1)) (n + 1) t).0
    turned rest (ends answer) h = h
    turned rest (goes v) h = rest v (n + 1)

    go : (r : Result Page Error) → Told r → ((v : Under) (m : ℕ) → Told (descend s pages v m).0) → Told (counted s (λ v m. descend s pages v m) u n r).0
    go (Ok p) h rest = turned rest (searched s u p) (turn_told s u p)
    go (Err e) h rest = h

pub search_told : (image : List ℕ) (root : Root) (kind : TreeKind) (key : List ℕ) (state : Searches) → Told (search image root kind key state).answer
unfolding search
search_told image root kind key state = descend_told (sought image root kind key) 8 (top root kind) 0
