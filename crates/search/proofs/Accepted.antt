-- What an accepted page is known to hold.
use mathlib.Core.Path.{◌≡◌, sym, ap, ap₂, ◌∙◌, subst}
use mathlib.Core.Logic.{inl, inr}
use mathlib.Core.List.{List, [], ◌∷◌, flat_map}
use Prim.Native.Nat.{ℕ, ◌+◌, ◌-◌, ◌*◌, ◌≤◌, ◌<◌}
use native.Mathlib.Omega.{arith}
use lib.ListN.{length, get_or, length-append}
use Rattle.std.specs.Prelude.{Option, Some, Ok}
use Rattle.octets.specs.Bytes.{byte_at, part, Bytes}
use Rattle.octets.specs.Number.{u64_at}
use Rattle.octets.proofs.Join.{part_length}
use Rattle.volume.specs.declared.TreeRef.{TreeRef}
use Rattle.volume.specs.declared.TreeKind.{TreeKind}
use Rattle.lookup.specs.Sorted.{Sorted}
use Rattle.walk.specs.Entries.{Entry, stored, end_to_end, Read}
use Rattle.walk.proofs.Lists.{among_at}
use Rattle.walk.proofs.Stored.{stored_length}
use Rattle.walk.proofs.Found.{none, value_at_lem, laid_sorted}
use Rattle.page.specs.declared.Page.{Page}
use Rattle.page.specs.Header.{level as level_of, generation, count, payload_length}
use Rattle.page.specs.Page.{decode_page}
use Rattle.pages.specs.Accept.{LeafOrInternal, PageHolds, PageStates}
use Rattle.pages.proofs.Accept.{page_exactly}
use Rattle.pages.proofs.Agree.{read_of}
use Rattle.search.specs.Search.{records_of, value_at}

-- 01, sections 4 and 5: where its payload stands, how its records lie in it, its level, and its children
pub record AcceptedIs (reference : TreeRef) (parent_generation : ℕ) (expected_level : Option ℕ) (page : List ℕ) (p : Page) : Type 0 where
  -- its payload
  pub size : length page ≡ 4096
  pub start : p.start ≡ 80
  pub end : p.end ≡ 80 + payload_length page
  pub fits : p.end ≤ 4096
  -- the records in it: four bytes at least, each
  pub long : length (records_of page p) ≡ p.end - p.start
  pub sorted : Sorted (records_of page p) p.count
  pub few : p.count ≤ 1004
  pub count_is : p.count ≡ count page
  -- its level
  pub level : p.level ≤ 7
  pub level_is : p.level ≡ level_of page
  pub expected : (n : ℕ) → expected_level ≡ Some n → p.level ≡ n
  -- an internal page has two children at least
  pub children : 1 ≤ p.level → 2 ≤ p.count
  -- generations: its parent's, its own and those of its children
  pub generation_is : generation page ≡ reference.generation
  pub dated : 1 ≤ reference.generation
  pub not_newer : reference.generation ≤ parent_generation
  pub older : 1 ≤ p.level → (k : ℕ) → k < p.count → u64_at (value_at (records_of page p) k) 8 ≤ generation page

-- ---- entries laid end to end

-- four bytes a record, and more
long_enough : (es : List Entry) → 4 * length es ≤ length (end_to_end es)
unfolding flat_map
long_enough [] = omega arith
long_enough (e ∷ es) = omega (arith, long_enough es, stored_length e, length-append (stored e) (end_to_end es))

-- what a walk has read is sorted
read_sorted : (payload : List ℕ) (n : ℕ) → Read payload n → Sorted payload n
read_sorted payload n r =
    subst (λ (s : List ℕ). Sorted s n) r.are (subst (λ (m : ℕ). Sorted (end_to_end r.entries) m) r.many (laid_sorted r.entries r.fit r.increasing))

-- ---- the page

module _ (reference : TreeRef) (uuid : List ℕ) (kind : TreeKind) (parent_generation : ℕ) (expected_level : Option ℕ) (blocks : ℕ) (page : List ℕ) (p : Page)
    (holds : PageHolds reference uuid kind parent_generation expected_level blocks page) (states : PageStates page p) where
  abbrev payload : List ℕ
  payload = part page 80 (payload_length page)

  reads : Read payload (count page)
  reads = read_of kind blocks page holds.header.level.kind holds.content

  payload_long : length payload ≡ payload_length page
  payload_long = part_length page 80 (payload_length page) (omega (arith, holds.caller.size, holds.header.payload_fits))

  records_are : payload ≡ records_of page p
  records_are = ap₂ (λ (m n : ℕ). part page m n) (sym states.start) width
    where
      width : payload_length page ≡ p.end - p.start
      width = omega (arith, states.end, states.start)

  few_records : count page ≤ 1004
  few_records = omega (arith, long_enough reads.entries, ap length reads.are, payload_long, reads.many, holds.header.payload_fits)

  low : level_of page ≤ 7
  low = go holds.header.level.kind
    where
      go : LeafOrInternal page → level_of page ≤ 7
      go (inl e) = omega (arith, e.1)
      go (inr e) = e.2

  is_internal : 1 ≤ level_of page → byte_at page 12 ≡ 2
  is_internal l = go holds.header.level.kind
    where
      go : LeafOrInternal page → byte_at page 12 ≡ 2
      go (inl e) = absurd (omega (arith, e.1))
      go (inr e) = e.0

  -- READING-RULES 14: no child is newer than its page
  child_older : 1 ≤ level_of page → (k : ℕ) → k < count page → u64_at (value_at payload k) 8 ≤ generation page
  child_older l k m =
      let r = (holds.content.internal (is_internal l)).0 in
      let es : List Entry = r.read.entries in
      let there : k < length es = omega (arith, r.read.many) in
      let value : value_at payload k ≡ (get_or es k none).value = ap (λ (s : List ℕ). value_at s k) (sym r.read.are) ∙ value_at_lem es r.read.fit k there in
      subst (λ (v : List ℕ). u64_at v 8 ≤ generation page) (sym value) (r.hold (get_or es k none) (among_at es k none there)).not_newer

  is_accepted : AcceptedIs reference parent_generation expected_level page p
  is_accepted = record {
    size = holds.caller.size;
    start = states.start;
    end = states.end;
    fits = omega (arith, states.end, holds.header.payload_fits);
    long = ap length (sym records_are) ∙ payload_long ∙ omega (arith, states.end, states.start);
    sorted = subst (λ (s : List ℕ). Sorted s p.count) records_are (subst (λ (n : ℕ). Sorted payload n) (sym states.count) (read_sorted payload (count page) reads));
    few = omega (arith, states.count, few_records);
    count_is = states.count;
    level = omega (arith, states.level, low);
    level_is = states.level;
    expected = λ n e. states.level ∙ holds.header.level.expected n e;
    children = λ l. omega (arith, states.count, (holds.content.internal (is_internal (omega (arith, states.level)))).1);
    generation_is = holds.header.generation;
    dated = holds.caller.place.generation;
    not_newer = holds.caller.not_newer;
    older = λ l k m. subst (λ (s : List ℕ). u64_at (value_at s k) 8 ≤ generation page) records_are (child_older (omega (arith, states.level)) k (omega (arith, states.count)));
  }

pub accepted_is : (reference : TreeRef) (uuid : List ℕ) (kind : TreeKind) (parent_generation : ℕ) (expected_level : Option ℕ) (blocks : ℕ) (page : List ℕ) (p : Page)
    → Bytes page → decode_page reference uuid kind parent_generation expected_level blocks page ≡ Ok p → AcceptedIs reference parent_generation expected_level page p
accepted_is reference uuid kind parent_generation expected_level blocks page p bytes e =
    let h = (page_exactly reference uuid kind parent_generation expected_level blocks page p bytes).0 e in
    is_accepted reference uuid kind parent_generation expected_level blocks page p h.0 h.1
