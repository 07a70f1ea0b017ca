-- Each page is asked for as Ticket 1 says.
use mathlib.Core.Path.{◌≡◌, refl, sym, ap, ap₂, ◌∙◌, subst}
use mathlib.Core.Bool.{Bool, cond}
use mathlib.Core.Logic.{◌↔◌}
use mathlib.Core.List.{List, [], ◌∷◌, ◌++◌, flat_map, Memᴰ as Among}
use Prim.Native.Nat.{ℕ, zero, suc, ◌+◌, ◌-◌, ◌*◌, ◌≤◌, ◌<◌}
use native.Mathlib.Omega.{arith}
use native.Mathlib.Decide.{dec_lt}
use borrow.Author.Tests.{lt-ltb, le-ltb}
use lib.Dec.{ltb}
use lib.ListN.{length, get_or, take, drop, length-append}
use lib.Seq.{take-suc}
use Rattle.std.proofs.lemmas.Grind.{flat_map-append}
use Rattle.std.specs.Prelude.{Option, Some, None}
use Rattle.std.specs.declared.cmp.Ordering.TheVariants.{Less}
use Rattle.octets.specs.Bytes.{Bytes, part}
use Rattle.octets.specs.Number.{u16_at}
use Rattle.octets.specs.Order.{order}
use Rattle.octets.proofs.Digits.{bytes_part}
use Rattle.octets.proofs.OrderLaws.{order_trans}
use Rattle.volume.specs.declared.TreeKind.{TreeKind}
use Rattle.lookup.specs.Record.{split_record, size_of, key_len, value_len}
use Rattle.lookup.specs.Sorted.{offset_of, key_at}
use Rattle.walk.specs.Entries.{Entry, stored, end_to_end, Fit, Read}
use Rattle.walk.proofs.Stored.{stored_length, key_read, value_read, split_stored}
use Rattle.walk.proofs.Found.{none, small_at, at_laid, key_at_lem, value_at_lem}
use Rattle.page.specs.declared.Page.{Page}
use Rattle.root.specs.declared.Root.{Root}
use Rattle.pages.proofs.Accept.{page_exactly}
use Rattle.search.specs.Search.{Sought, Under, block_at, page_of, records_of, value_at, place_of, below, sought, top}
use Rattle.search.proofs.Bounds.{empty_below}
use Rattle.paths.specs.Paths.{key_in, NotAbove, BelowUpper, InBounds, Accepted, Sound, below_in, place_in}
use Rattle.paths.specs.Steps.{FirstIs, ChildIs, AcceptedAs01, entry, StandsAt, Steps}
use Rattle.paths.proofs.Bounds.{not_above_is, low_trans}
use Rattle.paths.proofs.Pages.{known}

first_is : (root : Root) (kind : TreeKind) → FirstIs root (top root kind)
first_is root kind = record { parent = refl; level = refl; bounds = λ key. (not_above_is [] key (sym (empty_below key)), tt) }

-- ---- the bounds below a record

-- what is below a key that is below the upper bound is below it too
upper_up : (upper : Option (List ℕ)) (next key : List ℕ) → BelowUpper upper next → order key next ≡ Less → BelowUpper upper key
upper_up None next key p q = tt
upper_up (Some bound) next key p q = order_trans key next bound q p

module _ (s : Sought) (bytes : Bytes s.image) (u : Under) (p : Page) (k : ℕ) (h : Sound s u p) (l : k < p.count) (x : List ℕ) where
  abbrev Upper : Bool → Type 0
  Upper b = BelowUpper (cond b (Some (key_in s u p (k + 1))) u.upper) x

  abbrev Bounds : Type 0
  Bounds = NotAbove (key_in s u p k) x × (k + 1 < p.count → order x (key_in s u p (k + 1)) ≡ Less) × InBounds u x

  there : InBounds (below_in s u p k) x → Bounds
  unfolding below
  there e = (e.0, next, (low_trans u.lower (key_in s u p k) x (h.bounded k l).0 e.0, go (dec_lt (k + 1) p.count)))
    where
      next : k + 1 < p.count → order x (key_in s u p (k + 1)) ≡ Less
      next m = subst Upper (lt-ltb (k + 1) p.count m) e.1

      go : Dec (k + 1 < p.count) → BelowUpper u.upper x
      go (yes m) = upper_up u.upper (key_in s u p (k + 1)) x (h.bounded (k + 1) m).1 (next m)
      go (no m) = subst Upper (le-ltb (k + 1) p.count (omega arith)) e.1

  back : Bounds → InBounds (below_in s u p k) x
  unfolding below
  back e = (e.0, go (dec_lt (k + 1) p.count))
    where
      go : Dec (k + 1 < p.count) → Upper (ltb (k + 1) p.count)
      go (yes m) = subst Upper (sym (lt-ltb (k + 1) p.count m)) (e.1 m)
      go (no m) = subst Upper (sym (le-ltb (k + 1) p.count (omega arith))) e.2.1

  pub bounds_below : InBounds (below_in s u p k) x ↔ Bounds
  bounds_below = (there, back)

child_is : (s : Sought) (u : Under) (p : Page) (k : ℕ) → Bytes s.image → Sound s u p → 1 ≤ p.level → k < p.count → ChildIs s u p k (below_in s u p k)
unfolding below
child_is s u p k bytes h i l = record {
  block = refl;
  generation = refl;
  parent = refl;
  level = (p.level - 1, refl, omega (arith, (known s bytes u p h.accepted).level_is));
  bounds = λ x. bounds_below s bytes u p k h l x;
}

-- ---- an accepted page, and its records

accepted_as : (image : List ℕ) (root : Root) (kind : TreeKind) (key : List ℕ) (u : Under) (p : Page) → Bytes image → Accepted (sought image root kind key) u p ↔ AcceptedAs01 image root kind u p
unfolding block_at
accepted_as image root kind key u p bytes =
    let exactly = page_exactly u.reference root.uuid kind u.parent_generation u.expected_level root.blocks (part image (u.reference.block * 4096) 4096) p (bytes_part image (u.reference.block * 4096) 4096 bytes) in (
      λ a. let h = exactly.0 a.taken in record { inside = a.inside; holds = h.0; states = h.1 },
      λ a. record { inside = a.inside; taken = exactly.1 (a.holds, a.states) },
    )

laid_in : (s : Sought) (u : Under) (p : Page) (read : Read (part (page_of s u) 80 (u16_at (page_of s u) 34)) (u16_at (page_of s u) 32))
    → Bytes s.image → Accepted s u p → end_to_end read.entries ≡ records_of (page_of s u) p
laid_in s u p read bytes a =
    let h = known s bytes u p a in
    let width : u16_at (page_of s u) 34 ≡ p.end - p.start = omega (arith, h.start, h.end) in
    read.are ∙ ap₂ (λ (o n : ℕ). part (page_of s u) o n) (sym h.start) width

records_are : (s : Sought) (u : Under) (p : Page) (read : Read (part (page_of s u) 80 (u16_at (page_of s u) 34)) (u16_at (page_of s u) 32)) (k : ℕ)
    → Bytes s.image → Accepted s u p → k < p.count → get_or read.entries k (entry [] []) ≡ entry (key_in s u p k) (value_at (records_of (page_of s u) p) k)
records_are s u p read k bytes a l =
    let same = laid_in s u p read bytes a in
    let there : k < length read.entries = omega (arith, read.many, (known s bytes u p a).count_is) in
    ap₂ entry (sym (key_at_lem read.entries read.fit k there) ∙ ap (λ (r : List ℕ). key_at r k) same) (sym (value_at_lem read.entries read.fit k there) ∙ ap (λ (r : List ℕ). value_at r k) same)

-- ---- where a record stands

module _ (es : List Entry) (fit : (e : Entry) → Among e es → Fit e) where
  -- behind those before it
  offset_laid : (k : ℕ) → k ≤ length es → offset_of (end_to_end es) k ≡ length (end_to_end (take k es))
  unfolding offset_of flat_map
  offset_laid zero l = refl
  offset_laid (suc k) l =
      let e : Entry = get_or es k none in
      let o : ℕ = offset_of (end_to_end es) k in
      let z : size_of (split_record (drop o (end_to_end es))) ≡ 4 + length e.key + length e.value
      = ap (λ (s : List ℕ). size_of (split_record s)) (at_laid es fit k (omega arith)) ∙ ap size_of (split_stored e (end_to_end (drop (suc k) es)) (small_at es fit k (omega arith))) in
      let t : end_to_end (take (suc k) es) ≡ end_to_end (take k es) ++ end_to_end (e ∷ []) = ap end_to_end (take-suc es k none (omega arith)) ∙ flat_map-append stored (take k es) (e ∷ []) in
      omega (arith, z, ap length t, length-append (end_to_end (take k es)) (end_to_end (e ∷ [])), length-append (stored e) [], stored_length e, offset_laid k (omega arith))

  stands_laid : (u : Under) (k : ℕ) → k < length es → StandsAt u es k (place_of (end_to_end es) (u.reference.block * 4096 + 80) k)
  unfolding place_of
  stands_laid u k l =
      let e : Entry = get_or es k none in
      let key_long = ap key_len (at_laid es fit k l) ∙ key_read e (end_to_end (drop (suc k) es)) (small_at es fit k l) in
      let value_long = ap value_len (at_laid es fit k l) ∙ value_read e (end_to_end (drop (suc k) es)) (small_at es fit k l) in
      record {
        key_start = omega (arith, offset_laid k (omega arith));
        key_end = omega (arith, key_long);
        value_end = omega (arith, value_long);
      }

stands_at : (s : Sought) (u : Under) (p : Page) (read : Read (part (page_of s u) 80 (u16_at (page_of s u) 34)) (u16_at (page_of s u) 32)) (k : ℕ)
    → Bytes s.image → Accepted s u p → k < p.count → StandsAt u read.entries k (place_in s u p k)
stands_at s u p read k bytes a l =
    let there : k < length read.entries = omega (arith, read.many, (known s bytes u p a).count_is) in
    subst (λ (r : List ℕ). StandsAt u read.entries k (place_of r (u.reference.block * 4096 + 80) k)) (laid_in s u p read bytes a) (stands_laid read.entries read.fit u k there)

pub steps : Steps
steps = record { first = first_is; child = child_is; accepted = accepted_as; records = records_are; place = stands_at }
