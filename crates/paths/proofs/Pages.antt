-- What is known of an accepted page, and what follows from its keys.
use mathlib.Core.Path.{◌≡◌, refl, ap, ap₂, ◌∙◌}
use Prim.Native.Nat.{ℕ, zero, suc, ◌+◌, ◌*◌, ◌≤◌, ◌<◌}
use native.Mathlib.Omega.{arith}
use borrow.Author.Tests.{eq-eqb, ne_eqb}
use Rattle.std.specs.Prelude.{Option, Some, None, Ok, Err}
use Rattle.std.specs.declared.cmp.Ordering.TheVariants.{Greater}
use Rattle.error.specs.declared.Error.TheVariants.{Added}
use Rattle.error.specs.declared.Class.TheVariants.{OutOfBounds}
use Rattle.octets.specs.Bytes.{Bytes}
use Rattle.octets.specs.Order.{order}
use Rattle.octets.proofs.Below.{every_all, every_false}
use Rattle.octets.proofs.Digits.{bytes_part}
use Rattle.octets.proofs.OrderLaws.{above_trans, greater_of}
use Rattle.page.specs.declared.Page.{Page}
use Rattle.search.specs.declared.Found.{Found}
use Rattle.search.specs.Search.{Sought, Under, in_bounds, block_at, page_of, records_of, with_key, floor_of, found_at, Turn, ends, goes, onward, searched}
use Rattle.search.proofs.Accepted.{AcceptedIs, accepted_is}
use Rattle.paths.specs.Paths.{key_in, InBounds, Accepted, Sound, IsFloorIn, below_in, place_in}
use Rattle.paths.proofs.Bounds.{is_in_bounds, is_out_of_bounds, is_above, is_not_above, not_above_is}
use Rattle.paths.proofs.Records.{with_key_at, with_key_none, FloorAt, floor_same}

module _ (s : Sought) (bytes : Bytes s.image) where
  -- ---- what is known of an accepted page
  page_bytes : (u : Under) → Bytes (page_of s u)
  unfolding block_at
  page_bytes u = bytes_part s.image (u.reference.block * 4096) 4096 bytes

  pub known : (u : Under) (p : Page) → Accepted s u p → AcceptedIs u.reference u.parent_generation u.expected_level (page_of s u) p
  known u p a = accepted_is u.reference s.uuid s.kind u.parent_generation u.expected_level s.blocks (page_of s u) p (page_bytes u) a.taken

  -- ---- what follows from its keys

  abbrev after : Under → Page → Turn
  after u p = onward (page_of s u) (records_of (page_of s u) p) p.level p.count u.upper (floor_of (records_of (page_of s u) p) s.key p.count)

  abbrev leaf_of : Under → Page → Option Found
  leaf_of u p = found_at (records_of (page_of s u) p) (u.reference.block * 4096 + p.start) (with_key (records_of (page_of s u) p) s.key p.count)

  pub at_outside : (u : Under) (p : Page) (k : ℕ) → k < p.count → (InBounds u (key_in s u p k) → ⊥) → searched s u p ≡ ends (Err (Added OutOfBounds))
  unfolding searched
  at_outside u p k l out = rw (every_false (λ k. in_bounds u.lower u.upper (key_in s u p k)) p.count k l (is_out_of_bounds u (key_in s u p k) out)) refl

  in_leaf : (u : Under) (p : Page) → Sound s u p → p.level ≡ 0 → searched s u p ≡ ends (Ok (leaf_of u p))
  unfolding searched
  in_leaf u p h z = rw (every_all (λ k. in_bounds u.lower u.upper (key_in s u p k)) p.count (λ k l. is_in_bounds u (key_in s u p k) (h.bounded k l)), eq-eqb p.level 0 z) refl

  in_internal : (u : Under) (p : Page) → Sound s u p → 1 ≤ p.level → searched s u p ≡ after u p
  unfolding searched
  in_internal u p h z = rw (every_all (λ k. in_bounds u.lower u.upper (key_in s u p k)) p.count (λ k l. is_in_bounds u (key_in s u p k) (h.bounded k l)), ne_eqb p.level 0 (λ e. omega arith)) refl

  pub at_found : (u : Under) (p : Page) (k : ℕ) → Sound s u p → p.level ≡ 0 → k < p.count → key_in s u p k ≡ s.key → searched s u p ≡ ends (Ok (Some (place_in s u p k)))
  at_found u p k h z l e =
      let a = known u p h.accepted in
      in_leaf u p h z
      ∙ ap₂ (λ (b : ℕ) (o : Option ℕ). ends (Ok (found_at (records_of (page_of s u) p) (u.reference.block * 4096 + b) o))) a.start (with_key_at (records_of (page_of s u) p) s.key p.count a.sorted k l e)

  pub at_not_in_leaf : (u : Under) (p : Page) → Sound s u p → p.level ≡ 0 → ((k : ℕ) → k < p.count → key_in s u p k ≡ s.key → ⊥) → searched s u p ≡ ends (Ok None)
  at_not_in_leaf u p h z none =
      in_leaf u p h z ∙ ap (λ (o : Option ℕ). ends (Ok (found_at (records_of (page_of s u) p) (u.reference.block * 4096 + p.start) o))) (with_key_none (records_of (page_of s u) p) s.key p.count none)

  pub at_floor : (u : Under) (p : Page) (k : ℕ) → Sound s u p → 1 ≤ p.level → IsFloorIn s u p k → searched s u p ≡ goes (below_in s u p k)
  at_floor u p k h l f =
      let at : FloorAt (records_of (page_of s u) p) s.key p.count (Some k) =
      (f.there, is_not_above (key_in s u p k) s.key f.not_above, λ j m n. is_above (key_in s u p j) s.key (f.later j m n)) in
      in_internal u p h l ∙ ap (onward (page_of s u) (records_of (page_of s u) p) p.level p.count u.upper) (floor_same (records_of (page_of s u) p) s.key p.count (Some k) at)

  -- a key above the sought one has only such behind it
  all_above : (u : Under) (p : Page) → Accepted s u p → order (key_in s u p 0) s.key ≡ Greater → (j : ℕ) → j < p.count → order (key_in s u p j) s.key ≡ Greater
  all_above u p a e zero l = e
  all_above u p a e (suc j) l = above_trans (key_in s u p 0) (key_in s u p (suc j)) s.key ((known u p a).sorted.increasing 0 (suc j) (omega arith) l) e

  pub at_below_first : (u : Under) (p : Page) → Sound s u p → 1 ≤ p.level → order (key_in s u p 0) s.key ≡ Greater → searched s u p ≡ ends (Ok None)
  at_below_first u p h l e =
      let at : FloorAt (records_of (page_of s u) p) s.key p.count None = λ j m. is_above (key_in s u p j) s.key (all_above u p h.accepted e j m) in
      in_internal u p h l ∙ ap (onward (page_of s u) (records_of (page_of s u) p) p.level p.count u.upper) (floor_same (records_of (page_of s u) p) s.key p.count None at)

  -- its floor record, or every key is above the sought one
  pub floor_in : (u : Under) (p : Page) (k : ℕ) → FloorAt (records_of (page_of s u) p) s.key p.count (Some k) → IsFloorIn s u p k
  floor_in u p k h = record {
    there = h.0;
    not_above = not_above_is (key_in s u p k) s.key h.1;
    later = λ j l m. greater_of (order (key_in s u p j) s.key) (h.2 j l m);
  }
