-- An accepted page that is searched, by what the code has of it.
use mathlib.Core.Path.{◌≡◌, sym, ap, ap₂, ◌∙◌, subst}
use mathlib.Core.Bool.{Bool, true, false}
use mathlib.Core.List.{List, [], ◌++◌}
use Prim.Native.Nat.{ℕ, ◌+◌, ◌-◌, ◌≤◌}
use native.Mathlib.Omega.{arith}
use lib.ListN.{length, get_or, take, drop}
use borrow.Author.Tests.{eq-eqb, ne_eqb, le-ltb}
use Rattle.std.proofs.lemmas.List.{take_at}
use Rattle.std.proofs.Common.{Fits, w8}
use Rattle.std.specs.Prelude.{Option, Ok, Err}
use Rattle.error.specs.declared.Error.TheVariants.{Added}
use Rattle.error.specs.declared.Class.TheVariants.{OutOfBounds}
use Rattle.octets.specs.Bytes.{part}
use Rattle.lookup.specs.Floor.{written, unbroken, scratch_of, floor_answer}
use Rattle.lookup.specs.Sorted.{offset_of, Sorted}
use Rattle.lookup.specs.declared.Answer.{Answer}
use Rattle.lookup.proofs.FloorLaws.{written_length}
use Rattle.lookup.proofs.SortedLaws.{unbroken_all, offsets_are}
use Rattle.page.specs.declared.Page.{Page}
use Rattle.search.specs.declared.Found.{Found}
use Rattle.search.specs.Search.{Sought, Under, Turn, ends, page_of, records_of, found_at, with_key, floor_of, block_at, keys_in_bounds, searched, onward}
use Rattle.search.specs.Inside.{Stands, Opens}
use Rattle.search.proofs.Accepted.{AcceptedIs, accepted_is}
use Rattle.search.proofs.Places.{part_part}

-- ---- the records, at their place

module _ (s : Sought) (u : Under) (page : List ℕ) (start : ℕ) (p : Page) (o : Opens s u page start p) (bytes_fit : (i : ℕ) → Fits w8 (get_or page i 0)) where
  known : AcceptedIs u.reference u.parent_generation u.expected_level page p
  known = accepted_is u.reference s.uuid s.kind u.parent_generation u.expected_level s.blocks page p (record { below = λ i. (bytes_fit i).fits }) o.accepted

  pub opened_few : p.count ≤ 1004
  opened_few = known.few

  pub opened_base : start + p.start ≤ length s.image
  opened_base = omega (arith, known.start, o.fits)

  page_is : page ≡ part s.image start 4096
  unfolding block_at
  page_is = o.bytes ∙ ap (λ (n : ℕ). part s.image n 4096) (sym o.at)

  module _ (payload : List ℕ) (bytes : payload ≡ part page p.start (p.end - p.start)) (scratch new : List ℕ) (room : length scratch ≡ 1004) (filled : new ≡ scratch_of payload p.count scratch) where
    size : length payload ≡ p.end - p.start
    size = ap length bytes ∙ known.long

    sorted : Sorted payload p.count
    sorted = subst (λ (l : List ℕ). Sorted l p.count) (sym bytes) known.sorted

    unbroken_is : unbroken payload p.count 0 ≡ true
    unfolding offset_of
    unbroken_is = unbroken_all payload [] p.count sorted p.count 0 (omega arith)

    -- the offsets that were written
    offsets : take p.count new ≡ written payload p.count 0
    unfolding scratch_of
    offsets =
        let ws : List ℕ = written payload p.count 0 in
        let f : new ≡ ws ++ drop (length ws) scratch =
        rw (filled, le-ltb 65535 (length payload) (omega (arith, size, known.fits)), le-ltb (length scratch) p.count (omega (arith, room, known.few))) in
        ap (take p.count) f ∙ take_at ws (drop (length ws) scratch) p.count (written_length payload p.count 0 unbroken_is)

    many : length (take p.count new) ≡ p.count
    many = ap length offsets ∙ written_length payload p.count 0 unbroken_is

    pub opened_stands : Stands s.image payload (start + p.start) (take p.count new)
    opened_stands = record {
      bytes = bytes ∙ ap (λ (l : List ℕ). part l p.start (p.end - p.start)) page_is ∙ sym (part_part s.image start 4096 p.start (p.end - p.start) (omega (arith, known.start, known.fits)))
          ∙ ap (part s.image (start + p.start)) (sym size);
      fits = omega (arith, size, known.start, known.fits, o.fits);
      short = omega (arith, size, known.start, known.fits);
      sorted = subst (λ (n : ℕ). Sorted payload n) (sym many) sorted;
      offset = λ k l. ap (λ (w : List ℕ). get_or w k 0) offsets ∙ offsets_are payload [] p.count sorted k (omega (arith, many));
    }

    pub opened_floor : (key : List ℕ) (floor : Option Answer) → floor ≡ floor_answer payload p.count key (length scratch)
        → Stands s.image payload (start + p.start) (take p.count new) × (floor ≡ floor_answer payload (length (take p.count new)) key 1004)
    opened_floor key floor is = (opened_stands, is ∙ ap₂ (λ (m n : ℕ). floor_answer payload m key n) (sym many) room)

    -- ---- the turn

    here : payload ≡ records_of (page_of s u) p
    here = bytes ∙ ap (λ (l : List ℕ). part l p.start (p.end - p.start)) o.bytes

    module _ (b : Bool) (is : b ≡ keys_in_bounds payload (length (take p.count new)) u.lower u.upper) where
      within : keys_in_bounds (records_of (page_of s u) p) p.count u.lower u.upper ≡ b
      within = ap₂ (λ (l : List ℕ) (n : ℕ). keys_in_bounds l n u.lower u.upper) (sym here) (sym many) ∙ sym is

      pub searched_out : b ≡ false → ends (Err (Added OutOfBounds)) ≡ searched s u p
      unfolding searched
      searched_out e = rw (within, e)

      pub searched_leaf : b ≡ true → p.level ≡ 0 → (r : Option Found) → r ≡ found_at payload (start + p.start) (with_key payload s.key (length (take p.count new))) → ends (Ok r) ≡ searched s u p
      unfolding searched
      searched_leaf e z r f = rw (within, e, eq-eqb p.level 0 z, f, many, o.at, here)

      pub searched_on : b ≡ true → (p.level ≡ 0 → ⊥) → (t : Turn) → t ≡ onward page payload p.level (length (take p.count new)) u.upper (floor_of payload s.key (length (take p.count new)))
          → t ≡ searched s u p
      unfolding searched
      searched_on e z t f = rw (within, e, ne_eqb p.level 0 z, f, many, here, o.bytes)
