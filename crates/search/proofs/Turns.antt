-- What is found on an accepted page, as the code finds it: by the lookup's answer and places in the image.
use mathlib.Core.Path.{◌≡◌, sym, ap, ◌∙◌}
use mathlib.Core.Bool.{Bool, true, false}
use mathlib.Core.List.{List}
use Prim.Native.Nat.{ℕ, ◌+◌, ◌-◌, ◌≤◌, ◌<◌}
use native.Mathlib.Omega.{arith}
use lib.ListN.{length}
use Rattle.std.specs.Prelude.{Option, Some, None, Ok}
use borrow.Author.Tests.{lt-ltb, le-ltb}
use Rattle.octets.specs.Bytes.{part, same_bytes}
use Rattle.volume.specs.References.{ref_at}
use Rattle.volume.specs.declared.TreeRef.{TreeRef}
use Rattle.page.specs.Header.{generation}
use Rattle.lookup.specs.Floor.{floor_answer}
use Rattle.lookup.specs.Sorted.{key_at}
use Rattle.lookup.specs.declared.Answer.{Answer}
use Rattle.search.specs.declared.Found.{Found}
use Rattle.search.specs.declared.descent.Visit.TheVariants.{Goes}
use Rattle.search.specs.Search.{place_of, found_at, value_at, with_key, floor_of, ends, upper_after, below, onward}
use Rattle.search.specs.Inside.{Stands, key_bytes, value_bytes, upper_of, turn_of}
use Rattle.search.proofs.Places.{key_stands, value_stands}
use Rattle.search.proofs.Floor.{Hit, hit, missed}

module _ (image payload : List ℕ) (base : ℕ) (offsets key : List ℕ) (floor : Option Answer)
    (given : Stands image payload base offsets × (floor ≡ floor_answer payload (length offsets) key 1004)) where
  -- no record isn't above the key
  pub leaf_none : floor ≡ None → None ≡ found_at payload base (with_key payload key (length offsets))
  leaf_none e =
      let s = given.0 in
      rw (missed payload key (length offsets) 1004 s.sorted (omega (arith, s.short)) floor given.1 e).1

  module _ (a : Answer) (is : floor ≡ Some a) where
    found : Hit payload key (length offsets) a
    found = let s = given.0 in hit payload key (length offsets) 1004 s.sorted (omega (arith, s.short)) floor given.1 a is

    pub floor_inside : Stands image payload base offsets × (a.index < length offsets)
    floor_inside = (given.0, found.inside)

    module _ (f : Found) (at : f ≡ place_of payload base a.index) (k : List ℕ) (bytes : k ≡ part image f.key_start (f.key_end - f.key_start)) where
      key_is : k ≡ key_at payload a.index
      key_is = bytes ∙ ap (key_bytes image) at ∙ key_stands image payload base (length offsets) given.0.bytes given.0.sorted a.index found.inside

      same : (t : Bool) → t ≡ same_bytes k key → same_bytes (key_at payload a.index) key ≡ t
      same t e = ap (λ (x : List ℕ). same_bytes x key) (sym key_is) ∙ sym e

      pub leaf_other : (t : Bool) → t ≡ same_bytes k key → t ≡ false → None ≡ found_at payload base (with_key payload key (length offsets))
      leaf_other t e n = rw (found.other (same t e ∙ n))

      pub leaf_found : (t : Bool) → t ≡ same_bytes k key → t ≡ true → Some f ≡ found_at payload base (with_key payload key (length offsets))
      leaf_found t e n = rw (found.exact (same t e ∙ n), at)

-- ---- the page below

-- the bound above the children of a record
module _ (image payload : List ℕ) (base : ℕ) (offsets : List ℕ) (k : ℕ) (given : Stands image payload base offsets × (k < length offsets)) (upper : Option Found) where
  pub upper_kept : length offsets ≤ k + 1 → upper_of image upper ≡ upper_after payload (length offsets) (upper_of image upper) k
  upper_kept l = rw (le-ltb (k + 1) (length offsets) l)

  pub upper_next : k + 1 < length offsets → (f : Found) → f ≡ place_of payload base (k + 1) → upper_of image (Some f) ≡ upper_after payload (length offsets) (upper_of image upper) k
  upper_next l f at = rw (lt-ltb (k + 1) (length offsets) l) (ap Some (ap (key_bytes image) at ∙ key_stands image payload base (length offsets) given.0.bytes given.0.sorted (k + 1) l))

module _ (image payload : List ℕ) (base : ℕ) (offsets key : List ℕ) (floor : Option Answer) (level : ℕ)
    (given : Stands image payload base offsets × (floor ≡ floor_answer payload (length offsets) key 1004) × (1 ≤ level)) (page : List ℕ) (upper : Option (List ℕ)) where
  pub onward_none : floor ≡ None → ends (Ok None) ≡ onward page payload level (length offsets) upper (floor_of payload key (length offsets))
  onward_none e =
      let s = given.0 in
      rw (missed payload key (length offsets) 1004 s.sorted (omega (arith, s.short)) floor given.1 e).0

  pub onward_some : (a : Answer) → floor ≡ Some a → (f : Found) → f ≡ place_of payload base a.index → (v : List ℕ) → v ≡ part image f.key_end (f.value_end - f.key_end)
      → (r : TreeRef) → r ≡ ref_at v 0 → (g : ℕ) → g ≡ generation page → (u : Option Found) → upper_of image u ≡ upper_after payload (length offsets) upper a.index
      → turn_of image (Goes (record { reference = r; parent_generation = g; expected_level = Some (level - 1); lower = Some f; upper = u }))
      ≡ onward page payload level (length offsets) upper (floor_of payload key (length offsets))
  unfolding below
  onward_some a is f at v bytes r e g d u w =
      let s = given.0 in
      let h = hit payload key (length offsets) 1004 s.sorted (omega (arith, s.short)) floor given.1 a is in
      let x : key_bytes image f ≡ key_at payload a.index = ap (key_bytes image) at ∙ key_stands image payload base (length offsets) s.bytes s.sorted a.index h.inside in
      let y : v ≡ value_at payload a.index = bytes ∙ ap (value_bytes image) at ∙ value_stands image payload base (length offsets) s.bytes s.sorted a.index h.inside in
      rw (h.floor, e, y, d, x, w)
