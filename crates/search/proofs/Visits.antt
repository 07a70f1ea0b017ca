-- The page that is asked for: its block in the image, and what its reading gives.
use mathlib.Core.Path.{◌≡◌, refl, sym, ap, ◌∙◌}
use mathlib.Core.List.{List}
use Prim.Native.Nat.{ℕ, ◌+◌, ◌-◌, ◌*◌, ◌/◌, ◌≤◌, ◌<◌}
use native.Mathlib.Omega.{arith}
use lib.ListN.{length, take, drop}
use borrow.Author.Tests.{le-leb, lt-leb}
use Rattle.std.specs.Prelude.{Result, Ok, Err}
use Rattle.error.specs.Demand.{outcome}
use Rattle.error.specs.declared.Error.{Error}
use Rattle.error.specs.declared.Error.TheVariants.{Added}
use Rattle.error.specs.declared.Class.TheVariants.{BeyondImage}
use Rattle.page.specs.declared.Page.{Page}
use Rattle.page.specs.Page.{decode_page}
use Rattle.search.specs.Search.{Sought, Under, Turn, in_image, block_at, page_of, read_page, searched}
use Rattle.search.specs.Inside.{visited, Opens}

module _ (s : Sought) (u : Under) where
  pub read_beyond : length s.image < (u.reference.block + 1) * 4096 → read_page s u ≡ Err (Added BeyondImage)
  unfolding read_page in_image outcome
  read_beyond l = rw (lt-leb ((u.reference.block + 1) * 4096) (length s.image) l) refl

  pub read_inside : (u.reference.block + 1) * 4096 ≤ length s.image → read_page s u ≡ decode_page u.reference s.uuid s.kind u.parent_generation u.expected_level s.blocks (page_of s u)
  unfolding read_page in_image outcome
  read_inside l = rw (le-leb ((u.reference.block + 1) * 4096) (length s.image) l) refl

  pub visit_beyond : length s.image / 4096 ≤ u.reference.block → Err (Added BeyondImage) ≡ visited s u (read_page s u)
  visit_beyond l = rw (read_beyond (omega arith))

  module _ (l : u.reference.block < length s.image / 4096) (page : List ℕ) (bytes : page ≡ take (u.reference.block * 4096 + 4096 - u.reference.block * 4096) (drop (u.reference.block * 4096) s.image))
      (r : Result Page Error) (is : r ≡ decode_page u.reference s.uuid s.kind u.parent_generation u.expected_level s.blocks page) where
    page_is : page ≡ page_of s u
    unfolding block_at
    page_is =
        let e : u.reference.block * 4096 + 4096 - u.reference.block * 4096 ≡ 4096 = omega arith in
        bytes ∙ ap (λ (n : ℕ). take n (drop (u.reference.block * 4096) s.image)) e

    read_is : read_page s u ≡ r
    read_is = rw (read_inside (omega arith), ← page_is) (sym is)

    pub visit_refused : (e : Error) → r ≡ Err e → Err e ≡ visited s u (read_page s u)
    visit_refused e f = rw (read_is, f)

    module _ (p : Page) (f : r ≡ Ok p) where
      pub visit_opens : Opens s u page (u.reference.block * 4096) p
      visit_opens = record { at = refl; bytes = page_is; fits = omega arith; accepted = sym is ∙ f }

      pub visit_accepted : (t : Turn) → t ≡ searched s u p → Ok t ≡ visited s u (read_page s u)
      visit_accepted t g = rw (read_is, f, g)
