-- Pages laid into an image, one after the other.
use Prim.Native.Nat.{ℕ, suc, ◌+◌, ◌-◌, ◌*◌, ◌/◌, ◌<◌}
use mathlib.Core.Path.{◌≡◌, refl, sym, ◌∙◌}
use mathlib.Core.List.{List}
use native.Mathlib.Omega.{arith}
use lib.ListN.{length}
use Rattle.octets.specs.Bytes.{part, Laid}
use Rattle.octets.specs.Number.{u64_at}
use Rattle.octets.proofs.Lay.{sets_out}
use Rattle.added.specs.Image.{laid_page, laid_pages}

-- a page whose block starts beyond the image's end
pub page_beyond : (image page : List ℕ) → length image / 4096 < u64_at page 0 → image ≡ laid_page image page
unfolding laid_page
page_beyond image page h = sym (sets_out image (u64_at page 0 * 4096) (part page 8 4096) (omega arith))

-- another
pub page_laid : (image page : List ℕ) (place : ℕ) {text after : List ℕ} {r : ℕ} → Laid image place text after r → place ≡ u64_at page 0 * 4096 → text ≡ part page 8 4096 → after ≡ laid_page image page
unfolding laid_page
page_laid image page place l p t = l.stands ∙ rw (p, t) refl

pub pages_none : (image pages : List ℕ) → image ≡ laid_pages image pages 0
unfolding laid_pages
pages_none image pages = refl

pub pages_more : (image pages : List ℕ) (i : ℕ) {before page after : List ℕ} → before ≡ laid_pages image pages i → page ≡ part pages (i * 4104) (i * 4104 + 4104 - i * 4104) → after ≡ laid_page before page → after ≡ laid_pages image pages (i + 1)
unfolding laid_pages
pages_more image pages i {before} {page} {after} b p a = a ∙ rw (b, p, width) (next (i + 1) (omega arith))
  where
    width : i * 4104 + 4104 - i * 4104 ≡ 4104
    width = omega arith

    next : (n : ℕ) → n ≡ suc i → laid_page (laid_pages image pages i) (part pages (i * 4104) 4104) ≡ laid_pages image pages n
    next n e = rw e refl
