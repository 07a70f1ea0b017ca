-- An image (docs/PROBE-ADDED.md): its length, and pages laid into zeros.
use Rattle.std.specs.Prelude.{ℕ, zero, suc, ◌*◌, ◌/◌, List, length, replicate}
use Rattle.std.proofs.lemmas.List.Edits.{sets}
use Rattle.octets.specs.Bytes.{part}
use Rattle.octets.specs.Number.{u64_at}

-- a page is the number of its block, eight bytes, and 4,096 bytes, laid at the block's place; what falls beyond the image's end is left out
unfoldable pub laid_page : List ℕ → List ℕ → List ℕ
laid_page image page = sets image (u64_at page 0 * 4096) (part page 8 4096)

-- the first so many pages, one after the other
unfoldable pub laid_pages : List ℕ → List ℕ → ℕ → List ℕ
laid_pages image pages zero = image
laid_pages image pages (suc i) = laid_page (laid_pages image pages i) (part pages (i * 4104) 4104)

-- an image of a length: zeros, and all of the pages
unfoldable pub image_of : ℕ → List ℕ → List ℕ
image_of size pages = laid_pages (replicate size 0) pages (length pages / 4104)
