-- What a lookup finds on an accepted page (01, section 7), said of the page's records.
use Rattle.std.specs.Prelude.{ℕ, ◌≡◌, ◌⊎◌, List, Option, Ok}
use Rattle.std.specs.Borrow.{Bor}
use Rattle.std.specs.declared.cmp.Ordering.TheVariants.{Greater}
use mathlib.Core.List.{Memᴰ as Among}
use Rattle.octets.specs.Bytes.{part, Bytes}
use Rattle.octets.specs.Number.{u16_at}
use Rattle.octets.specs.Order.{order}
use Rattle.walk.specs.Entries.{Entry, Read}
use Rattle.walk.specs.Found.{found, nothing}
use Rattle.volume.specs.declared.TreeRef.{TreeRef}
use Rattle.volume.specs.declared.TreeKind.{TreeKind}
use Rattle.page.specs.declared.view.PageView.{PageView}
use Rattle.page.specs.Page.{decode_page}
use Rattle.page.specs.View.{Views}
use Rattle.pages.specs.Accept.{PageHolds}
use Rattle.pages.specs.Agree.{lookup}

-- section 5: the first key isn't above the second
abbrev pub NotAbove : List ℕ → List ℕ → Type 0
NotAbove a b = order a b ≡ Greater → ⊥

-- section 7: the last record whose key is not above the sought one: no other such record's key is above its own
pub record IsLast (key : List ℕ) (records : List Entry) (last : Entry) : Type 0 where
  pub among : Among last records
  pub not_above : NotAbove last.key key
  pub others : (e : Entry) → Among e records → NotAbove e.key key → NotAbove e.key last.key

-- section 7: on the view that `decode_page` returns on an accepted page, whatever the scratch, a lookup finds that record's key and value; or it finds none, and every record's key is above the sought one
abbrev pub LookupFindsTheLast : Type 0
LookupFindsTheLast =
    (reference : TreeRef) (uuid : List ℕ) (kind : TreeKind) (parent_generation : ℕ) (expected_level : Option ℕ) (blocks : ℕ) (page : Bor (List ℕ)) (view : PageView)
    → Bytes page.now → PageHolds reference uuid kind parent_generation expected_level blocks page.now → Views page (decode_page reference uuid kind parent_generation expected_level blocks page.now) (Ok view)
    → (read : Read (part page.now 80 (u16_at page.now 34)) (u16_at page.now 32)) (key scratch : List ℕ)
    → ((last : Entry) × IsLast key read.entries last × (lookup view key scratch ≡ found last.key last.value))
    ⊎ ((lookup view key scratch ≡ nothing) × ((e : Entry) → Among e read.entries → order e.key key ≡ Greater))
