-- An empty leaf (01, section 4): it is accepted, and its lookups find none.
use Rattle.std.specs.Prelude.{ℕ, ◌≡◌, List, drop, replicate, Option, Ok}
use Rattle.std.specs.Borrow.{Bor}
use Rattle.error.specs.Answer.{check_class}
use Rattle.octets.specs.Bytes.{byte_at, Bytes}
use Rattle.octets.specs.Number.{u16_at, u64_at}
use Rattle.walk.specs.Found.{nothing}
use Rattle.volume.specs.declared.TreeRef.{TreeRef}
use Rattle.volume.specs.declared.TreeKind.{TreeKind}
use Rattle.page.specs.declared.view.PageView.{PageView}
use Rattle.page.specs.Page.{decode_page}
use Rattle.page.specs.View.{Views}
use Rattle.pages.specs.Accept.{CallerHolds, HeaderHolds}
use Rattle.pages.specs.Agree.{lookup}

-- section 4: a leaf without records: its count, its payload's length and its total are 0, and zeros stand from byte 80 on
pub record EmptyLeaf (page : List ℕ) : Type 0 where
  pub leaf : byte_at page 12 ≡ 1
  pub count : u16_at page 32 ≡ 0
  pub payload_length : u16_at page 34 ≡ 0
  pub total : u64_at page 56 ≡ 0
  pub zeros : drop 80 page ≡ replicate 4016 0

-- section 4: "An empty leaf is accepted; its lookups find none": `decode_page` answers class 0 on one whose header is right, and on the view that it returns no key is found, whatever the scratch
abbrev pub EmptyLeafIsAccepted : Type 0
EmptyLeafIsAccepted =
    (reference : TreeRef) (uuid : List ℕ) (kind : TreeKind) (parent_generation : ℕ) (expected_level : Option ℕ) (blocks : ℕ) (page : Bor (List ℕ))
    → Bytes page.now → CallerHolds reference uuid kind parent_generation blocks page.now → HeaderHolds reference uuid kind expected_level blocks page.now → EmptyLeaf page.now
    → (check_class (decode_page reference uuid kind parent_generation expected_level blocks page.now) ≡ 0)
    × ((view : PageView) → Views page (decode_page reference uuid kind parent_generation expected_level blocks page.now) (Ok view) → (key scratch : List ℕ) → lookup view key scratch ≡ nothing)
