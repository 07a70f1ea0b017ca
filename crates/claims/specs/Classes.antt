-- Which classes the calls of the C interface answer (01, "Return classes", and 02; include/carryfs.h says the same).
use Rattle.std.specs.Prelude.{ℕ, ◌≡◌, ◌≤◌, true, List, [], ◌∷◌, Option}
use Rattle.error.specs.declared.Validation.TheVariants.{Disk}
use Rattle.error.specs.Answer.{check_class, check_reason}
use Rattle.crc.specs.DataUnit.{data_unit_crc}
use Rattle.volume.specs.declared.TreeRef.{TreeRef}
use Rattle.volume.specs.declared.TreeKind.{TreeKind}
use Rattle.group.specs.Group.{checksum_slot, validate_checksum_group}
use Rattle.walk.specs.Records.{is_one_of}
use Rattle.page.specs.Page.{decode_page}
use Rattle.root.specs.declared.Root.{Root}
use Rattle.root.specs.Root.{root_decode}
use Rattle.root.specs.Select.{supported_root, choose_root}
use Rattle.search.specs.declared.Searches.{Searches}
use Rattle.search.specs.Search.{search}

-- carryfs_root, carryfs_select
abbrev pub root_classes : List ℕ
root_classes = 0 ∷ 1 ∷ 2 ∷ 3 ∷ 4 ∷ []

-- carryfs_page
abbrev pub page_classes : List ℕ
page_classes = 0 ∷ 2 ∷ 3 ∷ 4 ∷ []

-- carryfs_search (02, Ticket 1): a page's, 7 for a block that ends beyond the image, 8 for a key outside its bounds
abbrev pub search_classes : List ℕ
search_classes = 0 ∷ 2 ∷ 3 ∷ 4 ∷ 7 ∷ 8 ∷ []

-- carryfs_group, carryfs_slot
abbrev pub group_classes : List ℕ
group_classes = 0 ∷ 3 ∷ []

-- carryfs_data_unit
abbrev pub unit_classes : List ℕ
unit_classes = 0 ∷ 2 ∷ []

-- each call answers no class but these; a data unit's reason is 0, and so is that of a class from 7 up
pub record Classes : Type 0 where
  pub root : (s : List ℕ) (slot blocks : ℕ) → is_one_of (check_class (root_decode s slot blocks)) root_classes ≡ true
  pub choice : (s : List ℕ) (slot blocks : ℕ) (t : List ℕ) (slot₂ blocks₂ : ℕ) → is_one_of (check_class (choose_root (supported_root (root_decode s slot blocks)) (supported_root (root_decode t slot₂ blocks₂)))) root_classes ≡ true
  pub page : (reference : TreeRef) (uuid : List ℕ) (kind : TreeKind) (parent_generation : ℕ) (expected_level : Option ℕ) (blocks : ℕ) (page : List ℕ) → is_one_of (check_class (decode_page reference uuid kind parent_generation expected_level blocks page)) page_classes ≡ true
  pub search : (image : List ℕ) (root : Root) (kind : TreeKind) (key : List ℕ) (state : Searches)
      → (is_one_of (check_class (search image root kind key state).answer) search_classes ≡ true) × (7 ≤ check_class (search image root kind key state).answer → check_reason (search image root kind key state).answer ≡ 0)
  pub group : (key value : List ℕ) → is_one_of (check_class (validate_checksum_group key value Disk)) group_classes ≡ true
  pub slot : (g : List ℕ) (s : ℕ) → is_one_of (check_class (checksum_slot g s)) group_classes ≡ true
  pub unit : (uuid : List ℕ) (object unit : ℕ) (valid : List ℕ) → (is_one_of (check_class (data_unit_crc uuid object unit valid)) unit_classes ≡ true) × (check_reason (data_unit_crc uuid object unit valid) ≡ 0)
