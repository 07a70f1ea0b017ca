-- Demand 2: what the definitions accept, and nothing else, said plainly, with no order of tests in it.
use Rattle.std.specs.Prelude.{◌≡◌, true, ◌↔◌, List, ℕ}
use Rattle.crc.specs.Crc.{IsReflected}
use Rattle.crc.specs.Pieces.{PiecesSum}
use Rattle.utf8.specs.Rfc3629.{Utf8}
use Rattle.utf8.specs.Inside.{utf8}
use Rattle.roots.specs.Accept.{LabelExactly, RootExactly, RootTold}
use Rattle.roots.specs.Choice.{ChoiceExactly}
use Rattle.pages.specs.Accept.{PageExactly, PageAcceptedExactly}
use Rattle.pages.specs.Empty.{EmptyLeafIsAccepted}
use Rattle.pages.specs.Lookups.{LookupFindsTheLast}
use Rattle.pages.specs.Records.{RecordsWalked, WalkModeFree}
use Rattle.walk.specs.Entries.{WalkedExactly}
use Rattle.group.specs.Accept.{GroupExactly}
use Rattle.volume.specs.Accept.{VolumeExactly}
use Rattle.records.specs.Catalog.{CatalogExactly}
use Rattle.records.specs.Record.{RecordsExactly}
use Rattle.records.specs.Mode.{ModeFree}
use Rattle.lookup.specs.Sorted.{FloorIsTheLast, WalkingIsHalving}

-- demand 2: what the definition accepts is accepted, nothing else
pub record Demand2 : Type 0 where
  -- a text is UTF-8 exactly when it is a sequence of RFC 3629's alternatives
  pub texts : (s : List ℕ) → (utf8 s ≡ true) ↔ Utf8 s
  -- section 1: the polynomial is RFC 3720's, reflected
  pub polynomial : IsReflected
  -- crc.rs, `DataUnitCrc` (READING-RULES 3.4): a data unit in pieces is summed exactly where they are as long as announced, however they are cut
  pub pieces : PiecesSum
  -- section 2: blocks and slots; READING-RULES 5.2, 5.3 and 6.2: references, groups and UUIDs
  pub blocks : VolumeExactly
  -- section 3: labels, roots, the fields that are answered of a root, and which of two roots is chosen, if any
  pub labels : LabelExactly
  pub roots : RootExactly
  pub root_fields : RootTold
  pub choice : ChoiceExactly
  -- section 4: pages, down to the fields of their records; an empty leaf is one
  pub pages : PageExactly
  pub pages_class : PageAcceptedExactly
  pub empty_leaf : EmptyLeafIsAccepted
  -- section 5: a page's records, one after the other: by the rules of its kind, and by any rules of one record
  pub page_records : RecordsWalked
  pub walks : WalkedExactly
  -- section 5: every kind of record
  pub catalog : CatalogExactly
  pub records : RecordsExactly
  -- "Return classes": the mode chooses the class of a refusal, and has no say in what is accepted
  pub modes : ModeFree
  pub walk_modes : WalkModeFree
  -- section 6: checksum groups
  pub groups : GroupExactly
  -- section 7: on increasing keys a lookup finds the last not above the sought one, by walking and by halving, whatever the scratch
  pub lookups : FloorIsTheLast
  pub scratch : WalkingIsHalving
  -- section 7: on an accepted page it finds the last of the page's records whose key is not above the sought one
  pub page_lookups : LookupFindsTheLast
