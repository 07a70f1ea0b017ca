-- 02: each ticket's sentences, a record for each.
use Rattle.std.specs.Prelude.{ℕ, ◌≡◌, ◌↔◌, true, List, Ok}
use Rattle.utf8.specs.Rfc3629.{Utf8}
use Rattle.utf8.specs.Inside.{utf8}
use Rattle.utf8.specs.Rows.{TestsAreRows, FirstByteTells, CutInOneWay, RowsHold, SameAsStd}
use Rattle.volume.specs.declared.TreeKind.{TreeKind}
use Rattle.root.specs.declared.Root.{Root}
use Rattle.root.specs.Root.{root_decode}
use Rattle.roots.specs.Accept.{RefStands}
use Rattle.search.specs.Search.{top}
use Rattle.paths.specs.Paths.{SearchAnswers, NoneMeansNowhere, NoneIsNowhere, EightPages}
use Rattle.paths.specs.Exactly.{OwnClasses, SentencesHold, OnlyTheRootsPage, RecordIsThere}
use Rattle.paths.specs.Steps.{Steps}
use Rattle.paths.specs.Parents.{OneParentForAll}

-- "a root, one of its four trees": of a root that was read from a block, 01, section 3, has the place of each tree's reference
pub record TreesStand (s : List ℕ) (root : Root) : Type 0 where
  pub catalog : RefStands s 64 (top root TreeKind.Catalog).reference
  pub allocation : RefStands s 80 (top root TreeKind.Allocation).reference
  pub cleanup : RefStands s 96 (top root TreeKind.Cleanup).reference
  pub workspace : RefStands s 160 (top root TreeKind.Workspace).reference

-- Ticket 1: "From the root down to the record"
pub record Request1 : Type 0 where
  -- "Descent starts with the root's generation as parent and no expected level; UUID and blocks are the root's on every page." "Each child is opened with its parent page's generation, one level below. Under an internal record every key is at least that record's key and below the next one's, inherited bounds included." Each "accepted as 01 has it"
  pub steps : Steps
  -- "one of its four trees"
  pub trees : (s : List ℕ) (slot blocks : ℕ) (root : Root) → root_decode s slot blocks ≡ Ok root → TreesStand s root
  -- "An internal page is left through its floor record, and a key below its first is answered none.": what is answered, and the count, is what these paths say, both ways
  pub answers : SearchAnswers
  -- "A record is answered exactly when ..; none, exactly when ..": each answer exactly when, "a page's refusal is passed on", class 7, class 8; and beside each the count of "all pages accepted, those of refused searches included", which "stays at its largest value"
  pub sentences : SentencesHold
  -- "the exact record": its places in the image hold the sought key, and the value of that record in the leaf reached
  pub found : RecordIsThere
  -- "or none" (REQUESTS 1): no leaf that can be reached intact, through any records, has a key that isn't answered
  pub nowhere : NoneMeansNowhere
  pub none_nowhere : NoneIsNowhere
  -- "one level below": at most eight pages
  pub pages : EightPages
  -- "opened with its parent page's generation": the root's for every page would answer the same, since no child is newer than its page
  pub parents : OneParentForAll
  -- "A root made up by hand meets the page checks like any other": class 2 is of the root's own page
  pub callers : OnlyTheRootsPage
  -- ("No lent memory is written" needs no statement: image, key and UUID are lent as `&[u8]`.)
  -- "A page's refusal is passed on": it is of a class up to 6, so it is told from classes 7 and 8
  pub own : OwnClasses

-- Ticket 2: "UTF-8 by the printed rows"
pub record Request2 : Type 0 where
  -- "A text passes as UTF-8 exactly when it is a sequence of these": `utf8` is what `is_utf8` answers (its clause `test`), and its clause `grammar` says the same of the function
  pub passes : (s : List ℕ) → (utf8 s ≡ true) ↔ Utf8 s
  -- "one printed alternative a case": each test is its own alternative and no other; no two overlap, and a text is a sequence of them in one way
  pub cases : TestsAreRows
  pub alone : FirstByteTells
  pub one_way : CutInOneWay
  -- "RFC 3629's syntax" (its section 4) by the table of section 3: each number U+0000..U+10FFFF but the surrogates has one character, and nothing else is one
  pub rows : RowsHold
  -- "no answer changes": a text passes exactly where the toolchain's promise of `str::from_utf8` has it pass; before this request `is_utf8` was held to the same grammar
  pub std : SameAsStd
