-- The parent generation of Ticket 1 (02): each page is opened with its parent page's, and the root's for all would answer the same.
use Rattle.std.specs.Prelude.{ℕ, zero, suc, ◌≡◌, List, None, Ok}
use Rattle.octets.specs.Bytes.{Bytes}
use Rattle.volume.specs.declared.TreeKind.{TreeKind}
use Rattle.root.specs.declared.Root.{Root}
use Rattle.search.specs.declared.Searches.{Searches}
use Rattle.search.specs.Search.{Sought, Under, read_page, Descent, counted, sought, top, answered, search}

-- a page that is asked for, but under another parent's generation
abbrev pub under_parent : ℕ → Under → Under
under_parent generation u = record {
  reference = u.reference;
  parent_generation = generation;
  expected_level = u.expected_level;
  lower = u.lower;
  upper = u.upper;
}

-- the descent of Ticket 1, but that every page is opened under one generation
unfoldable pub descend_under : ℕ → Sought → ℕ → Under → ℕ → Descent
descend_under generation s zero u n = (Ok None, n)
descend_under generation s (suc pages) u n =
    counted s (λ v m. descend_under generation s pages v m) (under_parent generation u) n (read_page s (under_parent generation u))

-- under the root's generation it answers as the search does: an accepted page isn't newer than its parent, nor are its children newer than itself (reason 122)
abbrev pub OneParentForAll : Type 0
OneParentForAll =
    (image : List ℕ) (root : Root) (kind : TreeKind) (key : List ℕ) (state : Searches) → Bytes image
    → search image root kind key state ≡ answered state (descend_under root.generation (sought image root kind key) 8 (top root kind) 0)
