-- A search as the C interface is asked it (include/carryfs.h, carryfs_search): a root by the words and the text of its answer, a kind by its number.
use Rattle.std.specs.Prelude.{◌≡◌, ℕ, Bool, ◌&&◌, List, length, eqb, get_or, None, Ok}
use Rattle.octets.specs.Bytes.{padded_to}
use Rattle.volume.specs.declared.TreeKind.{TreeKind}
use Rattle.volume.specs.References.{is_tree_kind_value, tree_kind_of}
use Rattle.root.specs.declared.Root.{Root}
use Rattle.root.specs.Words.{root_words, root_text}
use Rattle.search.specs.declared.Searches.{Searches}
use Rattle.search.specs.Search.{search}
use Rattle.search.specs.Words.{search_words}

-- the root that the words and the text of a root's answer tell, but for its label, which a search doesn't look at
unfoldable pub root_given : List ℕ → List ℕ → Root
root_given words text = record {
  label = None;
  uuid = padded_to 16 text;
  generation = get_or words 4 0;
  blocks = get_or words 5 0;
  catalog = record { block = get_or words 6 0; generation = get_or words 7 0 };
  allocation = record { block = get_or words 8 0; generation = get_or words 9 0 };
  cleanup = record { block = get_or words 10 0; generation = get_or words 11 0 };
  next_object = get_or words 12 0;
  free_blocks = get_or words 13 0;
  next_job = get_or words 14 0;
  workspace = record { block = get_or words 15 0; generation = get_or words 16 0 };
  workspace_cursor = get_or words 17 0;
}

-- what a search is asked has a root's 18 words and 271 bytes of text, and a kind of 1 to 4
unfoldable pub can_search : ℕ → ℕ → ℕ → Bool
can_search words text kind = eqb words 18 && eqb text 271 && is_tree_kind_value kind

-- the answer of the search that is asked, in words
unfoldable pub asked_search : List ℕ → List ℕ → List ℕ → ℕ → List ℕ → ℕ → List ℕ
asked_search image words text kind key count = search_words (search image (root_given words text) (tree_kind_of kind) key (record { count = count }))

-- a root that is given back as it was answered is searched as the root itself
abbrev pub GivenBack : Type 0
GivenBack =
    (image : List ℕ) (root : Root) (kind : TreeKind) (key : List ℕ) (state : Searches) → length root.uuid ≡ 16
    → search image (root_given (root_words (Ok root)) (root_text (Ok root))) kind key state ≡ search image root kind key state
