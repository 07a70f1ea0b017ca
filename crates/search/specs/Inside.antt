-- What private functions promise. No public promise rests on these.
use Rattle.std.specs.Prelude.{◌≡◌, ℕ, ◌+◌, ◌-◌, ◌*◌, ◌<◌, ◌≤◌, List, [], length, get_or, Option, Some, None, Result, Ok, Err}
use Rattle.error.specs.declared.Error.{Error}
use Rattle.octets.specs.Bytes.{part}
use Rattle.lookup.specs.Sorted.{offset_of, Sorted}
use Rattle.page.specs.declared.Page.{Page}
use Rattle.page.specs.Page.{decode_page}
use Rattle.search.specs.declared.descent.Asked.{Asked}
use Rattle.search.specs.declared.Found.{Found}
use Rattle.search.specs.declared.descent.Visit.{Visit}
use Rattle.search.specs.declared.descent.Way.{Way}
use Rattle.search.specs.Search.{Sought, Under, Turn, ends, goes, page_of, searched}

-- ---- what the code holds as places in the image

-- what is asked of every page
abbrev pub sought_of : Asked → Sought
sought_of a = record { image = a.image.now; uuid = a.uuid.now; kind = a.kind; blocks = a.blocks; key = a.key.now }

-- the key of a record that stands in the image
abbrev pub key_bytes : List ℕ → Found → List ℕ
key_bytes image f = part image f.key_start (f.key_end - f.key_start)

-- its value
abbrev pub value_bytes : List ℕ → Found → List ℕ
value_bytes image f = part image f.key_end (f.value_end - f.key_end)

-- the bound below a page's keys: the key of the record that leads to it
abbrev pub lower_of : List ℕ → Option Found → List ℕ
lower_of image (Some f) = key_bytes image f
lower_of image None = []

-- the bound above them: the key of the next record
abbrev pub upper_of : List ℕ → Option Found → Option (List ℕ)
upper_of image (Some f) = Some (key_bytes image f)
upper_of image None = None

-- what is asked of a page
abbrev pub under_of : List ℕ → Way → Under
under_of image w = record {
  reference = w.reference;
  parent_generation = w.parent_generation;
  expected_level = w.expected_level;
  lower = lower_of image w.lower;
  upper = upper_of image w.upper;
}

-- what an accepted page gives
abbrev pub turn_of : List ℕ → Visit → Turn
turn_of image (Visit.Ends answer) = ends answer
turn_of image (Visit.Goes w) = goes (under_of image w)

-- the same, or the refusal of the page
abbrev pub visit_of : List ℕ → Result Visit Error → Result Turn Error
visit_of image (Ok v) = Ok (turn_of image v)
visit_of image (Err e) = Err e

-- ---- what they answer

-- an accepted page is searched
abbrev pub visited : Sought → Under → Result Page Error → Result Turn Error
visited s u (Ok p) = Ok (searched s u p)
visited s u (Err e) = Err e

-- ---- what they go by

-- a payload at its place in the image, its records sorted, and the offset of each
pub record Stands (image payload : List ℕ) (base : ℕ) (offsets : List ℕ) : Type 0 where
  pub bytes : payload ≡ part image base (length payload)
  pub fits : base + length payload ≤ length image
  pub short : length payload ≤ 4016
  pub sorted : Sorted payload (length offsets)
  pub offset : (k : ℕ) → k < length offsets → get_or offsets k 0 ≡ offset_of payload k

-- the page that is asked for: its block, which lies in the image from a place on, was accepted
pub record Opens (s : Sought) (u : Under) (page : List ℕ) (start : ℕ) (p : Page) : Type 0 where
  pub at : start ≡ u.reference.block * 4096
  pub bytes : page ≡ page_of s u
  pub fits : start + 4096 ≤ length s.image
  pub accepted : decode_page u.reference s.uuid s.kind u.parent_generation u.expected_level s.blocks page ≡ Ok p
