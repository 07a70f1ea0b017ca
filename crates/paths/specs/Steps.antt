-- How each page of a search is asked for (02, Ticket 1), said of the bytes in the image and in 01's words; the search's own definition of a step is not in it.
use Rattle.std.specs.Prelude.{ℕ, ◌+◌, ◌*◌, ◌≤◌, ◌<◌, ◌≡◌, ◌↔◌, List, [], length, get_or, take, Some, None}
use Rattle.std.specs.declared.cmp.Ordering.TheVariants.{Less}
use Rattle.octets.specs.Bytes.{Bytes, byte_at, part}
use Rattle.octets.specs.Number.{u16_at, u64_at}
use Rattle.octets.specs.Order.{order}
use Rattle.volume.specs.declared.TreeKind.{TreeKind}
use Rattle.walk.specs.Entries.{Entry, end_to_end, Read}
use Rattle.page.specs.declared.Page.{Page}
use Rattle.root.specs.declared.Root.{Root}
use Rattle.pages.specs.Accept.{PageHolds, PageStates}
use Rattle.search.specs.declared.Found.{Found}
use Rattle.search.specs.Search.{Sought, Under, page_of, records_of, value_at, sought, top}
use Rattle.paths.specs.Paths.{NotAbove, InBounds, key_in, Accepted, Sound, below_in, place_in}

-- Ticket 1: "Descent starts with the root's generation as parent and no expected level": the first page, which has no bounds
pub record FirstIs (root : Root) (u : Under) : Type 0 where
  pub parent : u.parent_generation ≡ root.generation
  pub level : u.expected_level ≡ None
  pub bounds : (key : List ℕ) → InBounds u key

-- Ticket 1: the page v below record k of an internal page
pub record ChildIs (s : Sought) (u : Under) (p : Page) (k : ℕ) (v : Under) : Type 0 where
  -- 01, section 3: a stored reference is a block and a generation
  pub block : v.reference.block ≡ u64_at (value_at (records_of (page_of s u) p) k) 0
  pub generation : v.reference.generation ≡ u64_at (value_at (records_of (page_of s u) p) k) 8
  -- "Each child is opened with its parent page's generation, one level below."
  pub parent : v.parent_generation ≡ u64_at (page_of s u) 24
  pub level : (n : ℕ) × (v.expected_level ≡ Some n) × (n + 1 ≡ byte_at (page_of s u) 14)
  -- "Under an internal record every key is at least that record's key and below the next one's, inherited bounds included."
  pub bounds : (key : List ℕ) → InBounds v key ↔ (NotAbove (key_in s u p k) key × (k + 1 < p.count → order key (key_in s u p (k + 1)) ≡ Less) × InBounds u key)

-- Ticket 1: a page is "accepted as 01 has it"; "UUID and blocks are the root's on every page"
pub record AcceptedAs01 (image : List ℕ) (root : Root) (kind : TreeKind) (u : Under) (p : Page) : Type 0 where
  pub inside : (u.reference.block + 1) * 4096 ≤ length image
  pub holds : PageHolds u.reference root.uuid kind u.parent_generation u.expected_level root.blocks (part image (u.reference.block * 4096) 4096)
  pub states : PageStates (part image (u.reference.block * 4096) 4096) p

-- 01, section 5: an entry
abbrev pub entry : List ℕ → List ℕ → Entry
entry key value = record { key = key; value = value }

-- 01, section 5: record k of a page starts in the image behind the page's first 80 bytes and the records before it, its key behind its two lengths, its value behind its key, an empty one too
pub record StandsAt (u : Under) (es : List Entry) (k : ℕ) (f : Found) : Type 0 where
  pub key_start : f.key_start ≡ u.reference.block * 4096 + 80 + length (end_to_end (take k es)) + 4
  pub key_end : f.key_end ≡ f.key_start + length (get_or es k (entry [] [])).key
  pub value_end : f.value_end ≡ f.key_end + length (get_or es k (entry [] [])).value

-- the steps of every search
pub record Steps : Type 0 where
  pub first : (root : Root) (kind : TreeKind) → FirstIs root (top root kind)
  pub child : (s : Sought) (u : Under) (p : Page) (k : ℕ) → Bytes s.image → Sound s u p → 1 ≤ p.level → k < p.count → ChildIs s u p k (below_in s u p k)
  pub accepted : (image : List ℕ) (root : Root) (kind : TreeKind) (key : List ℕ) (u : Under) (p : Page)
      → Bytes image → Accepted (sought image root kind key) u p ↔ AcceptedAs01 image root kind u p
  -- 01, section 5: key and value of record k are those of entry k, however its payload is read
  pub records : (s : Sought) (u : Under) (p : Page) (read : Read (part (page_of s u) 80 (u16_at (page_of s u) 34)) (u16_at (page_of s u) 32)) (k : ℕ)
      → Bytes s.image → Accepted s u p → k < p.count → get_or read.entries k (entry [] []) ≡ entry (key_in s u p k) (value_at (records_of (page_of s u) p) k)
  -- "the exact record": where an answered record stands
  pub place : (s : Sought) (u : Under) (p : Page) (read : Read (part (page_of s u) 80 (u16_at (page_of s u) 34)) (u16_at (page_of s u) 32)) (k : ℕ)
      → Bytes s.image → Accepted s u p → k < p.count → StandsAt u read.entries k (place_in s u p k)
