-- From the root down to the record (02, Ticket 1; REQUESTS 1 has the steps): what is asked of a page, what an accepted page gives, and the descent.
use Rattle.std.specs.Prelude.{ℕ, zero, suc, ◌+◌, ◌*◌, ◌-◌, ◌^◌, min, Bool, true, not, ◌&&◌, cond, List, [], ◌∷◌, leb, ltb, eqb, length, drop, Option, Some, None, Result, Ok, Err}
use Rattle.error.specs.declared.Error.{Error}
use Rattle.error.specs.declared.Error.TheVariants.{Added}
use Rattle.error.specs.declared.Class.TheVariants.{BeyondImage, OutOfBounds}
use Rattle.error.specs.Demand.{◌otherwise◌, outcome}
use Rattle.octets.specs.Below.{every}
use Rattle.octets.specs.Bytes.{part, same_bytes}
use Rattle.octets.specs.Order.{order, is_greater}
use Rattle.volume.specs.declared.TreeRef.{TreeRef}
use Rattle.volume.specs.declared.TreeKind.{TreeKind}
use Rattle.volume.specs.References.{ref_at}
use Rattle.lookup.specs.Record.{key_len, value_len, value_of}
use Rattle.lookup.specs.Sorted.{offset_of, key_at, key_above}
use Rattle.page.specs.declared.Page.{Page}
use Rattle.page.specs.Header.{generation}
use Rattle.page.specs.Page.{decode_page}
use Rattle.root.specs.declared.Root.{Root}
use Rattle.search.specs.declared.Found.{Found}
use Rattle.search.specs.declared.Searched.{Searched}
use Rattle.search.specs.declared.Searches.{Searches}

-- ---- what is asked

-- Ticket 1: what is the same on every page: the image; UUID and blocks, which are the root's; the tree; the sought key
pub record Sought : Type 0 where
  pub image : List ℕ
  pub uuid : List ℕ
  pub kind : TreeKind
  pub blocks : ℕ
  pub key : List ℕ

-- Ticket 1: a page is asked for by its reference, under its parent's generation, at a level, with a bound below its keys and one above them; the empty key bounds nothing below
pub record Under : Type 0 where
  pub reference : TreeRef
  pub parent_generation : ℕ
  pub expected_level : Option ℕ
  pub lower : List ℕ
  pub upper : Option (List ℕ)

-- the key is below the upper bound, if there is one
abbrev pub below_upper : Option (List ℕ) → List ℕ → Bool
below_upper None key = true
below_upper (Some bound) key = is_greater (order bound key)

-- Ticket 1: the key is at least the lower bound, and below the upper one
unfoldable pub in_bounds : List ℕ → Option (List ℕ) → List ℕ → Bool
in_bounds lower upper key = not (is_greater (order lower key)) && below_upper upper key

-- ---- the page in the image

-- Ticket 1, class 7: the block doesn't end beyond the image
unfoldable pub in_image : List ℕ → ℕ → Bool
in_image image block = leb ((block + 1) * 4096) (length image)

-- 01: a block has 4,096 bytes, and block 0 is the image's first
unfoldable pub block_at : List ℕ → ℕ → List ℕ
block_at image block = part image (block * 4096) 4096

-- Ticket 1: the block of the page that is asked for
abbrev pub page_of : Sought → Under → List ℕ
page_of s u = block_at s.image u.reference.block

-- 01, section 4: the records of a page that was accepted
abbrev pub records_of : List ℕ → Page → List ℕ
records_of page p = part page p.start (p.end - p.start)

-- Ticket 1: class 7 where the block ends beyond the image, tested before it is decoded; otherwise `decode_page`
unfoldable pub read_page : Sought → Under → Result Page Error
read_page s u =
    outcome (in_image s.image u.reference.block otherwise Added BeyondImage ∷ [])
    (decode_page u.reference s.uuid s.kind u.parent_generation u.expected_level s.blocks (page_of s u))

-- ---- the records of an accepted page

-- 01, section 5: the value of record k
abbrev pub value_at : List ℕ → ℕ → List ℕ
value_at payload k = value_of (drop (offset_of payload k) payload)

-- Ticket 1: the record with that very key, among the first n
unfoldable pub with_key : List ℕ → List ℕ → ℕ → Option ℕ
with_key payload key zero = None
with_key payload key (suc n) = cond (same_bytes (key_at payload n) key) (Some n) (with_key payload key n)

-- 01, section 7: the floor record among the first n: the last whose key isn't above the sought one
unfoldable pub floor_of : List ℕ → List ℕ → ℕ → Option ℕ
floor_of payload key zero = None
floor_of payload key (suc n) = cond (key_above payload key n) (floor_of payload key n) (Some n)

-- where record k stands in the image, the payload starting at `base` of it
unfoldable pub place_of : List ℕ → ℕ → ℕ → Found
place_of payload base k = record {
  key_start = base + offset_of payload k + 4;
  key_end = base + offset_of payload k + 4 + key_len (drop (offset_of payload k) payload);
  value_end = base + offset_of payload k + 4 + key_len (drop (offset_of payload k) payload) + value_len (drop (offset_of payload k) payload);
}

-- the place in the image of the record with that number; none without one
abbrev pub found_at : List ℕ → ℕ → Option ℕ → Option Found
found_at payload base (Some k) = Some (place_of payload base k)
found_at payload base None = None

-- ---- what an accepted page gives

-- Ticket 1: the answer of the search, or the page below
pub data Turn : Type 0 where
  ends : Result (Option Found) Error → Turn
  goes : Under → Turn

-- Ticket 1: the bound above the keys below record k: the next record's key, or the inherited bound where there is no next one
abbrev pub upper_after : List ℕ → ℕ → Option (List ℕ) → ℕ → Option (List ℕ)
upper_after payload count upper k = cond (ltb (k + 1) count) (Some (key_at payload (k + 1))) upper

-- Ticket 1: the page below record k: this page's generation as parent, one level below, every key at least that record's and below the next one's
unfoldable pub below : List ℕ → List ℕ → ℕ → ℕ → Option (List ℕ) → ℕ → Under
below page payload level count upper k = record {
  reference = ref_at (value_at payload k) 0;
  parent_generation = generation page;
  expected_level = Some (level - 1);
  lower = key_at payload k;
  upper = upper_after payload count upper k;
}

-- Ticket 1: an internal page is left through its floor record, and a key below its first is answered none
abbrev pub onward : List ℕ → List ℕ → ℕ → ℕ → Option (List ℕ) → Option ℕ → Turn
onward page payload level count upper (Some k) = goes (below page payload level count upper k)
onward page payload level count upper None = ends (Ok None)

-- Ticket 1, class 8: every key of the page is in its bounds
abbrev pub keys_in_bounds : List ℕ → ℕ → List ℕ → Option (List ℕ) → Bool
keys_in_bounds payload count lower upper = every (λ k. in_bounds lower upper (key_at payload k)) count

-- Ticket 1: an accepted page: class 8 where a key is outside its bounds, before it is searched; a leaf answers; an internal page is left
unfoldable pub searched : Sought → Under → Page → Turn
searched s u p =
    cond (keys_in_bounds (records_of (page_of s u) p) p.count u.lower u.upper)
    (cond (eqb p.level 0)
    (ends (Ok (found_at (records_of (page_of s u) p) (u.reference.block * 4096 + p.start) (with_key (records_of (page_of s u) p) s.key p.count))))
    (onward (page_of s u) (records_of (page_of s u) p) p.level p.count u.upper (floor_of (records_of (page_of s u) p) s.key p.count)))
    (ends (Err (Added OutOfBounds)))

-- ---- the descent

-- Ticket 1: its answer, and how many pages it accepted
abbrev pub Descent : Type 0
Descent = Result (Option Found) Error × ℕ

-- what a page gives, followed down
abbrev pub follow : (Under → Descent) → ℕ → Turn → Descent
follow down n (ends answer) = (answer, n)
follow down n (goes u) = down u

-- Ticket 1: a page that is accepted counts, whatever its keys
abbrev pub counted : Sought → (Under → ℕ → Descent) → Under → ℕ → Result Page Error → Descent
counted s down u n (Ok p) = follow (λ v. down v (n + 1)) (n + 1) (searched s u p)
counted s down u n (Err e) = (Err e, n)

-- the descent over at most so many pages, n being accepted so far; 8 are enough, since a child is one level below its parent and levels are 7 to 0
unfoldable pub descend : Sought → ℕ → Under → ℕ → Descent
descend s zero u n = (Ok None, n)
descend s (suc pages) u n = counted s (λ v m. descend s pages v m) u n (read_page s u)

-- ---- the search

-- 01, section 3: the reference that a root has for a tree
abbrev pub tree_of : Root → TreeKind → TreeRef
tree_of root TreeKind.Catalog = root.catalog
tree_of root TreeKind.Allocation = root.allocation
tree_of root TreeKind.Cleanup = root.cleanup
tree_of root TreeKind.Workspace = root.workspace

-- Ticket 1: what a root and a key ask: UUID and blocks are the root's on every page
abbrev pub sought : List ℕ → Root → TreeKind → List ℕ → Sought
sought image root kind key = record { image = image; uuid = root.uuid; kind = kind; blocks = root.blocks; key = key }

-- Ticket 1: the descent starts with the root's generation as parent and no expected level, and with no bounds
abbrev pub top : Root → TreeKind → Under
top root kind = record { reference = tree_of root kind; parent_generation = root.generation; expected_level = None; lower = []; upper = None }

-- Ticket 1: the number of pages accepted so far, and these; it stays at its largest value
unfoldable pub more : ℕ → ℕ → ℕ
more count pages = min (count + pages) (2 ^ 64 - 1)

-- what a descent answers, and the state after it
abbrev pub answered : Searches → Descent → Searched
answered state d = record { answer = d.0; state = record { count = more state.count d.1 } }

-- Ticket 1: the search
unfoldable pub search : List ℕ → Root → TreeKind → List ℕ → Searches → Searched
search image root kind key state = answered state (descend (sought image root kind key) 8 (top root kind) 0)
