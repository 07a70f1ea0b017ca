-- What a search answers (02, Ticket 1), as a relation on paths: pages one under the other, each accepted, its keys in bounds, and left through its floor record.
use Rattle.std.specs.Prelude.{ℕ, suc, ◌+◌, ◌*◌, ◌≤◌, ◌<◌, ◌≡◌, ◌↔◌, List, length, Option, Some, None, Result, Ok, Err}
use Rattle.std.specs.declared.cmp.Ordering.TheVariants.{Less, Greater}
use Rattle.error.specs.declared.Error.{Error}
use Rattle.error.specs.declared.Error.TheVariants.{Added}
use Rattle.error.specs.declared.Class.TheVariants.{BeyondImage, OutOfBounds}
use Rattle.octets.specs.Bytes.{Bytes}
use Rattle.octets.specs.Order.{order}
use Rattle.volume.specs.declared.TreeKind.{TreeKind}
use Rattle.lookup.specs.Sorted.{key_at}
use Rattle.page.specs.declared.Page.{Page}
use Rattle.page.specs.Page.{decode_page}
use Rattle.root.specs.declared.Root.{Root}
use Rattle.search.specs.declared.Found.{Found}
use Rattle.search.specs.declared.Searched.{Searched}
use Rattle.search.specs.declared.Searches.{Searches}
use Rattle.search.specs.Search.{Sought, Under, page_of, records_of, place_of, below, Descent, sought, top, answered, search}

-- ---- a page that is asked for

-- the reader's answer on its block
abbrev pub read_of : Sought → Under → Result Page Error
read_of s u = decode_page u.reference s.uuid s.kind u.parent_generation u.expected_level s.blocks (page_of s u)

-- Ticket 1, class 7: its block ends beyond the image
abbrev pub Beyond : Sought → Under → Type 0
Beyond s u = length s.image < (u.reference.block + 1) * 4096

-- its block lies in the image
abbrev pub InImage : Sought → Under → Type 0
InImage s u = (u.reference.block + 1) * 4096 ≤ length s.image

-- 01, section 5: the key of record k of a page that was accepted
abbrev pub key_in : Sought → Under → Page → ℕ → List ℕ
key_in s u p k = key_at (records_of (page_of s u) p) k

-- the first key isn't above the second
abbrev pub NotAbove : List ℕ → List ℕ → Type 0
NotAbove a b = order a b ≡ Greater → ⊥

-- Ticket 1: below the upper bound, if there is one
abbrev pub BelowUpper : Option (List ℕ) → List ℕ → Type 0
BelowUpper None key = Unit
BelowUpper (Some bound) key = order key bound ≡ Less

-- Ticket 1: at least the lower bound, and below the upper one
abbrev pub InBounds : Under → List ℕ → Type 0
InBounds u key = NotAbove u.lower key × BelowUpper u.upper key

-- Ticket 1: the page is accepted as 01 has it
pub record Accepted (s : Sought) (u : Under) (p : Page) : Type 0 where
  pub inside : InImage s u
  pub taken : read_of s u ≡ Ok p

-- Ticket 1: and its keys are in bounds
pub record Sound (s : Sought) (u : Under) (p : Page) : Type 0 where
  pub accepted : Accepted s u p
  pub bounded : (k : ℕ) → k < p.count → InBounds u (key_in s u p k)

-- 01, section 7: record k is the floor record: its key isn't above the sought one, and every later key is
pub record IsFloorIn (s : Sought) (u : Under) (p : Page) (k : ℕ) : Type 0 where
  pub there : k < p.count
  pub not_above : NotAbove (key_in s u p k) s.key
  pub later : (j : ℕ) → k < j → j < p.count → order (key_in s u p j) s.key ≡ Greater

-- Ticket 1: the page below its record k
abbrev pub below_in : Sought → Under → Page → ℕ → Under
below_in s u p k = below (page_of s u) (records_of (page_of s u) p) p.level p.count u.upper k

-- Ticket 1: where its record k stands in the image, its payload starting at byte 80 of it (01, section 4)
abbrev pub place_in : Sought → Under → Page → ℕ → Found
place_in s u p k = place_of (records_of (page_of s u) p) (u.reference.block * 4096 + 80) k

-- ---- the path

-- Ticket 1: from page u down to page v over so many pages, each sound, internal and left through its floor record
pub data Path (s : Sought) : Under → Under → ℕ → Type 0 where
  here : {u : Under} → Path s u u 0
  through : {u v : Under} {m : ℕ} (p : Page) (k : ℕ) → Sound s u p → 1 ≤ p.level → IsFloorIn s u p k → Path s (below_in s u p k) v m → Path s u v (suc m)

-- Ticket 1: what a descent from page u answers, and how many pages it accepts
pub data Answers (s : Sought) (u : Under) : Descent → Type 0 where
  -- class 7: on a path a block ends beyond the image
  beyond : {v : Under} {m : ℕ} → Path s u v m → Beyond s v → Answers s u (Err (Added BeyondImage), m)
  -- a page's refusal is passed on
  refused : {v : Under} {m : ℕ} (e : Error) → Path s u v m → InImage s v → read_of s v ≡ Err e → Answers s u (Err e, m)
  -- class 8: on a path an accepted page has a key outside its bounds
  outside : {v : Under} {m : ℕ} (p : Page) (k : ℕ) → Path s u v m → Accepted s v p → k < p.count → (InBounds v (key_in s v p k) → ⊥) → Answers s u (Err (Added OutOfBounds), suc m)
  -- a record: each page on the path is accepted with its keys in bounds, and the leaf reached holds that key
  found : {v : Under} {m : ℕ} (p : Page) (k : ℕ) → Path s u v m → Sound s v p → p.level ≡ 0 → k < p.count → key_in s v p k ≡ s.key → Answers s u (Ok (Some (place_in s v p k)), suc m)
  -- none: on such a path that leaf doesn't
  not_in_leaf : {v : Under} {m : ℕ} (p : Page) → Path s u v m → Sound s v p → p.level ≡ 0 → ((k : ℕ) → k < p.count → key_in s v p k ≡ s.key → ⊥) → Answers s u (Ok None, suc m)
  -- none: on such a path an internal page's first key is above it
  below_first : {v : Under} {m : ℕ} (p : Page) → Path s u v m → Sound s v p → 1 ≤ p.level → order (key_in s v p 0) s.key ≡ Greater → Answers s u (Ok None, suc m)

-- ---- the claims

-- Ticket 1: the search answers exactly what these say, both ways
abbrev pub SearchAnswers : Type 0
SearchAnswers =
    (image : List ℕ) (root : Root) (kind : TreeKind) (key : List ℕ) (state : Searches) (r : Searched) → Bytes image
    → (search image root kind key state ≡ r) ↔ ((d : Descent) × Answers (sought image root kind key) (top root kind) d × (r ≡ answered state d))

-- REQUESTS 1: a way down through any record of each internal page, each page accepted under its parent, with its keys in bounds
pub data AnyWay (s : Sought) : Under → Under → ℕ → Type 0 where
  here : {u : Under} → AnyWay s u u 0
  through : {u v : Under} {m : ℕ} (p : Page) (k : ℕ) → Sound s u p → 1 ≤ p.level → k < p.count → AnyWay s (below_in s u p k) v m → AnyWay s u v (suc m)

-- REQUESTS 1, none means nowhere: if the leaf at the end of any such way holds the key, the search answers that record
abbrev pub NoneMeansNowhere : Type 0
NoneMeansNowhere =
    (image : List ℕ) (root : Root) (kind : TreeKind) (key : List ℕ) (state : Searches) (v : Under) (m : ℕ) (p : Page) (k : ℕ) → Bytes image
    → AnyWay (sought image root kind key) (top root kind) v m → Sound (sought image root kind key) v p → p.level ≡ 0 → k < p.count → key_in (sought image root kind key) v p k ≡ key
    → search image root kind key state ≡ answered state (Ok (Some (place_in (sought image root kind key) v p k)), suc m)

-- REQUESTS 1: so where none is answered, or a refusal, no leaf at the end of such a way holds the key
abbrev pub NoneIsNowhere : Type 0
NoneIsNowhere =
    (image : List ℕ) (root : Root) (kind : TreeKind) (key : List ℕ) (state : Searches) (v : Under) (m : ℕ) (p : Page) (k : ℕ) → Bytes image
    → ((f : Found) → (search image root kind key state).answer ≡ Ok (Some f) → ⊥)
    → AnyWay (sought image root kind key) (top root kind) v m → Sound (sought image root kind key) v p → p.level ≡ 0 → k < p.count → key_in (sought image root kind key) v p k ≡ key → ⊥

-- Ticket 1, "one level below", and 01, section 4, levels 7 to 0: the descent ends: it accepts at most eight pages
abbrev pub EightPages : Type 0
EightPages =
    (image : List ℕ) (root : Root) (kind : TreeKind) (key : List ℕ) (d : Descent) → Bytes image
    → Answers (sought image root kind key) (top root kind) d → d.1 ≤ 8
