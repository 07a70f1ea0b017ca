-- The sentences of Ticket 1 (02), one by one: a record, none, and each refusal, exactly when; and the count.
use Rattle.std.specs.Prelude.{ℕ, suc, ◌+◌, ◌-◌, ◌*◌, ◌^◌, ◌≤◌, ◌<◌, ◌≡◌, ◌↔◌, ◌⊎◌, min, List, Option, Some, None, Ok, Err}
use Rattle.std.specs.declared.cmp.Ordering.TheVariants.{Greater}
use Rattle.error.specs.declared.Error.{Error}
use Rattle.error.specs.Answer.{class_of, check_class}
use Rattle.octets.specs.Bytes.{Bytes, part}
use Rattle.octets.specs.Order.{order}
use Rattle.volume.specs.declared.TreeRef.{TreeRef}
use Rattle.volume.specs.declared.TreeKind.{TreeKind}
use Rattle.page.specs.declared.Page.{Page}
use Rattle.page.specs.Page.{decode_page}
use Rattle.root.specs.declared.Root.{Root}
use Rattle.search.specs.declared.Found.{Found}
use Rattle.search.specs.declared.Searched.{Searched}
use Rattle.search.specs.declared.Searches.{Searches}
use Rattle.search.specs.Search.{Sought, Under, page_of, records_of, value_at, sought, top, search}
use Rattle.paths.specs.Paths.{read_of, Beyond, InImage, key_in, InBounds, Accepted, Sound, place_in, Path}

-- 01, "Return classes": a page's refusal is of a class up to 6; so classes 7 and 8 are the search's own
abbrev pub OwnClasses : Type 0
OwnClasses =
    (reference : TreeRef) (uuid : List ℕ) (kind : TreeKind) (parent_generation : ℕ) (expected_level : Option ℕ) (blocks : ℕ) (page : List ℕ) (e : Error)
    → decode_page reference uuid kind parent_generation expected_level blocks page ≡ Err e → class_of e ≤ 6

-- on a path from page u stands a page of which P holds, with so many pages above it
pub record OnPath (s : Sought) (u : Under) (P : Under → ℕ → Type 0) : Type 0 where
  pub page : Under
  pub above : ℕ
  pub path : Path s u page above
  pub holds : P page above

-- a leaf that holds the key, in the record whose place is f
abbrev pub HoldsKey : Sought → Found → Under → Type 0
HoldsKey s f v = (p : Page) × Sound s v p × (p.level ≡ 0) × ((k : ℕ) × (k < p.count) × (key_in s v p k ≡ s.key) × (f ≡ place_in s v p k))

-- a leaf that doesn't, or an internal page whose first key is above it
abbrev pub LacksKey : Sought → Under → Type 0
LacksKey s v =
    (p : Page) × Sound s v p
    × ((p.level ≡ 0) × ((k : ℕ) → k < p.count → key_in s v p k ≡ s.key → ⊥) ⊎ (1 ≤ p.level) × (order (key_in s v p 0) s.key ≡ Greater))

-- it lies in the image and is refused so
abbrev pub IsRefused : Sought → Error → Under → Type 0
IsRefused s e v = InImage s v × (read_of s v ≡ Err e)

-- it is accepted and has a key outside its bounds
abbrev pub HasKeyOutside : Sought → Under → Type 0
HasKeyOutside s v = (p : Page) × Accepted s v p × ((k : ℕ) × (k < p.count) × (InBounds v (key_in s v p k) → ⊥))

-- the count n after so many pages more; it stays at its largest value (Ticket 1)
abbrev pub CountIs : Searches → ℕ → ℕ → Type 0
CountIs state pages n = n ≡ min (state.count + pages) (2 ^ 64 - 1)

-- the sentences, of the answer r of a search that starts at page u in that state: each answer with the count n beside it, exactly when
pub record Sentences (s : Sought) (u : Under) (state : Searches) (r : Searched) : Type 0 where
  -- a record is answered exactly when each page on the path is accepted, with its keys in bounds, and the leaf reached holds that key
  pub record_exactly : (f : Found) (n : ℕ) → ((r.answer ≡ Ok (Some f)) × (r.state.count ≡ n)) ↔ OnPath s u (λ v m. HoldsKey s f v × CountIs state (suc m) n)
  -- none, exactly when on such a path that leaf doesn't or an internal page's first key is above it
  pub none_exactly : (n : ℕ) → ((r.answer ≡ Ok None) × (r.state.count ≡ n)) ↔ OnPath s u (λ v m. LacksKey s v × CountIs state (suc m) n)
  -- class 7 exactly when a block on the path ends beyond the image
  pub class_7_exactly : (n : ℕ) → ((check_class r.answer ≡ 7) × (r.state.count ≡ n)) ↔ OnPath s u (λ v m. Beyond s v × CountIs state m n)
  -- class 8 exactly when an accepted page on the path has a key outside its bounds
  pub class_8_exactly : (n : ℕ) → ((check_class r.answer ≡ 8) × (r.state.count ≡ n)) ↔ OnPath s u (λ v m. HasKeyOutside s v × CountIs state (suc m) n)
  -- a page's refusal, of a class up to 6, exactly when a page on the path that lies in the image is refused so
  pub refusal_exactly : (e : Error) (n : ℕ) → class_of e ≤ 6 → ((r.answer ≡ Err e) × (r.state.count ≡ n)) ↔ OnPath s u (λ v m. IsRefused s e v × CountIs state m n)

-- each of them holds of every search
abbrev pub SentencesHold : Type 0
SentencesHold =
    (image : List ℕ) (root : Root) (kind : TreeKind) (key : List ℕ) (state : Searches) → Bytes image
    → Sentences (sought image root kind key) (top root kind) state (search image root kind key state)

-- Ticket 1: "A root made up by hand meets the page checks like any other." Class 2 is the caller's (01, "Return classes"): a search answers it exactly where the root's own page is refused so, and then no page was accepted
abbrev pub OnlyTheRootsPage : Type 0
OnlyTheRootsPage =
    (image : List ℕ) (root : Root) (kind : TreeKind) (key : List ℕ) (state : Searches) → Bytes image
    → (check_class (search image root kind key state).answer ≡ 2)
    ↔ (InImage (sought image root kind key) (top root kind) × (check_class (read_of (sought image root kind key) (top root kind)) ≡ 2) × CountIs state 0 (search image root kind key state).state.count)

-- where a record is answered, it is that of the sought key in the leaf reached, and its places lie in that leaf's block and hold that key, and behind it that record's value
pub record RecordStands (s : Sought) (u : Under) (f : Found) : Type 0 where
  pub leaf : Under
  pub above : ℕ
  pub path : Path s u leaf above
  pub page : Page
  pub index : ℕ
  pub sound : Sound s leaf page
  pub is_leaf : page.level ≡ 0
  pub there : index < page.count
  pub place : f ≡ place_in s leaf page index
  pub key_there : key_in s leaf page index ≡ s.key
  -- (an empty value keeps its place)
  pub ordered : (f.key_start ≤ f.key_end) × (f.key_end ≤ f.value_end)
  pub inside : f.value_end ≤ (leaf.reference.block + 1) * 4096
  pub key_is : part s.image f.key_start (f.key_end - f.key_start) ≡ s.key
  pub value_is : part s.image f.key_end (f.value_end - f.key_end) ≡ value_at (records_of (page_of s leaf) page) index

-- every answered record stands there
abbrev pub RecordIsThere : Type 0
RecordIsThere =
    (image : List ℕ) (root : Root) (kind : TreeKind) (key : List ℕ) (state : Searches) (f : Found) → Bytes image
    → (search image root kind key state).answer ≡ Ok (Some f) → RecordStands (sought image root kind key) (top root kind) f
