-- Views of pages that are not validated: `verified_page_view` checks only identity (01, section 4), `draft_page_view` nothing; both, that the bytes are there.
use Rattle.std.specs.Prelude.{ℕ, Bool, ◌&&◌, List, [], ◌∷◌, Option, Result, Ok}
use Rattle.error.specs.declared.Error.{Error}
use Rattle.error.specs.declared.Error.TheVariants.{Corrupt}
use Rattle.error.specs.Demand.{Demand, ◌otherwise◌, outcome}
use Rattle.error.specs.Reason as reason
use Rattle.octets.specs.Number.{within}
use Rattle.volume.specs.declared.TreeRef.{TreeRef}
use Rattle.volume.specs.declared.TreeKind.{TreeKind}
use Rattle.page.specs.declared.Page.{Page}
use Rattle.page.specs.Header.{payload_length, is_referred, is_of_tree, is_expected, has_uuid}
use Rattle.page.specs.Page.{stated_page, accepted_page}

-- `verified_page_view`, READING-RULES 7.3: the page is the one that is asked for
unfoldable pub is_asked_for : TreeRef → List ℕ → TreeKind → ℕ → Option ℕ → List ℕ → Bool
is_asked_for reference uuid kind parent_generation expected_level page =
    is_referred reference parent_generation page
    && (is_of_tree kind page && (is_expected expected_level page && has_uuid uuid page))

-- `verified_page_view`, READING-RULES 7.3: the Rust's order: the level's byte, the generation, identity, the payload; the other reads lie within these
abbrev pub verified_demands : TreeRef → List ℕ → TreeKind → ℕ → Option ℕ → List ℕ → List Demand
verified_demands reference uuid kind parent_generation expected_level page =
    within page 14 1 otherwise Corrupt reason.page_length
    ∷ within page 24 8 otherwise Corrupt reason.page_generation
    ∷ is_asked_for reference uuid kind parent_generation expected_level page otherwise Corrupt reason.page_identity_or_generation
    ∷ within page 80 (payload_length page) otherwise Corrupt reason.page_payload_length
    ∷ []

-- section 4: `verified_page_view`, in numbers
unfoldable pub verified_page_view : TreeRef → List ℕ → TreeKind → ℕ → Option ℕ → List ℕ → Result Page Error
verified_page_view reference uuid kind parent_generation expected_level page =
    outcome (verified_demands reference uuid kind parent_generation expected_level page) (Ok (accepted_page page))

-- `draft_page_view`, READING-RULES 7.3: a page that is still being built: its count, its payload length and its payload are there
abbrev pub draft_demands : List ℕ → List Demand
draft_demands page =
    within page 32 2 otherwise Corrupt reason.draft_entry_count
    ∷ within page 34 2 otherwise Corrupt reason.draft_payload_bytes
    ∷ within page 80 (payload_length page) otherwise Corrupt reason.draft_payload_length
    ∷ []

-- `draft_page_view`, READING-RULES 7.3: the numbers of a draft; its total is not read, and is 0
abbrev pub draft_numbers : List ℕ → Page
draft_numbers page = stated_page page 0

-- `draft_page_view`, READING-RULES 7.3: the answer in numbers
unfoldable pub draft_page_view : List ℕ → Result Page Error
draft_page_view page = outcome (draft_demands page) (Ok (draft_numbers page))
