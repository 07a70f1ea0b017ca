-- The answers of the C interface, as words of 64 bits in a lent array; the words of each type of answer stand with the type.
use Rattle.std.specs.Prelude.{ℕ, ◌≡◌, Bool, true, ◌&&◌, cond, List, ◌∷◌, leb, eqb, length, get_or, take, drop, replicate, Option, Result}
use Rattle.error.specs.declared.Error.{Error}
use Rattle.error.specs.Answer.{Number, class_of, reason_of, check_class, check_words, number_words}
use Rattle.error.specs.declared.Validation.TheVariants.{Disk}
use Rattle.octets.specs.Bytes.{all_zero}
use Rattle.group.specs.Group.{validate_checksum_group}
use Rattle.group.specs.Slots.{slot_words}
use Rattle.lookup.specs.Floor.{over}
use Rattle.page.specs.Page.{decode_page, page_words}
use Rattle.page.specs.Header.{expected_of}
use Rattle.page.specs.declared.Page.{Page}
use Rattle.volume.specs.References.{is_tree_kind_value, tree_kind_of}
use Rattle.root.specs.declared.Root.{Root}
use Rattle.root.specs.declared.Selected.{Selected}
use Rattle.root.specs.Root.{root_decode}
use Rattle.root.specs.Select.{supported_root}
use Rattle.root.specs.Words.{root_words, root_text, choice_words}

-- an answer needs n entries of what is lent
abbrev pub room : ℕ → List ℕ → Bool
room n out = leb n (length out)

-- what a call answers: 0 where there is room, 1 otherwise
abbrev pub status_of : Bool → ℕ
status_of fits = cond fits 0 1

-- the same of a call whose arguments are tested first: 2 for what can't be asked
abbrev pub asked_status : Bool → Bool → ℕ
asked_status asked fits = cond asked (status_of fits) 2

-- what is lent holds afterwards: the answer at its front where there is room, otherwise what it held
abbrev pub placed : Bool → List ℕ → List ℕ → List ℕ
placed fits xs out = cond fits (over xs out) out

-- a refusal in so many words: class and reason, as far as there is room for them, and zeros behind
abbrev pub refused_words : ℕ → Error → List ℕ
refused_words size e = take size (class_of e ∷ reason_of e ∷ replicate size 0)

-- a checksum group's record as a page on disk holds it
unfoldable pub group_words : List ℕ → List ℕ → List ℕ
group_words key value = check_words (validate_checksum_group key value Disk)

-- a UUID has 16 bytes
abbrev pub is_uuid : ℕ → Bool
is_uuid size = eqb size 16

-- what `supported_root` makes of the root in a slot's block
abbrev pub slot_root : List ℕ → ℕ → ℕ → Result (Option Root) Error
slot_root bytes slot blocks = supported_root (root_decode bytes slot blocks)

-- what is asked of a page has a UUID of 16 bytes, a kind of 1 to 4, and a level of at most 255
unfoldable pub can_ask : ℕ → ℕ → ℕ → Bool
can_ask size kind level = is_uuid size && is_tree_kind_value kind && leb level 255

-- the answer on the page that is asked for, in words
unfoldable pub asked_page : List ℕ → ℕ → ℕ → List ℕ → ℕ → ℕ → ℕ → ℕ → List ℕ
asked_page bytes block generation uuid kind parent level blocks =
    page_words (decode_page (record { block = block; generation = generation }) uuid (tree_kind_of kind) parent (expected_of level) blocks bytes)

-- ---- beside a refusal

-- where the class isn't 0, every word behind class and reason is 0
abbrev pub Bare : List ℕ → Type 0
Bare words = (get_or words 0 0 ≡ 0 → ⊥) → all_zero (drop 2 words) ≡ true

-- call by call (`carryfs_group` has no other words); a root's text too
pub record BesideRefusals : Type 0 where
  pub slot : (s : Result (Option ℕ) Error) → Bare (slot_words s)
  pub number : (n : Number) → Bare (number_words n)
  pub root : (d : Result Root Error) → Bare (root_words d)
  pub text : (d : Result Root Error) → (check_class d ≡ 0 → ⊥) → all_zero (root_text d) ≡ true
  pub choice : (s : Result Selected Error) → Bare (choice_words s)
  pub page : (p : Result Page Error) → Bare (page_words p)
  pub asked : (bytes : List ℕ) (block generation : ℕ) (uuid : List ℕ) (kind parent level blocks : ℕ) → Bare (asked_page bytes block generation uuid kind parent level blocks)
