-- The [P] cases of 01, section 2, computed from the definitions; one theorem, `proofs/Cases`, carries them all.
use Rattle.std.specs.Prelude.{ℕ, ◌≡◌, Bool, true, false, not, cond, List, [], ◌∷◌, eqb, suc, Ok, Err}
use Rattle.error.specs.declared.Validation.{Validation}
use Rattle.error.specs.Answer.{violation_of}
use Rattle.error.specs.Demand.{all_true}
use Rattle.error.specs.Cases.{passes, violates}
use Rattle.error.specs.Reason as reason
use Rattle.volume.specs.declared.TreeRef.{TreeRef}
use Rattle.volume.specs.Blocks.{is_nonreserved_block, is_bank_root, is_bank_block, is_root_slot}
use Rattle.volume.specs.References.{validate_tree_ref, validate_workspace_ref, validate_root_slot}

-- a page's block, written in this generation
abbrev pub page_at : ℕ → ℕ → TreeRef
page_at block generation = record { block = block; generation = generation }

-- section 2: slots, bank roots and bank blocks at B = 1,024
unfoldable pub cases : List Bool
cases =
    -- B = 1,024: 767 is a slot, 768 isn't
    is_root_slot 767 1024
    ∷ passes (validate_root_slot 767 1024)
    ∷ not (is_root_slot 768 1024)
    ∷ violates reason.invalid_root_slot (validate_root_slot 768 1024)
    -- 928 is a bank root
    ∷ is_bank_root 928 1024
    -- 991 is a bank block, 992 isn't
    ∷ is_bank_block 991 1024
    ∷ passes (validate_workspace_ref (page_at 991 1) 1024)
    ∷ not (is_bank_block 992 1024)
    ∷ violates reason.invalid_workspace_page_reference (validate_workspace_ref (page_at 992 1) 1024)
    -- B is at least 1,024: of 1,023 blocks none is a slot
    ∷ not (is_root_slot 256 1023)
    ∷ violates reason.device_has_no_usable_block_range (validate_root_slot 256 1023)
    ∷ []

-- section 2: B = 1,024 has no non-reserved block
abbrev pub NoneAt1024 : Type 0
NoneAt1024 = (block : ℕ) → is_nonreserved_block block 1024 ≡ false

-- so each reference to a page of a tree is refused
abbrev pub RefusedAt1024 : Type 0
RefusedAt1024 = (reference : TreeRef) (mode : Validation) → validate_tree_ref reference 1024 mode ≡ Err (violation_of mode reason.invalid_tree_reference)

-- section 2: B = 1,025, block 512 alone is non-reserved
abbrev pub Only512At1025 : Type 0
Only512At1025 = (block : ℕ) → is_nonreserved_block block 1025 ≡ eqb block 512

-- so a page of a tree that was written in a generation, which is never 0, lies there, and each other reference is refused
abbrev pub Accepted512At1025 : Type 0
Accepted512At1025 =
    (block generation : ℕ) (mode : Validation) → validate_tree_ref (page_at block (suc generation)) 1025 mode ≡ cond (eqb block 512) (Ok tt) (Err (violation_of mode reason.invalid_tree_reference))

-- section 2: these, and which blocks are non-reserved at B = 1,024 and 1,025
pub record CasesHold : Type 0 where
  pub computed : all_true cases ≡ true
  pub none : NoneAt1024
  pub refused : RefusedAt1024
  pub one : Only512At1025
  pub accepted : Accepted512At1025
