-- Demand 3 for roots (01, "What demand 3 compares"): two roots accepted in one slot are the same 4,096 bytes exactly when every returned
-- field agrees. The proof is proofs/Agree.
use Rattle.std.specs.Prelude.{ℕ, ◌≡◌, ◌↔◌, List, Option, Some, None, Ok}
use Rattle.octets.specs.Bytes.{Bytes}
use Rattle.root.specs.Label.{text_of}
use Rattle.root.specs.declared.Label.{Label}
use Rattle.root.specs.declared.Root.{Root}
use Rattle.root.specs.Root.{root_decode}

-- `Root::decode` accepts the bytes with these arguments, and gives this root
pub record Accepted (s : List ℕ) (slot blocks : ℕ) (root : Root) : Type 0 where
  pub bytes : Bytes s
  pub passed : root_decode s slot blocks ≡ Ok root

-- two labels agree in length and text
pub record LabelAgrees (a b : Label) : Type 0 where
  pub length_same : a.len ≡ b.len
  pub text_same : text_of a ≡ text_of b

-- none only with none
abbrev pub LabelsAgree : Option Label → Option Label → Type 0
LabelsAgree None None = Unit
LabelsAgree None (Some b) = ⊥
LabelsAgree (Some a) None = ⊥
LabelsAgree (Some a) (Some b) = LabelAgrees a b

-- every returned field agrees
pub record FieldsAgree (a b : Root) : Type 0 where
  pub label : LabelsAgree a.label b.label
  pub uuid : a.uuid ≡ b.uuid
  pub generation : a.generation ≡ b.generation
  pub blocks : a.blocks ≡ b.blocks
  pub catalog : a.catalog ≡ b.catalog
  pub allocation : a.allocation ≡ b.allocation
  pub cleanup : a.cleanup ≡ b.cleanup
  pub next_object : a.next_object ≡ b.next_object
  pub free_blocks : a.free_blocks ≡ b.free_blocks
  pub next_job : a.next_job ≡ b.next_job
  pub workspace : a.workspace ≡ b.workspace
  pub workspace_cursor : a.workspace_cursor ≡ b.workspace_cursor

-- the slot is the same; the blocks argument of each call may be another
abbrev pub RootsAgree : Type 0
RootsAgree =
    (slot blocks₁ blocks₂ : ℕ) (s t : List ℕ) (a b : Root) → Accepted s slot blocks₁ a → Accepted t slot blocks₂ b
    → (s ≡ t) ↔ FieldsAgree a b
