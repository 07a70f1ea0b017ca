-- The choice between two roots (01, section 3: `select_root`, `supported_root`), and both together.
use Rattle.std.specs.Prelude.{ℕ, ◌≤◌, ◌≡◌, ◌⊎◌, Bool, true, false, not, ◌&&◌, ◌||◌, cond, List, [], ◌∷◌, leb, eqb}
use Rattle.error.specs.declared.Error.{Error}
use Rattle.error.specs.declared.Error.TheVariants.{Corrupt}
use Rattle.std.specs.Prelude.{Option, Some, None, Result, Ok, Err}
use Rattle.error.specs.Answer.{class_of, check_class}
use Rattle.error.specs.Demand.{Demand, ◌otherwise◌, outcome}
use Rattle.error.specs.Reason as reason
use Rattle.octets.specs.Bytes.{same_bytes}
use Rattle.volume.specs.declared.TreeRef.{TreeRef}
use Rattle.root.specs.declared.Label.{Label}
use Rattle.root.specs.declared.Root.{Root}
use Rattle.root.specs.declared.Selected.{Selected}

-- the Rust's derived equality of `Option<Label>`: none and none, or length and all 255 bytes the same
abbrev pub same_label : Option Label → Option Label → Bool
same_label (Some a) (Some b) = eqb a.len b.len && same_bytes a.bytes b.bytes
same_label (Some a) None = false
same_label None (Some b) = false
same_label None None = true

-- that of `TreeRef`: block and generation are the same
abbrev pub same_ref : TreeRef → TreeRef → Bool
same_ref a b = eqb a.block b.block && eqb a.generation b.generation

-- that of `Root`: every field the same
unfoldable pub same_root : Root → Root → Bool
same_root a b =
    same_label a.label b.label
    && same_bytes a.uuid b.uuid
    && eqb a.generation b.generation
    && eqb a.blocks b.blocks
    && same_ref a.catalog b.catalog
    && same_ref a.allocation b.allocation
    && same_ref a.cleanup b.cleanup
    && eqb a.next_object b.next_object
    && eqb a.free_blocks b.free_blocks
    && eqb a.next_job b.next_job
    && same_ref a.workspace b.workspace
    && eqb a.workspace_cursor b.workspace_cursor

-- READING-RULES 6.4: the answer: 1 for the first, 2 for the second, and the root itself
abbrev pub selection : ℕ → Root → Selected
selection n r = record { which = n; root = r }

-- section 3: of two, differing UUIDs are class 3, and so are equal generations of unequal roots
abbrev pub pair_demands : Root → Root → List Demand
pair_demands a b =
    same_bytes a.uuid b.uuid otherwise Corrupt reason.root_uuids_conflict
    ∷ (not (eqb a.generation b.generation) || same_root a b) otherwise Corrupt reason.same_generation_roots_conflict
    ∷ []

-- section 3: else the higher generation, the first if equal
unfoldable pub select_pair : Root → Root → Result Selected Error
select_pair a b = outcome (pair_demands a b) (Ok (cond (leb b.generation a.generation) (selection 1 a) (selection 2 b)))

-- section 3, `select_root`: none, class 3; one, that one; two, as above
abbrev pub select_root : Option Root → Option Root → Result Selected Error
select_root None None = Err (Corrupt reason.neither_current_root_is_valid)
select_root (Some a) None = Ok (selection 1 a)
select_root None (Some b) = Ok (selection 2 b)
select_root (Some a) (Some b) = select_pair a b

-- section 3: `supported_root` turns class 3 into none and passes on the others
abbrev pub supported_root : Result Root Error → Result (Option Root) Error
supported_root (Ok r) = Ok (Some r)
supported_root (Err e) = cond (eqb (class_of e) 3) (Ok None) (Err e)

-- READING-RULES 6.4 (the Rust leaves it to callers): what `supported_root` passes on answers, the first's before the second's, else `select_root`
abbrev pub choose_root : Result (Option Root) Error → Result (Option Root) Error → Result Selected Error
choose_root (Err e) b = Err e
choose_root (Ok a) (Err e) = Err e
choose_root (Ok a) (Ok b) = select_root a b

-- ---- the same, plainly

-- READING-RULES 6.4: a chosen root is one of those that are there, and none of those is newer
pub record Newest (a b : Result (Option Root) Error) (s : Selected) : Type 0 where
  pub one : ((s.which ≡ 1) × (a ≡ Ok (Some s.root))) ⊎ ((s.which ≡ 2) × (b ≡ Ok (Some s.root)))
  pub first : (r : Root) → a ≡ Ok (Some r) → r.generation ≤ s.root.generation
  pub second : (r : Root) → b ≡ Ok (Some r) → r.generation ≤ s.root.generation

-- READING-RULES 6.4: where a root is chosen it is such a one
abbrev pub ChosenIsNewest : Type 0
ChosenIsNewest = (a b : Result (Option Root) Error) (s : Selected) → choose_root a b ≡ Ok s → Newest a b s

-- READING-RULES 6.4: a block refused with another class than 3 decides for both, the first before the second
pub record RefusalsStand : Type 0 where
  pub of_first : (a b : Result Root Error) (e : Error) → a ≡ Err e → (class_of e ≡ 3 → ⊥) → choose_root (supported_root a) (supported_root b) ≡ Err e
  pub of_second : (a b : Result Root Error) (e : Error) → (check_class a ≡ 0) ⊎ (check_class a ≡ 3) → b ≡ Err e → (class_of e ≡ 3 → ⊥) → choose_root (supported_root a) (supported_root b) ≡ Err e
