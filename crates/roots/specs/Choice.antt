-- The choice between two roots (01, section 3, `select_root`), plainly.
use Rattle.std.specs.Prelude.{◌≤◌, ◌<◌, ◌≡◌, ◌↔◌, Some, None, Ok}
use Rattle.root.specs.declared.Root.{Root}
use Rattle.root.specs.declared.Selected.{Selected}
use Rattle.root.specs.Select.{select_root}

-- two roots of one volume that don't conflict: one UUID, and of one generation only where they are the same root, field by field
pub record Agreeing (a b : Root) : Type 0 where
  pub uuid : a.uuid ≡ b.uuid
  pub same : a.generation ≡ b.generation → a ≡ b

-- the one of the higher generation is chosen, the first if both have the same
pub record Higher (a b : Root) (s : Selected) : Type 0 where
  pub first : b.generation ≤ a.generation → (s.which ≡ 1) × (s.root ≡ a)
  pub second : a.generation < b.generation → (s.which ≡ 2) × (s.root ≡ b)

-- a root is chosen exactly where there is one, or two that don't conflict
pub record ChoiceExactly : Type 0 where
  pub none : (s : Selected) → select_root None None ≡ Ok s → ⊥
  pub first : (a : Root) (s : Selected) → (select_root (Some a) None ≡ Ok s) ↔ ((s.which ≡ 1) × (s.root ≡ a))
  pub second : (b : Root) (s : Selected) → (select_root None (Some b) ≡ Ok s) ↔ ((s.which ≡ 2) × (s.root ≡ b))
  pub both : (a b : Root) (s : Selected) → (select_root (Some a) (Some b) ≡ Ok s) ↔ (Agreeing a b × Higher a b s)
