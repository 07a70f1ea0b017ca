-- The derived equality of roots is that of the definition.
use mathlib.Core.Path.{◌≡◌, refl}
use mathlib.Core.Bool.{and_assoc}
use Rattle.std.specs.Prelude.{Option, Some, None}
use Rattle.std.specs.Option.{option_eq}
use Rattle.root.specs.declared.Label.{Label}
use Rattle.root.specs.declared.Root.{Root}
use Rattle.root.specs.contracts.LabelPartialEq.TheImpl as label
use Rattle.root.specs.contracts.RootPartialEq.TheImpl as root
use Rattle.root.specs.Select.{same_label, same_root}

labels_same : (a b : Option Label) → option_eq label.ghosts.eq a b ≡ same_label a b
labels_same (Some a) (Some b) = refl
labels_same (Some a) None = refl
labels_same None (Some b) = refl
labels_same None None = refl

pub root_same : (a b : Root) → root.ghosts.eq a b ≡ same_root a b
unfolding same_root
root_same a b = simp (labels_same, and_assoc)
