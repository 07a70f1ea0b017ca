-- A tree kind's number gives the kind back.
use mathlib.Core.Path.{◌≡◌, refl}
use Rattle.volume.specs.declared.TreeKind.{TreeKind}
use Rattle.volume.specs.References.{tree_kind_value, tree_kind_of}

pub kind_back : (k : TreeKind) → tree_kind_of (tree_kind_value k) ≡ k
unfolding tree_kind_of
kind_back TreeKind.Catalog = refl
kind_back TreeKind.Allocation = refl
kind_back TreeKind.Cleanup = refl
kind_back TreeKind.Workspace = refl
