use mathlib.Core.Path.{◌≡◌}
use lib.ListN.{drop}
use Rattle.shape.specs.Call.{reads}
use Rattle.shape.proofs.reads.Given as goal

abbrev pub invariant-loop-item : goal.invariant-loop-item
invariant-loop-item l = reads (drop l.item-index l.items) l.input l.at ≡ reads l.items l.input l.start
