use mathlib.Core.Path.{◌≡◌}
use lib.ListN.{length}
use Rattle.utf8.specs.Inside.{utf8}
use Rattle.utf8.proofs.is_utf8.Given as goal

abbrev pub invariant-loop-n : goal.invariant-loop-n
invariant-loop-n l = utf8 l.bytes ≡ utf8 l.rest

abbrev pub decreases-loop-n : goal.decreases-loop-n
decreases-loop-n l = length l.rest
