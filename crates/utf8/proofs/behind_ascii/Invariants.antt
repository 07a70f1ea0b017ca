use mathlib.Core.Path.{◌≡◌}
use lib.ListN.{length}
use Rattle.utf8.specs.Inside.{utf8}
use Rattle.utf8.proofs.behind_ascii.Given as goal

abbrev pub invariant-loop-eight : goal.invariant-loop-eight
invariant-loop-eight l = utf8 l.bytes ≡ utf8 l.rest

abbrev pub decreases-loop-eight : goal.decreases-loop-eight
decreases-loop-eight l = length l.rest
