use mathlib.Core.Path.{◌≡◌}
use Rattle.group.specs.Inside.{slots_zero}
use Rattle.group.proofs.slots_zero.Given as goal

abbrev pub invariant-loop-j : goal.invariant-loop-j
invariant-loop-j l = l.zero ≡ slots_zero l.bits l.words l.j
