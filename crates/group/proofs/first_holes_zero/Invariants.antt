use mathlib.Core.Path.{◌≡◌}
use mathlib.Core.Bool.{true}
use Prim.Native.Nat.{◌*◌}
use Rattle.octets.specs.Below.{every}
use Rattle.group.specs.Group.{hole_zero}
use Rattle.group.proofs.first_holes_zero.Given as goal

abbrev pub invariant-loop-k : goal.invariant-loop-k
invariant-loop-k l = every (hole_zero l.group) (8 * l.k) ≡ true
