-- `lookup::walk_floor` meets its contract. The loop's invariant: the walk from here on gives what the whole walk gives.
use mathlib.Core.Path.{◌≡◌}
use Prim.Native.Nat.{◌≤◌, ◌-◌}
use lib.ListN.{length}
use Rattle.lookup.specs.Floor.{walk_floor}
use Rattle.std.specs.Prelude.{None}
use Rattle.lookup.proofs.walk_floor.Given as goal

abbrev pub invariant-loop-index : goal.invariant-loop-index
invariant-loop-index l = (l.position ≤ length l.part) × (walk_floor l.part l.key (l.count - l.index) l.position l.index l.found ≡ walk_floor l.part l.key l.count 0 0 None)
