use mathlib.Core.Path.{◌≡◌}
use Prim.Native.Nat.{◌≤◌, ◌-◌}
use lib.ListN.{length}
use Rattle.lookup.specs.Floor.{written, unbroken, over}
use Rattle.lookup.proofs.FillLaws.{filled}
use Rattle.lookup.proofs.fill_offsets.Given as goal

abbrev pub invariant-loop-slot : goal.invariant-loop-slot
invariant-loop-slot l = (l.position ≤ length l.part) × (unbroken l.part (length l.offsets - l.slot-index) l.position ≡ unbroken l.part (length l.initial.offsets) 0) × (filled l.part (length l.offsets - l.slot-index) l.position l.slot-index l.offsets ≡ over (written l.part (length l.initial.offsets) 0) l.initial.offsets)
