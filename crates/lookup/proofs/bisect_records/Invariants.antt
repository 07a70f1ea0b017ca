use lib.ListN.{length}
use Prim.Native.Nat.{◌≤◌, ◌-◌}
use Rattle.lookup.proofs.BisectLaws.{Reached}
use Rattle.lookup.proofs.bisect_records.Given as goal

abbrev pub invariant-loop-low : goal.invariant-loop-low
invariant-loop-low l = (l.low ≤ l.high) × (l.high ≤ (length l.offsets)) × Reached l.part l.key l.offsets (length l.offsets) l.low l.high

abbrev pub decreases-loop-low : goal.decreases-loop-low
decreases-loop-low l = l.high - l.low
