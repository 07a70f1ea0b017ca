use mathlib.Core.Path.{◌≡◌}
use Rattle.lookup.specs.Sorted.{offset_of}
use Rattle.walk.specs.Records.{is_one_of}
use Rattle.walk.specs.Inside.{stored_blocks}
use Rattle.walk.proofs.stored_before.Given as goal

abbrev pub invariant-loop-i : goal.invariant-loop-i
invariant-loop-i l = (l.position ≡ offset_of l.rest l.i) × (l.hit ≡ is_one_of l.block (stored_blocks l.rest l.i))
