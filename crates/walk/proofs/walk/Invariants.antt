use Rattle.walk.proofs.Loops.{Walking}
use Rattle.walk.proofs.walk.Given as goal

abbrev pub invariant-loop-i : goal.invariant-loop-i
invariant-loop-i l =
    Walking l.context l.rest l.payload_length l.count l.total l.seen l.position l.previous l.i
