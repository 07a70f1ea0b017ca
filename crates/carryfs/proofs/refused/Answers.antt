use Rattle.carryfs.proofs.Over.{two_over}
use Rattle.carryfs.proofs.refused.Goals as goal

pub returns : goal.returns
returns g c = rw (c.copy_from_slice.ensures.after, c.min-room.ensures, c.from.ensures, c.from-2.ensures, c.class_of.ensures, c.reason_of.ensures) (two_over _ _ _)
