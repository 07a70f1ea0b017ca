use Rattle.std.proofs.Common.{lit≤}
use Rattle.turns.proofs.Turning.{stands_first}
use Rattle.turns.proofs.answer_calls.Goals as goal

pub loop-init : goal.loop-init
loop-init g c = (lit≤ tt, lit≤ tt, lit≤ tt, stands_first g.A.Answers.front g.A.Answers.text _ _ _ _ c.in_default.ensures)
