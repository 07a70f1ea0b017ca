use Rattle.std.proofs.Common.{rules}
use Rattle.turns.proofs.Turning.{answered_whole, last_outside}
use Rattle.turns.proofs.step.Goals as goal

pub returns-in-Ok : goal.returns-in-Ok
returns-in-Ok g c = c.answered.ensures (g.R.Read.remaining c.args.input.now)

pub returns-in-Err-Outside : goal.returns-in-Err-Outside
returns-in-Err-Outside g c head input old s =
    answered_whole g.A.Answers.front g.A.Answers.text head _ _ c.cut.result (last_outside g.A.Answers.front c.args.s.place _ g.met.A.Answers.steady (g.R.Read.remaining c.args.input.now) (search rules)) c.cut.ensures s
