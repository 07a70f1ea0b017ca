use Rattle.std.proofs.Common.{rules, arith}
use Rattle.turns.proofs.Turning.{answered_one}
use Rattle.turns.proofs.answered.Goals as goal

pub returns : goal.returns
returns g c left head input old s =
    answered_one g.A.Answers.front g.met.A.Answers.steady g.met.A.Answers.within g.A.Answers.text head _ left c.args.window.now c.args.s.place c.args.s.at c.args.s.have c.args.length c.min-next.result c.in_ok-place.place c.args.s.in_order
    (omega arith) (search rules) c.requires c.in_ok-used.ensures.1 s
