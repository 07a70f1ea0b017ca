use Rattle.std.proofs.Common.{rules, ◌≡◌, ◌-◌, ap, take, drop, arith}
use Rattle.octets.specs.Bytes.{part}
use Rattle.turns.proofs.Turning.{turned_off, answered_cut, answered_end, waiting_size}
use Rattle.turns.proofs.refilled.Goals as goal

pub returns-in_err-have : goal.returns-in_err-have
returns-in_err-have g c =
    turned_off g.A.Answers.front g.A.Answers.text c.args.s.place _ _ _ _ _ _ (part c.args.window.now c.args.s.at (c.args.s.have - c.args.s.at)) c.read_more.new.window _ _ _ _ c.in_err-have.ensures (search rules)

pub returns-then-s : goal.returns-then-s
returns-then-s g c head input old s =
    let size = waiting_size c.args.window.now c.args.s.at c.args.s.have c.args.s.in_order (omega arith) in
    answered_cut g.A.Answers.front g.A.Answers.text head c.args.s.place (g.R.Read.remaining c.args.input.now) (g.R.Read.remaining c.read_more.new.input) _ c.read_more.new.window _ _ _ _ c.in_default.is c.in_ok-have.ensures c.cut.result c.args.out.now g.met.A.Answers.fits c.requires (omega (arith, size)) c.cut.ensures s

pub returns : goal.returns
returns g c head input old s =
    let none : c.args.s.have - c.args.s.at ≡ 0 = omega arith in
    answered_end g.A.Answers.front g.A.Answers.text head c.args.s.place (g.R.Read.remaining c.args.input.now) (g.R.Read.remaining c.read_more.new.input) _ c.read_more.new.window _ _ _ _ c.in_default.is c.in_ok-have.ensures c.finish.result (ap (λ k. take k (drop c.args.s.at c.args.window.now)) none) c.finish.ensures s
