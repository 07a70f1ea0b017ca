use Rattle.turns.proofs.Short.{end_short}
use Rattle.turns.proofs.Turning.{laid_first}
use Rattle.turns.proofs.finish.Goals as goal

pub returns : goal.returns
returns g c = laid_first (g.O.Write.contents c.args.output.now) (g.O.Write.contents c.last.new.output) c.last.result c.args.out.now c.end_line-end.ensures c.told-out (end_short c.args.place) (rw c.span.ensures.bytes at c.last.ensures)
