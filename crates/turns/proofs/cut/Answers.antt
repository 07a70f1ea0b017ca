use Rattle.turns.proofs.Short.{cut_short}
use Rattle.turns.proofs.Turning.{laid_last}
use Rattle.turns.proofs.cut.Goals as goal

pub returns : goal.returns
returns g c = laid_last (g.O.Write.contents c.args.output.now) (g.O.Write.contents c.last.new.output) c.last.result c.args.out.now c.cut_line-end.ensures c.requires c.told-out (cut_short c.args.place) (rw c.span.ensures.bytes at c.last.ensures)
