use Rattle.turns.proofs.Telling.{line_told}
use Rattle.turns.proofs.tell.Goals as goal

pub returns : goal.returns
returns g c = rw c.ok_or.ensures.value (line_told c.args.out.now c.requires c.told-out c.line-end.ensures c.room.ensures.starts c.room.ensures.sends)
