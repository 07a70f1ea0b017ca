use Rattle.octets.proofs.Pad.{laid_padded}
use Rattle.octets.proofs.padded.Goals as goal

pub returns : goal.returns
returns g c = laid_padded g.row.N _ c.put.ensures
