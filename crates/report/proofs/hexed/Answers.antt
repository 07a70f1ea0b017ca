use Rattle.octets.proofs.Lay.{laid_two}
use Rattle.report.proofs.hexed.Goals as goal

pub returns : goal.returns
returns g c = search laid_two
