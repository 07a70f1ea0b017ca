use Rattle.octets.proofs.Lay.{laid_three}
use Rattle.report.specs.Line.{end_line}
use Rattle.report.proofs.end_line.Goals as goal

pub returns : goal.returns
unfolding end_line
returns c = search laid_three
