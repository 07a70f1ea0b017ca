use Rattle.report.proofs.Spelt.{spelt_more}
use Rattle.report.proofs.put_each.Goals as goal

pub loop-value-preserved : goal.loop-value-preserved
loop-value-preserved g c = search spelt_more
