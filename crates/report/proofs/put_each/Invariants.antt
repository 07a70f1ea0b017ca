use Rattle.report.proofs.Spelt.{Spelt}
use Rattle.report.proofs.put_each.Given as goal

abbrev pub invariant-loop-value : goal.invariant-loop-value
invariant-loop-value g l = Spelt g.T.Field.text l.initial.out l.initial.behind l.values l.out l.value-index l.behind
