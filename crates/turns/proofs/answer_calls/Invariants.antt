use Rattle.std.proofs.Common.{◌≤◌}
use Rattle.turns.specs.Inside.{unanswered, shown, Stands}
use Rattle.turns.proofs.answer_calls.Given as goal

abbrev pub invariant-loop : goal.invariant-loop
invariant-loop g l =
    (l.stand.1.0 ≤ l.stand.1.1.0) × (l.stand.1.1.0 ≤ 262144) × (l.stand.1.1.1.0 ≤ 32768)
    × Stands g.A.Answers.front g.A.Answers.text l.words.head.now (g.R.Read.remaining l.fn.input) (g.O.Write.contents l.fn.output) l.stand.0
    (unanswered l.window l.stand.1.0 l.stand.1.1.0 (g.R.Read.remaining l.input)) (shown (g.O.Write.contents l.output) l.out l.stand.1.1.1.0)
