use Rattle.utf8.proofs.Grammar.{ascii_go}
use Rattle.utf8.proofs.behind_ascii.Goals as goal

pub loop-eight-preserved : goal.loop-eight-preserved
loop-eight-preserved c =
    let h = c.in-Some.ensures.cases in
    ascii_go 8 c.loop-eight.rest.now c.loop-eight.invariant h.0 h.1 c.if-not-is_ascii.ensures.cases
