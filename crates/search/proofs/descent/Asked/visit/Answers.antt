use mathlib.Core.Path.{refl}
use native.Mathlib.Omega.{arith}
use Rattle.std.proofs.lemmas.Result.{err_from_is_err_and}
use Rattle.search.proofs.Visits.{visit_beyond, visit_refused, visit_opens, visit_accepted}
use Rattle.search.proofs.descent.Asked.visit.Goals as goal

pub returns-then-self-block : goal.returns-then-self-block
returns-then-self-block c = visit_beyond _ _ (omega (arith, c.if-self-block.true))

pub returns-in_err-answer : goal.returns-in_err-answer
returns-in_err-answer c =
    let p = err_from_is_err_and c.from_residual.result c.from_residual.ensures.1 in
    rw (p.1, p.2) (visit_refused _ _ c.if-self-block.false _ refl _ c.page_answer.ensures.answer _ c.in_err-answer.was)

pub open_page-requires : goal.open_page-requires
open_page-requires c = visit_opens _ _ c.if-self-block.false _ refl _ c.page_answer.ensures.answer _ c.in_ok-answer.was

pub returns : goal.returns
returns c = visit_accepted _ _ c.if-self-block.false _ refl _ c.page_answer.ensures.answer _ c.in_ok-answer.was _ c.open_page.ensures
