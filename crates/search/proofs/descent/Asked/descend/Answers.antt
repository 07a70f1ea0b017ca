use mathlib.Core.Path.{refl, ap, ◌∙◌}
use native.Mathlib.Omega.{arith}
use Rattle.std.specs.Prelude.{Ok}
use Rattle.search.proofs.Descents.{descend_over, descend_refused, descend_ends, descend_goes}
use Rattle.search.proofs.descent.Asked.descend.Goals as goal

pub loop-pages-init : goal.loop-pages-init
loop-pages-init c = refl

pub returns-in-Err : goal.returns-in-Err
returns-in-Err c = descend_refused _ _ _ c.loop-pages-test.true _ c.visit.ensures _ c.in-Err.is ∙ c.loop-pages.invariant

pub returns-in-Ok-Ends : goal.returns-in-Ok-Ends
returns-in-Ok-Ends c = descend_ends _ _ _ c.loop-pages-test.true _ c.visit.ensures _ (c.in-Ok-Ends.is ∙ ap Ok c.in-Ok-Ends.field-0-is) ∙ c.loop-pages.invariant

pub loop-pages-preserved : goal.loop-pages-preserved
loop-pages-preserved c = descend_goes _ _ _ c.loop-pages-test.true _ c.visit.ensures _ (c.in-Ok-Goes.is ∙ ap Ok c.in-Ok-Goes.field-0-is) ∙ c.loop-pages.invariant

pub returns : goal.returns
returns c = descend_over _ _ _ c.loop-pages.auto.pages-end (omega arith) ∙ c.loop-pages.invariant
