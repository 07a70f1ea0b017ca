use Rattle.added.proofs.Laying.{pages_more}
use Rattle.added.proofs.lay_pages.Goals as goal

pub loop-i-preserved : goal.loop-i-preserved
loop-i-preserved c = pages_more c.args.image.now c.args.pages.now c.loop-i.i c.loop-i.invariant c.span.ensures.bytes c.lay_page.ensures
