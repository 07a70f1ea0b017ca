use Rattle.std.proofs.Common.{ap, ℕ, ◌*◌}
use Rattle.added.proofs.Laying.{page_laid}
use Rattle.added.proofs.lay_page.Goals as goal

pub returns : goal.returns
returns c = page_laid c.args.image.now c.args.page.now (c.u64_at-block.result * 4096) c.put.ensures (ap (λ (b : ℕ). b * 4096) c.u64_at-block.ensures) c.span.ensures.bytes
