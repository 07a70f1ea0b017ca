use Rattle.std.proofs.Common.{◌≡◌}
use Rattle.added.specs.Image.{laid_pages}
use Rattle.added.proofs.lay_pages.Given as goal

abbrev pub invariant-loop-i : goal.invariant-loop-i
invariant-loop-i l = l.image ≡ laid_pages l.initial.image l.pages l.i
