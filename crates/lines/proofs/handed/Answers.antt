use Rattle.std.proofs.Common.{rules, ◌≤◌}
use Rattle.lines.proofs.Pieces.{front_lent}
use borrow.Author.Tests.{le-leb}
use Rattle.lines.proofs.handed.Goals as goal

pub returns : goal.returns
returns c =
    let l : c.args.n.g ≤ 4096 = search rules in
    rw (le-leb _ _ l, ← front_lent 4096 c.args.n.g 65535 c.in-Some.lent c.get_mut.ensures.lookup c.in-Some.is) c.handed_over.ensures
