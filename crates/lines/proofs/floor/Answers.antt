use Rattle.std.proofs.Common.{rules, ◌≡◌, ◌≤◌}
use Rattle.calls.proofs.Narrow.{within_is_at_most}
use Rattle.lines.proofs.Pieces.{front_lent}
use borrow.Author.Tests.{le-leb}
use Rattle.calls.specs.Told.{at_most}
use Rattle.lines.proofs.floor.Goals as goal

pub returns : goal.returns
returns c =
    let l : c.args.n.b ≤ 4096 = search rules in
    let e : c.within-scratch.result ≡ at_most 65535 c.args.n.c = within_is_at_most 65535 c.args.n.c c.within-scratch.result c.within-scratch.ensures in
    rw (le-leb _ _ l, ← e, ← front_lent 4096 c.args.n.b c.within-scratch.result c.in-Some.lent c.get_mut.ensures.lookup c.in-Some.is) c.floor_over.ensures
