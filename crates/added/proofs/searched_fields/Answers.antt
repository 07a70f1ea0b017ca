use Rattle.std.proofs.Common.{◌≡◌, ◌≤◌, length, arith, sym}
use borrow.Author.Tests.{le-leb}
use Rattle.added.specs.Line.{searched_told}
use Rattle.added.proofs.Lent.{lent_size}
use Rattle.added.proofs.searched_fields.Goals as goal

pub returns : goal.returns
unfolding searched_told
returns c =
    let s = lent_size c.args.image.now c.number.result c.in-Some.lent c.get_mut.ensures.lookup c.in-Some.is in
    let l : c.number.result ≤ 2621440 = omega (arith, s.0) in
    let same : length c.in-Some.lent.now ≡ c.number.result = s.1 in
    rw (sym c.number.ensures, le-leb _ _ l, ← same, ← c.searched.ensures, ← c.search_words.ensures) c.number_fields.ensures
