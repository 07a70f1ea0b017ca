use mathlib.Core.Path.{◌≡◌, sym, ◌∙◌}
use mathlib.Core.Bool.{true, false}
use borrow.Author.Tests.{eq-eqb, not-true, not-false}
use Rattle.error.specs.Demand.{outcome}
use Rattle.octets.specs.Bytes.{same_bytes}
use Rattle.root.specs.Select.{same_root, select_pair}
use Rattle.root.proofs.Same.{root_same}
use Rattle.root.proofs.select_pair.Goals as goal

pub returns-then-ne-2 : goal.returns-then-ne-2
unfolding select_pair outcome
returns-then-ne-2 c =
    let named : same_bytes c.args.a.uuid c.args.b.uuid ≡ true = not-false _ (sym c.ne.ensures ∙ c.if-ne.false) in
    let other : same_root c.args.a c.args.b ≡ false = sym (root_same _ _) ∙ not-true _ (sym c.ne-then-a-b.ensures ∙ c.if-ne-2.true) in
    rw (named, eq-eqb _ _ c.if-a-b.true, other)
