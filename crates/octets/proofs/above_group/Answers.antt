use mathlib.Core.Path.{sym, ◌∙◌}
use Rattle.octets.proofs.BigOrder.{decided, ended}
use Rattle.octets.proofs.Same.{differ, alike}
use Rattle.octets.proofs.above_group.Goals as goal

pub returns-then-ne : goal.returns-then-ne
returns-then-ne c =
    decided _ _ _ (λ k. (c.type_inv.a k).fits) (λ k. (c.type_inv.b k).fits) c.requires.in_a c.requires.in_b c.requires
    c.eight-x.ensures c.eight-y.ensures (differ _ _ c.if-ne.ensures) c.from_be_bytes.ensures c.from_be_bytes-then-ne.ensures

pub returns : goal.returns
returns c =
    ended _ _ _ (λ k. (c.type_inv.a k).fits) (λ k. (c.type_inv.b k).fits) c.requires.in_a c.requires.in_b c.requires
    (sym c.eight-x.ensures ∙ alike _ _ c.if-ne.ensures ∙ c.eight-y.ensures)
