use mathlib.Core.Path.{sym, ◌∙◌}
use Prim.Native.Nat.{◌+◌}
use native.Mathlib.Omega.{arith}
use Rattle.octets.proofs.BigOrder.{last_eight}
use Rattle.octets.proofs.Parts.{grow}
use Rattle.octets.proofs.Same.{alike}
use Rattle.octets.proofs.deciding_group.Goals as goal

pub loop-i-preserved : goal.loop-i-preserved
loop-i-preserved c = grow _ _ c.loop-i.i 8 c.loop-i.invariant (sym c.eight.ensures ∙ alike _ _ c.if-ne.ensures ∙ c.eight-in-loop-i.ensures)

pub returns : goal.returns
returns c = last_eight _ _ c.loop-i.i _ c.loop-i.invariant (omega arith) c.requires

pub returns-else-ne : goal.returns-else-ne
returns-else-ne c =
    last_eight _ _ (c.loop-i.i + 8) _ (grow _ _ c.loop-i.i 8 c.loop-i.invariant (sym c.eight.ensures ∙ alike _ _ c.if-ne.ensures ∙ c.eight-in-loop-i.ensures)) (omega arith) c.requires
