use mathlib.Core.Path.{◌∙◌}
use Rattle.octets.proofs.OrderLaws.{order_is}
use Rattle.octets.proofs.compare.Goals as goal

pub returns : goal.returns
returns c =
    let answer = c.cmp.ensures ∙ order_is _ _ in
    record { answer = answer; words = rw answer }
