use mathlib.Core.Path.{ap, ◌∙◌}
use Rattle.walk.specs.Records.{is_one_of}
use Rattle.walk.proofs.Joins.{one_of_fold}
use Rattle.walk.proofs.is_shared.Goals as goal

pub returns-then-n-le192 : goal.returns-then-n-le192
returns-then-n-le192 c =
    c.seen_before.ensures ∙ one_of_fold c.args.block _ ∙ ap (is_one_of c.args.block) (c.requires.front c.if-n-le192.true)
