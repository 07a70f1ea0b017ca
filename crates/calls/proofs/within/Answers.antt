use Rattle.calls.proofs.within.Goals as goal

pub returns : goal.returns
returns g c = (c.try_from.result, (c.try_from.ensures, c.unwrap_or_default.ensures))
