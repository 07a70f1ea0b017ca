use Rattle.octets.proofs.Arrays.{big_or}
use Rattle.octets.proofs.big_at.Goals as goal

pub returns : goal.returns
returns c = big_or _ c.args.at c.array_at.ensures c.map_or.ensures
