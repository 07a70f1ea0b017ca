use mir.Syntax.{w64}
use Rattle.octets.proofs.Arrays.{number_at}
use Rattle.octets.proofs.u64_at.Goals as goal

pub returns : goal.returns
returns c = number_at w64 _ c.args.at c.filled_at.ensures c.from_le_bytes.ensures
