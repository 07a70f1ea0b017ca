use mir.Syntax.{w16}
use Rattle.octets.proofs.Arrays.{number_at}
use Rattle.octets.proofs.u16_at.Goals as goal

pub returns : goal.returns
returns c = number_at w16 _ c.args.at c.filled_at.ensures c.from_le_bytes.ensures
