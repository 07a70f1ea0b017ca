use Rattle.crc.proofs.Parts.{front_lem}
use Rattle.crc.proofs.front_register.Goals as goal

pub returns : goal.returns
returns c = search front_lem
