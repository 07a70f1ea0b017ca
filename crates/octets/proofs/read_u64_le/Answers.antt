use mir.Syntax.{w64}
use Rattle.octets.proofs.Arrays.{number_read}
use Rattle.octets.proofs.read_u64_le.Goals as goal

pub returns : goal.returns
returns c =
    let answer = number_read w64 _ c.args.offset c.args.reason c.read_array.ensures c.in_ok-read_array.was c.from_le_bytes.ensures in
    record { answer = answer; words = rw answer }
