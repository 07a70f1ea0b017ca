-- `crc::entry` meets its contract: a mask of eight bits is a remainder, which keeps the index within the table of k.
use mathlib.Core.Path.{ap, ◌∙◌}
use Prim.Native.Nat.{◌+◌, ◌*◌}
use lib.Bits.{bit_and, and_mask, mask_lt}
use Rattle.crc.specs.Crc.{step_bits}
use Rattle.crc.specs.Tables.{IsTables}
use Rattle.crc.proofs.Linear.{extend_entry}
use Rattle.crc.proofs.entry.Goals as goal

pub returns : goal.returns
unfolding IsTables
returns c =
    c.tables.ensures c.args.k (bit_and c.args.x 255) c.requires (mask_lt c.args.x 8)
    ∙ extend_entry c.args.k (bit_and c.args.x 255)
    ∙ ap (step_bits (8 * (c.args.k + 1))) (and_mask c.args.x 8)
