-- `crc::tables` meets its contract: antt computes the test of all the entries once, here, and the law of the tables does the rest.
use mathlib.Core.Path.{refl}
use Rattle.crc.specs.Crc.{step_bit, step_bits}
use Rattle.crc.proofs.Table.{rule, right}
use Rattle.crc.proofs.tables.Goals as goal

pub returns : goal.returns
unfolding right step_bits step_bit
returns c = rule _ tt refl
