-- `crc::lane_words` meets its contract: antt computes the test of the words once, here.
use mathlib.Core.Path.{refl}
use Rattle.crc.specs.Crc.{step_bit, step_bits}
use Rattle.crc.proofs.Lanes.{words_rule, words_right}
use Rattle.crc.proofs.lane_words.Goals as goal

pub returns : goal.returns
unfolding words_right step_bits step_bit
returns c = words_rule _ tt refl
