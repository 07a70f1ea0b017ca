-- What private functions promise: lanes. No public promise rests on these.
use Rattle.std.specs.Prelude.{ℕ, ◌*◌, ◌^◌, ◌<◌, ◌≡◌, List, get_or}
use Rattle.crc.specs.Crc.{step_bits}

-- how many bytes a lane has
abbrev pub lane : ℕ
lane = 1336

-- the register after as many zero bytes as a lane has
unfoldable pub past_lane : ℕ → ℕ
past_lane register = step_bits (8 * lane) register

-- word k is the register 2 ^ k after the zero bytes of a lane
unfoldable pub IsLaneWords : List ℕ → Type 0
IsLaneWords m = (k : ℕ) → k < 32 → get_or m k 0 ≡ past_lane (2 ^ k)
