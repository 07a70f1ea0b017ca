-- The bits of `first` from `k` on are still to go through the zero bytes of a lane, and what the others gave is in `r`.
use mathlib.Core.Path.{◌≡◌}
use Prim.Native.Nat.{◌*◌, ◌/◌, ◌^◌}
use Rattle.crc.specs.Inside.{past_lane}
use Rattle.crc.proofs.Xor.{◌⊕◌}
use Rattle.crc.proofs.join.Given as goal

abbrev pub invariant-loop-k : goal.invariant-loop-k
invariant-loop-k l = past_lane l.first ⊕ l.second ≡ past_lane (l.first / 2 ^ l.k * 2 ^ l.k) ⊕ l.r
