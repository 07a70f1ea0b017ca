-- Each lane's register is that after its first `i` eights.
use mathlib.Core.Path.{◌≡◌}
use Prim.Native.Nat.{◌*◌}
use Rattle.octets.specs.Bytes.{part}
use Rattle.crc.specs.Crc.{extend}
use Rattle.crc.specs.Inside.{lane}
use Rattle.crc.proofs.step_round.Given as goal

abbrev pub invariant-loop-i : goal.invariant-loop-i
invariant-loop-i l =
    (l.x ≡ extend l.crc (part l.bytes 0 (8 * l.i)))
    × (l.y ≡ extend 0 (part l.bytes lane (8 * l.i)))
    × (l.z ≡ extend 0 (part l.bytes (2 * lane) (8 * l.i)))
