-- The register after all the zeros is that after those that are left, from `r`.
use mathlib.Core.Path.{◌≡◌}
use Prim.Native.Nat.{◌-◌, ◌*◌, ◌%◌}
use lib.ListN.{replicate}
use Rattle.crc.specs.Crc.{extend}
use Rattle.crc.specs.Inside.{lane}
use Rattle.crc.proofs.extend_zeros.Given as goal

abbrev pub invariant-loop : goal.invariant-loop
invariant-loop l = extend l.crc (replicate l.count 0) ≡ extend l.r (replicate (l.count - lane * l.counter) 0)

abbrev pub invariant-loop-2 : goal.invariant-loop-2
invariant-loop-2 l = extend l.crc (replicate l.count 0) ≡ extend l.r (replicate (l.count % lane - 8 * l.counter) 0)

abbrev pub invariant-loop-3 : goal.invariant-loop-3
invariant-loop-3 l = extend l.crc (replicate l.count 0) ≡ extend l.r (replicate (l.count % 8 - l.counter) 0)
