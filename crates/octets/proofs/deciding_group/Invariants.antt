-- Invariant: the strings are the same up to `i`.
use mathlib.Core.Path.{◌≡◌}
use lib.ListN.{take}
use Rattle.octets.proofs.deciding_group.Given as goal

abbrev pub invariant-loop-i : goal.invariant-loop-i
invariant-loop-i l = take l.i l.a ≡ take l.i l.b
