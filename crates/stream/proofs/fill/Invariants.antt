use Rattle.std.proofs.Common.{length, take, ◌-◌, ◌≤◌, ◌≡◌}
use Rattle.std.specs.Io.KnownBytes.{Consumes}
use Rattle.stream.proofs.fill.Given as goal

abbrev pub invariant-loop-more : goal.invariant-loop-more
invariant-loop-more g l = (length l.buf ≡ length l.initial.buf) × (l.have ≤ length l.buf) × Consumes (g.R.Read.remaining l.initial.input) (g.R.Read.remaining l.input) (take l.have l.buf)

abbrev pub decreases-loop-more : goal.decreases-loop-more
decreases-loop-more g l = length l.buf - l.have
