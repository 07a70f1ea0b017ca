use mathlib.Core.Path.{sym, ◌∙◌}
use Prim.Native.Nat.{◌+◌, ◌/◌}
use native.Mathlib.Omega.{arith}
use borrow.Author.Tests.{lt-ltb, le-ltb}
use Rattle.lookup.proofs.RecordLaws.{whole_fits}
use Rattle.lookup.proofs.BisectLaws.{reached_down, reached_up, reached_end}
use Rattle.lookup.proofs.bisect_records.Goals as goal

pub above_at-requires : goal.above_at-requires
above_at-requires c =
    let w = c.requires ((c.loop-low.low + c.loop-low.high) / 2) (omega arith) in
    rw (c.from-at.ensures) (w, whole_fits c.args.part.now c.args.key.now _ w)

pub loop-low-preserved-then-above_at : goal.loop-low-preserved-then-above_at
loop-low-preserved-then-above_at c =
    (omega arith, omega arith, reached_down _ _ _ _ _ _ (omega arith) (rw (← c.from-at.ensures) (sym c.above_at.ensures ∙ c.if-above_at.true)) c.loop-low.invariant.2)

pub loop-low-preserved : goal.loop-low-preserved
loop-low-preserved c =
    (omega arith, omega arith, reached_up _ _ _ _ _ _ (omega arith) (rw (← c.from-at.ensures) (sym c.above_at.ensures ∙ c.if-above_at.false)) c.loop-low.invariant.2)

pub returns-in_err-index : goal.returns-in_err-index
returns-in_err-index c =
    rw (c.from_residual.ensures, ← reached_end _ _ _ _ _ _ c.loop-low-test.false c.loop-low.invariant.2, le-ltb 0 c.loop-low.low (omega (arith, c.in_err-index.ensures)))

pub returns : goal.returns
returns c =
    let e = c.in_ok-index.ensures in
    rw (← reached_end _ _ _ _ _ _ c.loop-low-test.false c.loop-low.invariant.2, lt-ltb 0 c.loop-low.low (omega (arith, e)), c.from-offset.ensures, e.1)
