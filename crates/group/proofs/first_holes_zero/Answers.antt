use native.Mathlib.Omega.{arith}
use Rattle.group.proofs.Holes.{bytes_more, bytes_stop, bytes_end}
use Rattle.group.proofs.first_holes_zero.Goals as goal

pub returns-then-not-eight_zero : goal.returns-then-not-eight_zero
returns-then-not-eight_zero c =
    bytes_stop _ _ c.requires.0 _ c.as_chunks.ensures.front c.as_chunks.ensures.front_len c.loop-k.k _ c.loop-k-test.true c.if-not-eight_zero.true c.eight_zero.ensures

pub loop-k-preserved : goal.loop-k-preserved
loop-k-preserved c =
    bytes_more _ _ c.requires.0 _ c.as_chunks.ensures.front c.as_chunks.ensures.front_len c.loop-k.k _ c.loop-k-test.true c.loop-k.invariant c.if-not-eight_zero.false c.eight_zero.ensures

pub returns : goal.returns
returns c =
    bytes_end _ _ c.requires.0 _ c.as_chunks.ensures.front c.as_chunks.ensures.front_len c.loop-k.k _ _ (omega (arith, c.loop-k-test.false)) c.loop-k.auto.k-end c.loop-k.invariant c.as_chunks.ensures.back c.slots_zero.ensures
