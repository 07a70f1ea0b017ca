use mathlib.Core.Path.{refl}
use Prim.Native.Nat.{◌*◌}
use native.Mathlib.Omega.{arith}
use lib.ListN.{take, drop}
use Rattle.crc.specs.Inside.{lane}
use Rattle.crc.proofs.Lanes.{lane_none, lane_turn, three_lanes}
use Rattle.crc.proofs.step_round.Goals as goal

pub loop-i-init : goal.loop-i-init
loop-i-init c = (lane_none c.args.crc, lane_none 0, lane_none 0)

pub loop-i-preserved : goal.loop-i-preserved
loop-i-preserved c =
    let bs = c.args.bytes.now in
    let i = c.loop-i.i in (
      lane_turn c.args.crc 0 i bs (take lane bs) c.as_chunks.result.0.now _ refl (omega arith) (omega arith) c.as_chunks.ensures.front c.loop-i.invariant.0 c.step8-x.ensures,
      lane_turn 0 lane i bs (take lane (drop lane bs)) c.as_chunks-2.result.0.now _ refl (omega arith) (omega arith) c.as_chunks-2.ensures.front c.loop-i.invariant.1 c.step8-y.ensures,
      lane_turn 0 (2 * lane) i bs (take lane (drop (2 * lane) bs)) c.as_chunks-3.result.0.now _ refl (omega arith) (omega arith) c.as_chunks-3.ensures.front c.loop-i.invariant.2 c.step8-z.ensures,
    )

pub returns : goal.returns
returns c = search three_lanes
