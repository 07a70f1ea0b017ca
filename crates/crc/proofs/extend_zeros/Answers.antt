use mathlib.Core.Path.{◌∙◌}
use Prim.Native.Nat.{◌-◌, ◌+◌, ◌*◌, ◌%◌}
use native.Mathlib.Omega.{arith}
use Rattle.crc.specs.Inside.{lane}
use Rattle.crc.proofs.Parts.{zeros_more, zeros_done, zero_byte}
use Rattle.crc.proofs.Lanes.{lane_zeros}
use Rattle.crc.proofs.extend_zeros.Goals as goal

pub loop-preserved : goal.loop-preserved
loop-preserved c =
    let l = c.loop in
    zeros_more l.r lane (c.args.count - lane * (l.counter + 1)) (c.args.count - lane * l.counter) l.invariant (omega arith) (c.past_lane-r.ensures ∙ lane_zeros l.r)

pub loop-2-preserved : goal.loop-2-preserved
loop-2-preserved c =
    let l = c.loop-2 in
    zeros_more l.r 8 (c.args.count % lane - 8 * (l.counter + 1)) (c.args.count % lane - 8 * l.counter) l.invariant (omega arith) c.step8-r.ensures

pub loop-3-preserved : goal.loop-3-preserved
loop-3-preserved c =
    let l = c.loop-3 in
    zeros_more l.r 1 (c.args.count % 8 - (l.counter + 1)) (c.args.count % 8 - l.counter) l.invariant (omega arith) (c.step1-r.ensures ∙ zero_byte l.r)

pub returns : goal.returns
returns c = zeros_done (c.args.count % 8 - c.loop-3.counter) c.loop-3.invariant (omega arith)
