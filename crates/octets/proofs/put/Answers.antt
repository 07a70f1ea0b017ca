use Prim.Native.Nat.{◌+◌, ◌-◌}
use mathlib.Core.Path.{◌≡◌}
use native.Mathlib.Omega.{arith}
use Rattle.octets.proofs.Lay.{laid_out, laid_front}
use Rattle.octets.proofs.put.Goals as goal

pub returns-then-out-at : goal.returns-then-out-at
returns-then-out-at c = let a = c.args in laid_out a.out.now a.at a.bytes.now (omega arith)

pub returns : goal.returns
returns c =
    let a = c.args in
    let n = c.min-n.result in
    let e : a.at + n - a.at ≡ n = omega arith in
    rw (e, c.copy_from_slice.ensures.after) (laid_front a.out.now a.bytes.now a.at n (omega arith) c.min-n.ensures)
