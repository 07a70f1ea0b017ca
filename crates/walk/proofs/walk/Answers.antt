use mathlib.Core.Path.{refl}
use Prim.Native.Nat.{◌+◌, ◌≤◌}
use native.Mathlib.Omega.{arith}
use Rattle.std.proofs.lemmas.Result.{err_from_is_err_and}
use Rattle.walk.proofs.Going.{end_left, end_total}
use Rattle.walk.proofs.Loops.{walking_start, walk_refused, walk_unjoined, walk_size, walk_on}
use Rattle.walk.proofs.walk.Goals as goal
use Rattle.walk.proofs.walk.Goals.{In_ok-total}

-- the record that passed lies within the payload
size : (c : In_ok-total) → c.loop-i.position + 4 + c.in_ok-key_len.field-0.key_len + c.in_ok-key_len.field-0.value_len ≤ c.args.payload_length
size c =
    walk_size _ _ _ _ _ _ _ _ _ c.loop-i.invariant c.loop-i-test.true _ c.check_record.ensures _ c.in_ok-key_len.was _ c.join.ensures _ c.in_ok-total.was

pub loop-i-init : goal.loop-i-init
loop-i-init c = walking_start _ _ _ _ _ refl

pub returns-in_err-key_len : goal.returns-in_err-key_len
returns-in_err-key_len c =
    let p = err_from_is_err_and c.from_residual.result c.from_residual.ensures.1 in
    rw (p.1, p.2) (walk_refused _ _ _ _ _ _ _ _ _ c.loop-i.invariant c.loop-i-test.true _ c.check_record.ensures _ c.in_err-key_len.was)

pub returns-in_err-total : goal.returns-in_err-total
returns-in_err-total c =
    let p = err_from_is_err_and c.from_residual-in_err-total.result c.from_residual-in_err-total.ensures.1 in
    rw (p.1, p.2) (walk_unjoined _ _ _ _ _ _ _ _ _ c.loop-i.invariant c.loop-i-test.true _ c.check_record.ensures _ c.in_ok-key_len.was _ c.join.ensures _ c.in_err-total.was)

pub overflow_add-key_end : goal.overflow_add-key_end
overflow_add-key_end c = omega (arith, size c)

pub overflow_add-position : goal.overflow_add-position
overflow_add-position c = omega (arith, size c)

pub slice_bounds-previous-end-in-loop-i : goal.slice_bounds-previous-end-in-loop-i
slice_bounds-previous-end-in-loop-i c = omega (arith, size c, c.requires)

pub loop-i-preserved : goal.loop-i-preserved
loop-i-preserved c =
    walk_on _ _ _ _ _ _ _ _ _ c.loop-i.invariant c.loop-i-test.true _ c.check_record.ensures _ c.in_ok-key_len.was _ c.join.ensures _ c.in_ok-total.was c.requires

pub returns-then-position-payload_length : goal.returns-then-position-payload_length
returns-then-position-payload_length c =
    end_left _ _ _ _ _ _ _ _ _ _ _ c.loop-i.invariant.going (omega arith) _ (omega arith) c.violation.ensures

pub returns : goal.returns
returns c = end_total _ _ _ _ _ _ _ _ _ _ _ c.loop-i.invariant.going (omega arith) (omega arith)
