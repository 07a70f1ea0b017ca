use native.Mathlib.Omega.{arith}
use Rattle.group.proofs.Bitmap.{none_stored, last_in, last_stored, stored_le}
use Rattle.group.proofs.stored_slots.Goals as goal

pub returns-in_default : goal.returns-in_default
returns-in_default c = (none_stored c.args.group.now c.requires c.in_default.ensures, omega arith)

pub overflow_mul-result : goal.overflow_mul-result
overflow_mul-result c = omega (arith, last_in c.args.group.now c.requires _ c.in-Some.ensures.0)

pub overflow_add-result : goal.overflow_add-result
overflow_add-result c = omega (arith, last_in c.args.group.now c.requires _ c.in-Some.ensures.0)

pub bounds-group-index : goal.bounds-group-index
bounds-group-index c = omega (arith, last_in c.args.group.now c.requires _ c.in-Some.ensures.0)

pub returns : goal.returns
returns c =
    let g = c.args.group.now in
    let h = c.in-Some.ensures in
    let e = last_stored g c.requires _ h.0 h.1 h.2 (c.type_inv.group c.in-Some.index).fits in
    (e, omega (arith, e, stored_le g))
