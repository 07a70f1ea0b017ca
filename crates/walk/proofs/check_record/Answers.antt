use Rattle.std.proofs.lemmas.Result.{err_from_is_err_and}
use Rattle.walk.proofs.Turns.{turn_own, turn_passes}
use Rattle.walk.proofs.check_record.Goals as goal

pub returns-in_err-number : goal.returns-in_err-number
returns-in_err-number c =
    let p = err_from_is_err_and c.from_residual-in_err-number.result c.from_residual-in_err-number.ensures.1 in
    rw (p.1, p.2) (turn_own _ _ _ _ _ _ c.record_form.ensures _ c.in_ok-key_len.was _ c.own_number.ensures _ c.in_err-number.was)

pub returns : goal.returns
returns c = turn_passes _ _ _ _ _ _ c.record_form.ensures _ c.in_ok-key_len.was _ c.own_number.ensures _ c.in_ok-number.was
