use mathlib.Core.Path.{sym}
use native.Mathlib.Omega.{arith}
use Rattle.std.proofs.lemmas.Result.{err_from_is_err_and}
use Rattle.octets.proofs.Bit.{mask_clear, mask_set}
use Rattle.group.proofs.Slots.{slot_hole, word_read, word_refused}
use Rattle.group.proofs.checksum_slot.Goals as goal

pub returns-then-group-slot-eq0 : goal.returns-then-group-slot-eq0
returns-then-group-slot-eq0 c =
    let a = c.args in
    let answer = sym (slot_hole a.group.now a.slot (omega arith) (omega arith) (mask_clear a.group.now a.slot c.if-group-slot-eq0.true)) in
    record { answer = answer; words = rw answer }

pub returns-in_err-word : goal.returns-in_err-word
returns-in_err-word c =
    let a = c.args in
    let p = err_from_is_err_and c.from_residual.result c.from_residual.ensures.1 in
    let answer = word_refused a.group.now a.slot (omega arith) (omega arith) (mask_set a.group.now a.slot c.if-group-slot-eq0.false) c.read_u32_le.result c.read_u32_le.ensures.answer _ c.in_err-word.was in
    rw (p.1, p.2) (record { answer = answer; words = rw answer })

pub returns : goal.returns
returns c =
    let a = c.args in
    let answer = word_read a.group.now a.slot (omega arith) (omega arith) (mask_set a.group.now a.slot c.if-group-slot-eq0.false) c.read_u32_le.result c.read_u32_le.ensures.answer _ c.in_ok-word.was in
    record { answer = answer; words = rw answer }
