use mathlib.Core.Path.{sym, ◌∙◌}
use Prim.Native.Nat.{◌*◌, ◌/◌}
use native.Mathlib.Omega.{arith}
use Rattle.record.proofs.Taken.{whole, none_whole, none_before, all_but_last}
use Rattle.record.proofs.taken_between.Goals as goal

pub returns-then-not-bytes_full : goal.returns-then-not-bytes_full
returns-then-not-bytes_full c =
    let a = c.args in
    let h = c.in-Some.ensures.lookup in
    let w = whole a.bitmap.now c.div_ceil-first.result c.fits-bitmap (a.end / 8) c.in-Some.whole.now (omega arith) h.0.1 h.0.2 c.told-bitmap in
    none_whole a.bitmap.now a.start (8 * c.div_ceil-first.result) (8 * (a.end / 8)) a.end (omega (arith, c.div_ceil-first.ensures)) (omega arith) (omega arith) (sym w ∙ sym c.if-not-bytes_full.ensures)

pub returns-then-not-bits_taken : goal.returns-then-not-bits_taken
returns-then-not-bits_taken c =
    let a = c.args in
    none_before a.bitmap.now a.start (8 * c.div_ceil-first.result) (8 * (a.end / 8)) a.end (omega (arith, c.div_ceil-first.ensures)) (omega arith) (omega arith) (sym c.if-not-bits_taken.ensures)

pub returns : goal.returns
returns c =
    let a = c.args in
    let h = c.in-Some.ensures.lookup in
    let w = whole a.bitmap.now c.div_ceil-first.result c.fits-bitmap (a.end / 8) c.in-Some.whole.now (omega arith) h.0.1 h.0.2 c.told-bitmap in
    c.bits_taken-3.ensures
    ∙ all_but_last a.bitmap.now a.start (8 * c.div_ceil-first.result) (8 * (a.end / 8)) a.end (omega (arith, c.div_ceil-first.ensures)) (omega arith) (omega arith) (sym w ∙ sym c.if-not-bytes_full.ensures) (sym c.if-not-bits_taken.ensures)
