use mathlib.Core.Path.{◌∙◌}
use Prim.Native.Nat.{◌≤◌}
use native.Mathlib.Omega.{arith}
use Rattle.std.proofs.lemmas.Grind.{common_steps}
use Rattle.lookup.specs.declared.Lengths.{Lengths}
use Rattle.walk.proofs.Forms.{form_last}
use Rattle.walk.proofs.record_form.Goals as goal

pub returns-then-not-is_above : goal.returns-then-not-is_above
returns-then-not-is_above c =
    let l : Lengths = record { key_len = c.from-key_len.result; value_len = c.from-value_len.result } in
    let low : 1 ≤ c.from-key_len.result = grind (arith, common_steps, c.if-not-contains.ensures) in
    let high : c.from-key_len.result ≤ 1024 = grind (arith, common_steps, c.if-not-contains.ensures) in
    rw (form_last _ _ c.args.left c.args.mode l _ (c.from-key_len.ensures ∙ c.u16_at.ensures) (c.from-value_len.ensures ∙ c.u16_at-2.ensures) (omega arith) low high (omega arith) (omega arith) c.is_above.ensures, c.if-not-is_above.true, c.violation-then-not-is_above.ensures)

pub returns : goal.returns
returns c =
    let l : Lengths = record { key_len = c.from-key_len.result; value_len = c.from-value_len.result } in
    let low : 1 ≤ c.from-key_len.result = grind (arith, common_steps, c.if-not-contains.ensures) in
    let high : c.from-key_len.result ≤ 1024 = grind (arith, common_steps, c.if-not-contains.ensures) in
    rw (form_last _ _ c.args.left c.args.mode l _ (c.from-key_len.ensures ∙ c.u16_at.ensures) (c.from-value_len.ensures ∙ c.u16_at-2.ensures) (omega arith) low high (omega arith) (omega arith) c.is_above.ensures, c.if-not-is_above.false)
