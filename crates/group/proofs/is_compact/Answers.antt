use Rattle.group.proofs.Compact.{compact_no, compact_rest}
use borrow.Author.Tests.{ne_eqb}
use mathlib.Core.Path.{◌∙◌}
use Rattle.group.proofs.is_compact.Goals as goal

pub returns-else-value-byte-eq1 : goal.returns-else-value-byte-eq1
returns-else-value-byte-eq1 c = ne_eqb _ _ c.if-value-byte-eq1.false ∙ compact_no c.args.value.now (record { below = λ i. (c.type_inv.value i).fits }) c.requires c.if-value-byte-eq1.false

pub returns-then-value-byte-eq1 : goal.returns-then-value-byte-eq1
returns-then-value-byte-eq1 c = c.all_zero.ensures ∙ compact_rest c.args.value.now (record { below = λ i. (c.type_inv.value i).fits }) c.requires c.if-value-byte-eq1.true
