use Rattle.report.proofs.Lines.{no_label, a_label}
use Rattle.report.proofs.label_field.Goals as goal

pub returns-then-is_empty : goal.returns-then-is_empty
returns-then-is_empty c = no_label _ c.put.ensures c.if-is_empty.ensures

pub returns : goal.returns
returns c = a_label c.put_byte-behind.ensures c.put-2.ensures c.if-is_empty.ensures
