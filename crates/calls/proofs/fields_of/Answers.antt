use native.Mathlib.Omega.{arith}
use mathlib.Core.Path.{◌∙◌}
use Rattle.calls.proofs.Rows.{told_among}
use Rattle.calls.specs.Table.{table, fields_of, word_rows, octet_rows, block_rows, inode_rows, entry_rows, record_rows, root_rows, page_rows, piece_rows}
use Rattle.calls.proofs.fields_of.Goals as goal

pub returns-in-0-to-5 : goal.returns-in-0-to-5
unfolding fields_of word_rows octet_rows block_rows inode_rows entry_rows record_rows root_rows page_rows piece_rows
returns-in-0-to-5 c = c.answer.ensures ∙ told_among 0 5 _ (table c.args.n c.args.a.now c.args.b.now) (omega arith) (omega arith)

pub returns-in-6-to-11 : goal.returns-in-6-to-11
unfolding fields_of word_rows octet_rows block_rows inode_rows entry_rows record_rows root_rows page_rows piece_rows
returns-in-6-to-11 c = c.answer-in-6-to-11.ensures ∙ told_among 6 11 _ (table c.args.n c.args.a.now c.args.b.now) (omega arith) (omega arith)

pub returns-in-12-to-19 : goal.returns-in-12-to-19
unfolding fields_of word_rows octet_rows block_rows inode_rows entry_rows record_rows root_rows page_rows piece_rows
returns-in-12-to-19 c = c.answer-in-12-to-19.ensures ∙ told_among 12 19 _ (table c.args.n c.args.a.now c.args.b.now) (omega arith) (omega arith)

pub returns-in-20-to-23 : goal.returns-in-20-to-23
unfolding fields_of word_rows octet_rows block_rows inode_rows entry_rows record_rows root_rows page_rows piece_rows
returns-in-20-to-23 c = c.answer_inode.ensures ∙ told_among 20 23 _ (table c.args.n c.args.a.now c.args.b.now) (omega arith) (omega arith)

pub returns-in-24-to-26 : goal.returns-in-24-to-26
unfolding fields_of word_rows octet_rows block_rows inode_rows entry_rows record_rows root_rows page_rows piece_rows
returns-in-24-to-26 c = c.answer_entry.ensures ∙ told_among 24 26 _ (table c.args.n c.args.a.now c.args.b.now) (omega arith) (omega arith)

pub returns-in-27-to-31 : goal.returns-in-27-to-31
unfolding fields_of word_rows octet_rows block_rows inode_rows entry_rows record_rows root_rows page_rows piece_rows
returns-in-27-to-31 c = c.answer_record.ensures ∙ told_among 27 31 _ (table c.args.n c.args.a.now c.args.b.now) (omega arith) (omega arith)

pub returns-in-32-to-35 : goal.returns-in-32-to-35
unfolding fields_of word_rows octet_rows block_rows inode_rows entry_rows record_rows root_rows page_rows piece_rows
returns-in-32-to-35 c = c.answer-in-32-to-35.ensures ∙ told_among 32 35 _ (table c.args.n c.args.a.now c.args.b.now) (omega arith) (omega arith)

pub returns-in-36-to-43 : goal.returns-in-36-to-43
unfolding fields_of word_rows octet_rows block_rows inode_rows entry_rows record_rows root_rows page_rows piece_rows
returns-in-36-to-43 c = c.answer-in-36-to-43.ensures ∙ told_among 36 43 _ (table c.args.n c.args.a.now c.args.b.now) (omega arith) (omega arith)

pub returns-in_default : goal.returns-in_default
unfolding fields_of word_rows octet_rows block_rows inode_rows entry_rows record_rows root_rows page_rows piece_rows
returns-in_default c = c.answer-in_default.ensures ∙ told_among 44 255 _ (table c.args.n c.args.a.now c.args.b.now) (omega arith) (omega arith)
