use mathlib.Core.Path.{◌≡◌, ap}
use borrow.Author.Rules.{rules}
use Rattle.std.specs.Prelude.{Err}
use Rattle.error.specs.Answer.{number_words}
use Rattle.crc.proofs.Pieces.{at_once_refused}
use Rattle.crc.proofs.data_unit_crc.Goals as goal

pub returns-in_err-sum-clause-answer : goal.returns-in_err-sum-clause-answer
returns-in_err-sum-clause-answer c =
    let handed : c.from_residual.result ≡ Err c.in_err-sum.field-0.0 = search rules in
    at_once_refused c.args.uuid.now c.args.object c.args.unit c.args.valid.now c.in_err-sum.field-0.0 c.new.ensures.answer c.in_err-sum.was handed

pub returns-in_err-sum-clause-words : goal.returns-in_err-sum-clause-words
returns-in_err-sum-clause-words c = ap number_words (returns-in_err-sum-clause-answer c)
