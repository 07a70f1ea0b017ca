use mathlib.Core.Path.{◌≡◌}
use borrow.Author.Rules.{rules}
use Rattle.std.specs.Prelude.{Err}
use Rattle.calls.proofs.Cut.{asked_begun, asked_refused}
use Rattle.calls.proofs.pieces.pieces_sum.Goals as goal

pub returns-in_err-sum : goal.returns-in_err-sum
returns-in_err-sum c =
    let handed : c.from_residual.result ≡ Err c.in_err-sum.field-0.0 = search rules in
    asked_refused c.args.n c.args.uuid.now c.args.bytes.now c.padded-id.result c.in_err-sum.field-0.0 c.padded-id.ensures c.new.ensures.answer c.in_err-sum.was handed

pub returns : goal.returns
returns c =
    asked_begun c.args.n c.args.uuid.now c.args.bytes.now c.padded-id.result c.padded-id.ensures c.new.ensures.answer c.in_ok-sum.was c.feed.ensures c.finish.ensures.answer
