use mathlib.Core.Path.{◌≡◌}
use lib.Bits.{bit_or}
use borrow.Author.Rules.{rules}
use Rattle.std.specs.List.{fold}
use Rattle.std.proofs.lemmas.Iterator.{YieldsList-from_slice}
use Rattle.std.proofs.lemmas.Iterator.Consumers.{fold_from_yields_List}
use Rattle.octets.proofs.Zero.{zero_fold}
use Rattle.octets.proofs.all_zero.Goals as goal

pub returns : goal.returns
returns c =
    let e : c.fold.result ≡ fold bit_or 0 c.args.bytes.now =
    fold_from_yields_List _ bit_or 0 _ c.fold.ensures.ran (YieldsList-from_slice _ c.iter.ensures.rest) (λ a x b q k. search rules) in
    rw e (zero_fold 0 c.args.bytes.now)
