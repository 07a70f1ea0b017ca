use Rattle.std.proofs.Common.{rules, tests}
use mathlib.Core.Path.{◌≡◌}
use Rattle.std.proofs.lemmas.Iterator.{cases_from_all, YieldsList-from_slice}
use Rattle.record.proofs.Taken.{bytes_told}
use Rattle.record.proofs.bytes_full.Goals as goal

pub returns : goal.returns
returns c =
    let s = c.args.bytes.now in
    bytes_told s c.all.result
    (cases_from_all c.all.new.self _ _ (λ b. b ≡ 255) (λ b. b ≡ 255 → ⊥) c.all.ensures.ran (YieldsList-from_slice s cc) (λ x q k. search (rules, tests)) (λ x q k. search (rules, tests)))
