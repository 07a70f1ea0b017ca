use Rattle.std.proofs.Common.{rules, tests}
use mathlib.Core.Path.{◌≡◌, refl}
use mathlib.Core.Bool.{true, false}
use Prim.Native.Nat.{◌-◌}
use Rattle.std.proofs.lemmas.Iterator.{cases_from_all, YieldsList-from_range}
use Rattle.record.specs.Allocation.{block_taken}
use Rattle.record.proofs.Taken.{bits_told}
use Rattle.record.proofs.bits_taken.Goals as goal

pub returns : goal.returns
returns c =
    let a = c.args in
    bits_told a.bitmap.now a.start a.end c.all.result
    (cases_from_all c.all.new.self _ _ (λ b. block_taken a.bitmap.now b ≡ true) (λ b. block_taken a.bitmap.now b ≡ false) c.all.ensures.ran (YieldsList-from_range a.start a.end (a.end - a.start) refl refl) (λ x q k. search (rules, tests)) (λ x q k. search (rules, tests)))
