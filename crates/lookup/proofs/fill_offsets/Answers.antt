use mathlib.Core.Path.{◌≡◌, sym, ◌∙◌}
use mathlib.Core.List.{List}
use Prim.Native.Nat.{ℕ, suc, ◌-◌, ◌+◌, ◌<◌}
use native.Mathlib.Omega.{arith}
use lib.ListN.{length, set, length-set}
use Rattle.lookup.proofs.RecordLaws.{end_is_at, end_is_broken}
use Rattle.lookup.proofs.FloorLaws.{next_within}
use Rattle.lookup.proofs.FillLaws.{fill_step, fill_break, fill_end, unbroken_step, unbroken_break, unbroken_end}
use Rattle.lookup.proofs.fill_offsets.Goals as goal

-- one entry fewer is left behind the loop's
left : (s : List ℕ) (i p : ℕ) → i < length s → length s - i ≡ suc (length (set s i p) - (i + 1))
left s i p l = simp length-set (omega arith)

pub loop-slot-preserved : goal.loop-slot-preserved
loop-slot-preserved c =
    let l = c.loop-slot in
    let r = end_is_at c.args.part.now l.position _ (sym c.record_end.ensures ∙ c.in_ok-position.was) in
    let n = left l.offsets l.slot-index l.position (omega arith) in (
      omega (arith, next_within c.args.part.now l.position l.invariant.0, r.0),
      unbroken_step _ _ _ _ l.slot-index l.offsets n _ r.0 r.1 ∙ l.invariant.1,
      fill_step _ _ _ _ l.slot-index l.offsets n _ (omega arith) r.0 r.1 ∙ l.invariant.2,
    )

pub returns-in_err-position : goal.returns-in_err-position
returns-in_err-position c =
    let l = c.loop-slot in
    let b = end_is_broken c.args.part.now l.position (sym c.record_end.ensures ∙ c.in_err-position.was) in
    let n = left l.offsets l.slot-index l.position (omega arith) in
    rw c.from_residual.ensures (unbroken_break _ _ _ _ l.slot-index l.offsets n b ∙ l.invariant.1, fill_break _ _ _ _ l.slot-index l.offsets n (omega arith) b ∙ l.invariant.2)

pub returns : goal.returns
returns c =
    let l = c.loop-slot in
    (unbroken_end _ _ l.position l.slot-index l.offsets (omega arith) ∙ l.invariant.1, fill_end c.args.part.now _ l.position l.slot-index l.offsets (omega arith) ∙ l.invariant.2)
