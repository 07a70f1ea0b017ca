use mathlib.Core.Path.{◌≡◌, sym, ◌∙◌, ap}
use Prim.Native.Nat.{suc, ◌≤◌, ◌-◌, ◌+◌}
use native.Mathlib.Omega.{arith}
use lib.ListN.{length, drop, length-drop}
use Rattle.lookup.specs.Record.{look_at}
use Rattle.std.specs.Prelude.{Some, None}
use Rattle.octets.proofs.Parts.{part_from}
use Rattle.lookup.proofs.RecordLaws.{look_is}
use Rattle.lookup.proofs.WalkLaws.{walk_step, walk_stop, walk_end}
use Rattle.lookup.proofs.walk_floor.Goals as goal
use Rattle.lookup.proofs.walk_floor.Goals.{In_default, In-Some}

-- what the look at the loop's position says
seen : (c : In-Some) → look_at (drop c.loop-index.position c.args.part.now) c.args.key.now ≡ Some c.in-Some.size
seen c =
    ap (λ s. look_at s c.args.key.now) (sym (part_from c.args.part.now c.loop-index.position)) ∙ sym c.look_at.ensures ∙ c.in-Some.is

fits : (c : In-Some) → c.loop-index.position + c.in-Some.size ≤ length c.args.part.now
fits c =
    omega (arith, (look_is (drop c.loop-index.position c.args.part.now) c.args.key.now c.in-Some.size (seen c)).1, length-drop c.loop-index.position c.args.part.now)

stopped : (c : In_default) → look_at (drop c.loop-index.position c.args.part.now) c.args.key.now ≡ None
stopped c =
    ap (λ s. look_at s c.args.key.now) (sym (part_from c.args.part.now c.loop-index.position)) ∙ sym c.look_at.ensures ∙ c.in_default.is

pub overflow_add-position : goal.overflow_add-position
overflow_add-position c = omega (arith, fits c)

pub loop-index-preserved : goal.loop-index-preserved
loop-index-preserved c =
    let left : c.args.count - c.loop-index.index ≡ suc (c.args.count - (c.loop-index.index + 1)) = omega arith in
    (omega (arith, fits c), walk_step _ _ _ _ _ _ c.loop-index.found left _ (seen c) ∙ c.loop-index.invariant.1)

pub returns-in_default : goal.returns-in_default
returns-in_default c =
    let left : c.args.count - c.loop-index.index ≡ suc (c.args.count - (c.loop-index.index + 1)) = omega arith in
    walk_stop _ _ _ _ _ c.loop-index.index _ left (stopped c) ∙ c.loop-index.invariant.1

pub returns : goal.returns
returns c =
    walk_end _ _ _ c.loop-index.position c.loop-index.index _ (omega arith) ∙ c.loop-index.invariant.1
