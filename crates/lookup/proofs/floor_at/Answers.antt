-- `lookup::floor_at` meets its contract: each way through the tests is a case of the definition (`FloorLaws.antt`).
use mathlib.Core.Path.{◌∙◌}
use Rattle.lookup.proofs.FloorLaws.{floor_large, floor_walk, scratch_filled, floor_broken, filled_whole, floor_bisect}
use Rattle.lookup.proofs.floor_at.Goals as goal

pub returns-then-part-gt65535 : goal.returns-then-part-gt65535
returns-then-part-gt65535 c =
    let a = c.args in
    let w = floor_large a.part.now a.count a.key.now a.scratch.now c.if-part-gt65535.true in
    record { answer = w; words = rw w.0 }

pub returns-then-scratch-count : goal.returns-then-scratch-count
returns-then-scratch-count c =
    let a = c.args in
    let w = floor_walk a.part.now a.count a.key.now a.scratch.now c.if-part-gt65535.false c.if-scratch-count.true in
    let found = c.walk_floor.ensures ∙ w.0 in
    record { answer = (found, w.1); words = rw found }

pub returns-in_err-fill_offsets : goal.returns-in_err-fill_offsets
returns-in_err-fill_offsets c =
    let a = c.args in
    let f = c.fill_offsets.ensures in
    let found = floor_broken a.part.now a.count a.key.now a.scratch.now c.if-part-gt65535.false c.if-scratch-count.false _ f.1 c.in_err-fill_offsets.ensures.0 in
    let filled = scratch_filled a.part.now a.count a.key.now a.scratch.now c.if-part-gt65535.false c.if-scratch-count.false _ f.1 in
    rw c.from_residual.ensures (record { answer = (found, filled); words = rw found })

pub bisect_records-requires : goal.bisect_records-requires
bisect_records-requires c =
    let a = c.args in
    filled_whole a.part.now a.count a.key.now a.scratch.now c.if-part-gt65535.false c.if-scratch-count.false _ c.fill_offsets.ensures.1 c.in_ok-fill_offsets.ensures.0

pub returns : goal.returns
returns c =
    let a = c.args in
    let f = c.fill_offsets.ensures in
    let found = c.bisect_records.ensures ∙ floor_bisect a.part.now a.count a.key.now a.scratch.now c.if-part-gt65535.false c.if-scratch-count.false _ f.1 c.in_ok-fill_offsets.ensures.0 in
    let filled = scratch_filled a.part.now a.count a.key.now a.scratch.now c.if-part-gt65535.false c.if-scratch-count.false _ f.1 in
    record { answer = (found, filled); words = rw found }
