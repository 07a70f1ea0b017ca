use native.Mathlib.Omega.{arith}
use Rattle.search.proofs.Opened.{opened_base, opened_few, opened_stands, opened_floor, searched_out, searched_leaf, searched_on}
use Rattle.search.proofs.descent.Asked.open_page.Goals as goal

pub overflow_add-base : goal.overflow_add-base
overflow_add-base c = omega (arith, opened_base _ _ _ _ _ c.requires c.type_inv.page, c.ranges.self.0)

pub shared_ref_as_front-offsets : goal.shared_ref_as_front-offsets
shared_ref_as_front-offsets c = opened_few _ _ _ _ _ c.requires c.type_inv.page

pub in_bounds-requires : goal.in_bounds-requires
in_bounds-requires c = opened_stands _ _ _ _ _ c.requires c.type_inv.page _ c.span-payload.ensures.bytes _ _ c.told-scratch c.floor_answer-floor.ensures.answer.1

pub returns-then-not-in_bounds : goal.returns-then-not-in_bounds
returns-then-not-in_bounds c =
    searched_out _ _ _ _ _ c.requires c.type_inv.page _ c.span-payload.ensures.bytes _ _ c.told-scratch c.floor_answer-floor.ensures.answer.1 _ c.in_bounds.ensures c.if-not-in_bounds.true

pub in_leaf-requires : goal.in_leaf-requires
in_leaf-requires c =
    opened_floor _ _ _ _ _ c.requires c.type_inv.page _ c.span-payload.ensures.bytes _ _ c.told-scratch c.floor_answer-floor.ensures.answer.1 _ _ c.floor_answer-floor.ensures.answer.0

pub returns-then-answer-eq0 : goal.returns-then-answer-eq0
returns-then-answer-eq0 c =
    searched_leaf _ _ _ _ _ c.requires c.type_inv.page _ c.span-payload.ensures.bytes _ _ c.told-scratch c.floor_answer-floor.ensures.answer.1 _ c.in_bounds.ensures
    c.if-not-in_bounds.false c.if-answer-eq0.true _ c.in_leaf.ensures

pub onward-requires : goal.onward-requires
onward-requires c =
    let f = opened_floor _ _ _ _ _ c.requires c.type_inv.page _ c.span-payload.ensures.bytes _ _ c.told-scratch c.floor_answer-floor.ensures.answer.1 _ _ c.floor_answer-floor.ensures.answer.0 in
    (f.0, f.1, omega arith)

pub returns : goal.returns
returns c =
    searched_on _ _ _ _ _ c.requires c.type_inv.page _ c.span-payload.ensures.bytes _ _ c.told-scratch c.floor_answer-floor.ensures.answer.1 _ c.in_bounds.ensures
    c.if-not-in_bounds.false c.if-answer-eq0.false _ c.onward.ensures
