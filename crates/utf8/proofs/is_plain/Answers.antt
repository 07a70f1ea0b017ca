use Prim.Native.Nat.{◌≤◌}
use lib.ListN.{length}
use borrow.Author.Rules.{rules}
use Rattle.octets.proofs.Parts.{part_from}
use mathlib.Core.Path.{sym, ap, ◌∙◌}
use Rattle.utf8.specs.Inside.{plain}
use Rattle.utf8.proofs.Front.{front_fits, front_less}
use Rattle.utf8.proofs.Plain.{plain_turn, plain_none, plain_told}
use Rattle.utf8.proofs.is_plain.Goals as goal

pub returns-then-not-is_front_allowed : goal.returns-then-not-is_front_allowed
returns-then-not-is_front_allowed c =
    let f = sym c.in-Some.ensures in
    let e = sym (plain_turn c.loop-n.rest.now c.in-Some.n _ c.loop-n.invariant f (c.is_front_allowed.ensures c.in-Some.n f) ∙ rw c.if-not-is_front_allowed.true) in
    record { characters = plain_told c.args.bytes.now _ e; test = e }

pub slice_bounds-rest-count : goal.slice_bounds-rest-count
slice_bounds-rest-count c = (front_fits c.loop-n.rest.now c.in-Some.n (sym c.in-Some.ensures)).1

pub slice_bounds-rest-start : goal.slice_bounds-rest-start
slice_bounds-rest-start c = let h : c.in-Some.n ≤ length c.loop-n.rest.now = (front_fits c.loop-n.rest.now c.in-Some.n (sym c.in-Some.ensures)).1 in search rules

pub loop-n-smaller : goal.loop-n-smaller
loop-n-smaller c = front_less c.loop-n.rest.now c.in-Some.n (sym c.in-Some.ensures) (part_from c.loop-n.rest.now c.in-Some.n)

pub loop-n-preserved : goal.loop-n-preserved
loop-n-preserved c =
    let e = sym c.in-Some.ensures in
    plain_turn c.loop-n.rest.now c.in-Some.n _ c.loop-n.invariant e (c.is_front_allowed.ensures c.in-Some.n e)
    ∙ rw c.if-not-is_front_allowed.false (ap plain (sym (part_from c.loop-n.rest.now c.in-Some.n)))

pub returns : goal.returns
returns c =
    let e = sym (c.loop-n.invariant ∙ plain_none c.loop-n.rest.now (sym c.in_default.ensures)) in
    record { characters = plain_told c.args.bytes.now _ e; test = e }
