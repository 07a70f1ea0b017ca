use Prim.Native.Nat.{◌≤◌}
use lib.ListN.{length}
use borrow.Author.Rules.{rules}
use Rattle.octets.proofs.Parts.{part_from}
use mathlib.Core.Path.{sym, ap, ◌∙◌}
use Rattle.utf8.specs.Inside.{utf8}
use Rattle.utf8.proofs.Front.{front_fits, front_less}
use Rattle.utf8.proofs.Grammar.{utf8_some, utf8_none, utf8_told}
use Rattle.utf8.proofs.is_utf8.Goals as goal

pub slice_bounds-rest-count : goal.slice_bounds-rest-count
slice_bounds-rest-count c = (front_fits c.loop-n.rest.now c.in-Some.n (sym c.in-Some.ensures)).1

pub slice_bounds-rest-start : goal.slice_bounds-rest-start
slice_bounds-rest-start c = let h : c.in-Some.n ≤ length c.loop-n.rest.now = (front_fits c.loop-n.rest.now c.in-Some.n (sym c.in-Some.ensures)).1 in search rules

pub loop-n-smaller : goal.loop-n-smaller
loop-n-smaller c = front_less c.loop-n.rest.now c.in-Some.n (sym c.in-Some.ensures) (part_from c.loop-n.rest.now c.in-Some.n)

pub loop-n-preserved : goal.loop-n-preserved
loop-n-preserved c = c.loop-n.invariant ∙ utf8_some c.loop-n.rest.now c.in-Some.n (sym c.in-Some.ensures) ∙ ap utf8 (sym (part_from c.loop-n.rest.now c.in-Some.n))

pub returns : goal.returns
returns c =
    let e = c.is_empty.ensures ∙ sym (utf8_none c.loop-n.rest.now (sym c.in_default.ensures)) ∙ sym c.loop-n.invariant in
    record { grammar = utf8_told c.args.bytes.now _ e; test = e }
