use mathlib.Core.Path.{◌≡◌, refl}
use mathlib.Core.Bool.{true}
use mathlib.Core.List.{List}
use Prim.Native.Nat.{ℕ, ◌≤◌, ◌<◌, ◌+◌}
use native.Mathlib.Omega.{arith}
use lib.ListN.{length, drop}
use Rattle.octets.specs.Number.{u16_at}
use Rattle.lookup.specs.Record.{split_record, is_record}
use Rattle.lookup.specs.Sorted.{offset_of}
use Rattle.walk.specs.Inside.{stored_blocks}
use Rattle.walk.proofs.Children.{whole_within, offset_more, stored_more}
use Rattle.walk.proofs.stored_before.Goals as goal

-- the record at the position is whole, and lies within the bytes
whole : (s : List ℕ) (n i p : ℕ) → p ≡ offset_of s i → ((k : ℕ) → k < n → is_record (split_record (drop (offset_of s k) s)) ≡ true) → i < n
    → is_record (split_record (drop p s)) ≡ true
whole s n i p e each l = rw e (each i l)

within : (s : List ℕ) (n i p : ℕ) → p ≡ offset_of s i → ((k : ℕ) → k < n → is_record (split_record (drop (offset_of s k) s)) ≡ true) → i < n
    → p + 4 + u16_at s p + u16_at s (p + 2) ≤ length s
within s n i p e each l = whole_within s p (whole s n i p e each l)

pub loop-i-init : goal.loop-i-init
unfolding offset_of stored_blocks
loop-i-init c = (refl, refl)

pub overflow_add-value : goal.overflow_add-value
overflow_add-value c = omega (arith, within c.args.rest.now c.args.n c.loop-i.i c.loop-i.position c.loop-i.invariant.0 c.requires c.loop-i-test.true)

pub overflow_add-value-in-loop-i : goal.overflow_add-value-in-loop-i
overflow_add-value-in-loop-i c = omega (arith, within c.args.rest.now c.args.n c.loop-i.i c.loop-i.position c.loop-i.invariant.0 c.requires c.loop-i-test.true, c.u16_at.ensures)

pub overflow_add-position : goal.overflow_add-position
overflow_add-position c = omega (arith, within c.args.rest.now c.args.n c.loop-i.i c.loop-i.position c.loop-i.invariant.0 c.requires c.loop-i-test.true)

pub overflow_add-end : goal.overflow_add-end
overflow_add-end c = omega (arith, within c.args.rest.now c.args.n c.loop-i.i c.loop-i.position c.loop-i.invariant.0 c.requires c.loop-i-test.true, c.u16_at.ensures, c.u16_at-in-loop-i.ensures)

pub loop-i-preserved : goal.loop-i-preserved
loop-i-preserved c =
    let s = c.args.rest.now in
    let w = whole c.args.rest.now c.args.n c.loop-i.i c.loop-i.position c.loop-i.invariant.0 c.requires c.loop-i-test.true in (
      rw (c.from.ensures, c.u16_at.ensures, c.from-in-loop-i.ensures, c.u16_at-in-loop-i.ensures) (offset_more s c.loop-i.i c.loop-i.position c.loop-i.invariant.0 w),
      rw (c.u64_at.ensures, c.from.ensures, c.u16_at.ensures) (stored_more s c.loop-i.i c.loop-i.position c.loop-i.invariant.0 c.args.block c.loop-i.hit w c.loop-i.invariant.1),
    )
