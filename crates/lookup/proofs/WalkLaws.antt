-- The walk from the front, a step at a time.
use mathlib.Core.Path.{◌≡◌}
use mathlib.Core.List.{List}
use Prim.Native.Nat.{ℕ, suc, ◌+◌}
use lib.ListN.{drop}
use Rattle.lookup.specs.Record.{look_at}
use Rattle.lookup.specs.Floor.{walk_floor}
use Rattle.lookup.specs.declared.Floor.{Floor}
use Rattle.std.specs.Prelude.{Option, Some, None}
use Rattle.lookup.proofs.RecordLaws.{look_is}

module _ (part key : List ℕ) (m n p i : ℕ) (found : Option Floor) (left : m ≡ suc n) where
  pub walk_step : (z : ℕ) → look_at (drop p part) key ≡ Some z → walk_floor part key n (p + z) (i + 1) (Some (record { index = i; offset = p })) ≡ walk_floor part key m p i found
  unfolding walk_floor
  walk_step z e = rw (left, walk_floor, e, (look_is (drop p part) key z e).0)

  pub walk_stop : look_at (drop p part) key ≡ None → found ≡ walk_floor part key m p i found
  unfolding walk_floor
  walk_stop e = rw (left, walk_floor, e)

pub walk_end : (part key : List ℕ) (m p i : ℕ) (found : Option Floor) → m ≡ 0 → found ≡ walk_floor part key m p i found
unfolding walk_floor
walk_end part key m p i found none = rw (none, walk_floor)
