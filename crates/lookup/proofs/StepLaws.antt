-- The places of a step lie in the part, in order.
use mathlib.Core.Path.{◌≡◌, refl}
use mathlib.Core.Bool.{Bool, true, false, cond}
use mathlib.Core.List.{List}
use Prim.Native.Nat.{ℕ, ◌≤◌}
use native.Mathlib.Omega.{arith}
use lib.Dec.{ltb}
use lib.ListN.{length}
use Rattle.lookup.specs.Record.{split_record}
use Rattle.lookup.specs.Floor.{step_split, next_record}
use Rattle.lookup.specs.declared.Lengths.{Lengths}
use Rattle.lookup.specs.declared.Step.{Step}
use Rattle.std.specs.Prelude.{Option, Some, None}
use Rattle.std.proofs.lemmas.Option.{same_Some}
use Rattle.lookup.proofs.RecordLaws.{split_fits}

pub record Ordered (part : List ℕ) (s : Step) : Type 0 where
  pub key : s.key_start ≤ s.key_end
  pub value : s.key_end ≤ s.value_end
  pub end : s.value_end ≤ length part

pub step_ordered : (part : List ℕ) (n : ℕ) (s : Step) → next_record part n ≡ Some s → Ordered part s
unfolding next_record
step_ordered part n s = go (ltb 0 n) (split_record part) refl
  where
    go : (b : Bool) (r : Option Lengths) → split_record part ≡ r → cond b (step_split n r) None ≡ Some s → Ordered part s
    go true (Some l) e f = rw (← same_Some _ s f) (record { key = omega arith; value = omega arith; end = split_fits part l e })
    go true None e f = absurd cc
    go false r e f = absurd cc
