-- A group's stored form is a front of it.
use Prim.Native.Nat.{ℕ, ◌≤◌}
use mathlib.Core.Path.{◌≡◌, refl}
use mathlib.Core.Bool.{Bool, true, false, cond}
use mathlib.Core.List.{List}
use native.Mathlib.Omega.{arith}
use borrow.Author.Tests.{eqb-true}
use lib.Dec.{eqb}
use lib.ListN.{length, take}
use lib.Seq.{length-take-le}
use Rattle.octets.proofs.Below.{through_le}
use Rattle.group.specs.Group.{present, stored_slots, stored_bytes, compact_bytes}

front_fits : (g : List ℕ) → compact_bytes g ≤ length g
unfolding compact_bytes stored_slots
front_fits g = go (eqb (length g) 1056) refl
  where
    go : (t : Bool) → eqb (length g) 1056 ≡ t → cond t (stored_bytes g) 0 ≤ length g
    go true e = let most = through_le (present g) 256 in let long = eqb-true (length g) 1056 e in omega (arith, most, long)
    go false e = omega arith

-- so many bytes of it are so many
pub front_length : (g : List ℕ) → length (take (compact_bytes g) g) ≡ compact_bytes g
front_length g = length-take-le (compact_bytes g) g (front_fits g)
