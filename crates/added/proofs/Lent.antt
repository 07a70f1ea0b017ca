-- The front of an image that is lent.
use Prim.Native.Nat.{ℕ, ◌≤◌}
use mathlib.Core.Path.{◌≡◌}
use mathlib.Core.List.{List}
use native.Mathlib.Omega.{arith}
use lib.ListN.{length}
use Rattle.std.specs.Prelude.{Option, Some}
use Rattle.std.specs.Borrow.{MutBor}
use Rattle.std.specs.List.{PartMut}

sizes : (image : List ℕ) (n : ℕ) (b : MutBor (List ℕ)) → PartMut image 0 n (Some b) → (n ≤ length image) × (length b.now ≡ n)
sizes image n b p = (p.0.1, omega (arith, p.0.3))

-- it is as long as was asked for, and no longer than the whole
pub lent_size : (image : List ℕ) (n : ℕ) (b : MutBor (List ℕ)) {r : Option (MutBor (List ℕ))} → PartMut image 0 n r → r ≡ Some b → (n ≤ length image) × (length b.now ≡ n)
lent_size image n b p e = sizes image n b (rw e at p)
