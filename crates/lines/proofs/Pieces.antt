-- Texts of calls, put together of their pieces.
use Prim.Native.Nat.{ℕ, ◌-◌, ◌≤◌}
use mathlib.Core.Path.{◌≡◌, ◌∙◌}
use mathlib.Core.List.{List}
use native.Mathlib.Omega.{arith}
use lib.ListN.{replicate}
use Rattle.std.specs.Prelude.{Option, Some}
use Rattle.std.specs.Borrow.{MutBor}
use Rattle.std.specs.List.{PartMut}
use Rattle.std.proofs.lemmas.List.{take-replicate, length-replicate}

-- the front of n equal entries that is lent
front_of : (n m x : ℕ) (b : MutBor (List ℕ)) → PartMut (replicate n x) 0 m (Some b) → b.now ≡ replicate m x
front_of n m x b p =
    let l : m ≤ n = rw length-replicate at p.0.1 in
    let e : m - 0 ≡ m = omega arith in
    p.0.2 ∙ rw e (take-replicate {X = ℕ} m n x l)

pub front_lent : (n m x : ℕ) (b : MutBor (List ℕ)) {r : Option (MutBor (List ℕ))} → PartMut (replicate n x) 0 m r → r ≡ Some b → b.now ≡ replicate m x
front_lent n m x b p e = front_of n m x b (rw e at p)
