-- `within` of an unsigned type counts a number that the type can't hold as 0.
use mathlib.Core.Path.{◌∙◌}
use Prim.Native.Nat.{◌<◌, ◌≤◌}
use native.Mathlib.Omega.{arith}
use borrow.Author.Tests.{le-leb, lt-leb}
use Rattle.std.specs.Prelude.{Ok, Err}
use Rattle.calls.specs.Told.{at_most, WithinIsAtMost}

pub within_is_at_most : WithinIsAtMost
unfolding at_most
within_is_at_most most n t (Ok x, (k, u)) = let l : n ≤ most = let m = k.0 in omega (arith, m) in rw (le-leb n most l) (u ∙ k.1)
within_is_at_most most n t (Err e, (k, u)) = let l : most < n = omega (arith, k) in rw (lt-leb n most l) u
