-- Sums within 64 bits: what the test of one tells.
use mathlib.Core.Path.{◌≡◌}
use mathlib.Core.Bool.{true}
use Prim.Native.Nat.{ℕ, ◌+◌}
use native.Mathlib.Omega.{arith}
use borrow.Author.Tests.{leb-true}
use mir.Syntax.{w64}
use mir.Val.{Fits}
use Rattle.volume.specs.Numbers.{sum_fits}

-- a sum that was tested is one of 64 bits
pub fits_sum : (a b : ℕ) → sum_fits a b ≡ true → Fits w64 (a + b)
fits_sum a b e = record { fits = omega (arith, leb-true (a + b) 18446744073709551615 e) }
