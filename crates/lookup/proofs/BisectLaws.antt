-- The bisection, a step at a time.
use mathlib.Core.Path.{◌≡◌, refl}
use mathlib.Core.Bool.{true, false}
use mathlib.Core.List.{List}
use Prim.Native.Nat.{ℕ, zero, suc, ◌+◌, ◌-◌, ◌/◌, ◌<◌, ◌≤◌}
use native.Mathlib.Omega.{arith}
use lib.ListN.{get_or}
use borrow.Author.Tests.{lt-ltb, le-ltb}
use Rattle.lookup.specs.Floor.{above_at, bisect}

-- from low and high on the bisection gives what it gives from the start
pub record Reached (part key offs : List ℕ) (count low high : ℕ) : Type 0 where
  pub fuel : ℕ
  pub enough : high - low ≤ fuel
  pub same : bisect part key offs fuel low high ≡ bisect part key offs count 0 count

module _ (part key offs : List ℕ) (count low high : ℕ) where
  pub reached_start : Reached part key offs count 0 count
  reached_start = record { fuel = count; enough = omega arith; same = refl }

  pub reached_down : low < high → above_at part key (get_or offs ((low + high) / 2) 0) ≡ true → Reached part key offs count low high → Reached part key offs count low ((low + high) / 2)
  unfolding bisect
  reached_down l e r = go r.fuel r.enough r.same
    where
      go : (f : ℕ) → high - low ≤ f → bisect part key offs f low high ≡ bisect part key offs count 0 count → Reached part key offs count low ((low + high) / 2)
      go zero h s = absurd (omega arith)
      go (suc f) h s = record { fuel = f; enough = omega arith; same = rw (lt-ltb low high l, e) at s }

  pub reached_up : low < high → above_at part key (get_or offs ((low + high) / 2) 0) ≡ false → Reached part key offs count low high → Reached part key offs count ((low + high) / 2 + 1) high
  unfolding bisect
  reached_up l e r = go r.fuel r.enough r.same
    where
      go : (f : ℕ) → high - low ≤ f → bisect part key offs f low high ≡ bisect part key offs count 0 count → Reached part key offs count ((low + high) / 2 + 1) high
      go zero h s = absurd (omega arith)
      go (suc f) h s = record { fuel = f; enough = omega arith; same = rw (lt-ltb low high l, e) at s }

  pub reached_end : high ≤ low → Reached part key offs count low high → low ≡ bisect part key offs count 0 count
  unfolding bisect
  reached_end l r = go r.fuel r.same
    where
      go : (f : ℕ) → bisect part key offs f low high ≡ bisect part key offs count 0 count → low ≡ bisect part key offs count 0 count
      go zero s = s
      go (suc f) s = rw (le-ltb low high l) at s
