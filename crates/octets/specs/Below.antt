-- A test at the numbers below a bound.
use Rattle.std.specs.Prelude.{ℕ, zero, suc, Bool, true, ◌&&◌, cond}

-- the test holds at each number below n
abbrev pub every : (ℕ → Bool) → ℕ → Bool
every f zero = true
every f (suc n) = f n && every f n

-- one more than the last number below n at which the test holds; 0 where it holds at none
abbrev pub through : (ℕ → Bool) → ℕ → ℕ
through f zero = 0
through f (suc n) = cond (f n) (suc n) (through f n)
