-- Numbers of 64 bits.
use Rattle.std.specs.Prelude.{ℕ, ◌+◌, ◌-◌, ◌^◌, Bool, leb}

-- the largest number of 64 bits
abbrev pub largest : ℕ
largest = 2 ^ 64 - 1

-- a sum fits 64 bits
abbrev pub sum_fits : ℕ → ℕ → Bool
sum_fits a b = leb (a + b) largest
