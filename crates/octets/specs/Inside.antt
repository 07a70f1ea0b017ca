-- What private functions promise. No public promise rests on these.
use Rattle.std.specs.Prelude.{◌≡◌, ℕ, ◌+◌, ◌≤◌, min, List, length, take, cond, Option, Some, None}
use Rattle.octets.specs.Bytes.{part}
use Rattle.octets.specs.Number.{within}

-- so many bytes at an offset, where they all stand there
abbrev pub array_at : List ℕ → ℕ → ℕ → Option (List ℕ)
array_at s offset width = cond (within s offset width) (Some (part s offset width)) None

-- the eight bytes at a place decide the order of two strings: before them the strings are the same, and if these eight are the same too, the shorter string ends with them
pub record Decides (a b : List ℕ) (at : ℕ) : Type 0 where
  pub in_a : at + 8 ≤ length a
  pub in_b : at + 8 ≤ length b
  pub before : take at a ≡ take at b
  pub end : part a at 8 ≡ part b at 8 → at + 8 ≡ min (length a) (length b)
