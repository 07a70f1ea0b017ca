-- The walk as a whole, by the tests before it.
use mathlib.Core.Path.{◌≡◌}
use mathlib.Core.Bool.{Bool}
use mathlib.Core.List.{List, []}
use Prim.Native.Nat.{ℕ, ◌/◌, ◌≤◌}
use borrow.Author.Tests.{le-leb}
use lib.ListN.{length}
use Rattle.error.specs.declared.Validation.{Validation}
use Rattle.error.proofs.Exactly.{outcome_holds}
use Rattle.walk.specs.Records.{Own, walk, size_demands, records}

-- both tests held
pub is_walk : (leaf : Bool) (mode : Validation) (own : Own) (rest : List ℕ) (payload_length count : ℕ) → count ≤ payload_length / 4 → payload_length ≤ length rest
    → records leaf mode own rest payload_length count ≡ walk leaf mode own count rest payload_length [] 0 []
unfolding records
is_walk leaf mode own rest payload_length count few inside =
    outcome_holds (size_demands rest payload_length count mode) (walk leaf mode own count rest payload_length [] 0 []) (le-leb count (payload_length / 4) few, (le-leb payload_length (length rest) inside, tt))
