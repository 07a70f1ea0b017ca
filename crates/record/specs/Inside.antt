-- What private functions promise. No public promise rests on these.
use Rattle.std.specs.Prelude.{ℕ, Bool, List, eqb, length, get_or}
use Rattle.error.specs.declared.Validation.{Validation}
use Rattle.std.specs.Prelude.{Ok}
use Rattle.error.specs.Answer.{Number}
use Rattle.error.specs.Demand.{outcome}
use Rattle.octets.specs.Below.{every}
use Rattle.record.specs.Leaf.{catalog_leaf_demands, catalog_blocks}

-- each byte is full: its eight blocks are taken
unfoldable pub bytes_full : List ℕ → Bool
bytes_full bytes = every (λ i. eqb (get_or bytes i 0) 255) (length bytes)

-- a leaf record of the catalog
unfoldable pub catalog_leaf : List ℕ → List ℕ → ℕ → Validation → Number
catalog_leaf key value blocks mode = outcome (catalog_leaf_demands key value blocks mode) (Ok (catalog_blocks key value))
