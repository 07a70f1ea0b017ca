-- What an accepted catalog key and an accepted extent answer.
use mathlib.Core.Path.{◌≡◌, refl, ap}
use mathlib.Core.List.{List, [], ◌∷◌}
use Prim.Native.Nat.{ℕ}
use Rattle.std.specs.Prelude.{Ok, Err}
use Rattle.error.specs.declared.Validation.{Validation}
use Rattle.error.specs.Answer.{Number, number_check}
use Rattle.error.specs.Demand.{passing, outcome}
use Rattle.error.proofs.Exactly.{given_exactly}
use Rattle.catalog.specs.Keys.{key_kind, catalog_key_demands, validate_catalog_key}
use Rattle.catalog.specs.Extent.{extent_count, extent_demands, validate_extent}

-- the answer of an accepted key is its kind
pub kind_is : (key : List ℕ) (mode : Validation) (n : ℕ) → validate_catalog_key key mode ≡ Ok n → n ≡ key_kind key
unfolding validate_catalog_key
kind_is key mode n p = ((given_exactly (catalog_key_demands key mode) (key_kind key) n).0 p).1

again : (n : Number) (v : ℕ) → ((w : ℕ) → n ≡ Ok w → w ≡ v) → n ≡ outcome (passing (number_check n) ∷ []) (Ok v)
unfolding outcome
again (Ok w) v h = ap Ok (h w refl)
again (Err x) v h = refl

extent_value : (key value : List ℕ) (blocks : ℕ) (mode : Validation) (w : ℕ) → validate_extent key value blocks mode ≡ Ok w → w ≡ extent_count value
unfolding validate_extent
extent_value key value blocks mode w p = ((given_exactly (extent_demands key value blocks mode) (extent_count value) w).0 p).1

-- an extent's check that is the last of a chain answers with the chain's value
pub extent_again : (key value : List ℕ) (blocks : ℕ) (mode : Validation) → validate_extent key value blocks mode ≡ outcome (passing (number_check (validate_extent key value blocks mode)) ∷ []) (Ok (extent_count value))
extent_again key value blocks mode = again (validate_extent key value blocks mode) (extent_count value) (extent_value key value blocks mode)
