-- What an accepted internal record tells of its value.
use Prim.Native.Nat.{ℕ}
use mathlib.Core.Path.{◌≡◌, ap}
use mathlib.Core.Logic.{◌↔◌}
use mathlib.Core.List.{List}
use borrow.Author.Tests.{eqb-true}
use lib.ListN.{length}
use Rattle.std.specs.Prelude.{Ok}
use Rattle.error.specs.declared.Validation.{Validation}
use Rattle.error.specs.Demand.{AllHold}
use Rattle.octets.specs.Number.{u64_at}
use Rattle.volume.specs.declared.TreeRef.{TreeRef}
use Rattle.volume.specs.declared.TreeKind.{TreeKind}
use Rattle.error.proofs.Exactly.{given_exactly}
use Rattle.record.specs.Internal.{child_ref, internal_demands, validate_internal_record}

module _ (kind : TreeKind) (key value : List ℕ) (blocks page_generation : ℕ) (mode : Validation) (reference : TreeRef) where
  pub child_exactly : (validate_internal_record kind key value blocks page_generation mode ≡ Ok reference) ↔ (AllHold (internal_demands kind key value blocks page_generation mode) × (reference ≡ child_ref value))
  unfolding validate_internal_record
  child_exactly = given_exactly (internal_demands kind key value blocks page_generation mode) (child_ref value) reference

  -- its value has 16 bytes
  pub child_sixteen : validate_internal_record kind key value blocks page_generation mode ≡ Ok reference → length value ≡ 16
  child_sixteen p = let h = child_exactly.0 p in eqb-true (length value) 16 h.0.1.0

  -- it gives the reference that stands there
  pub child_is : validate_internal_record kind key value blocks page_generation mode ≡ Ok reference → reference ≡ child_ref value
  child_is p = (child_exactly.0 p).1

  pub child_block_lem : validate_internal_record kind key value blocks page_generation mode ≡ Ok reference → reference.block ≡ u64_at value 0
  child_block_lem p = ap (λ (r : TreeRef). r.block) (child_is p)
