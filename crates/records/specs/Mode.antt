-- The mode chooses the class of a refusal, and has no say in what is accepted (01, "Return classes"; READING-RULES 1). It follows from `RecordsExactly`.
use Rattle.std.specs.Prelude.{ℕ, ◌≡◌, ◌↔◌, List, Ok}
use Rattle.error.specs.declared.Validation.{Validation}
use Rattle.volume.specs.declared.TreeRef.{TreeRef}
use Rattle.volume.specs.declared.TreeKind.{TreeKind}
use Rattle.record.specs.Internal.{validate_internal_record}
use Rattle.record.specs.Leaf.{validate_leaf_record}

-- a leaf record, and an internal record, is accepted in one mode exactly when it is in the other, with the same value
pub record ModeFree : Type 0 where
  pub leaf_record : (kind : TreeKind) (key value : List ℕ) (blocks page_generation : ℕ) (one other : Validation) (n : ℕ)
      → (validate_leaf_record kind key value blocks page_generation one ≡ Ok n) ↔ (validate_leaf_record kind key value blocks page_generation other ≡ Ok n)
  pub internal_record : (kind : TreeKind) (key value : List ℕ) (blocks page_generation : ℕ) (one other : Validation) (reference : TreeRef)
      → (validate_internal_record kind key value blocks page_generation one ≡ Ok reference) ↔ (validate_internal_record kind key value blocks page_generation other ≡ Ok reference)
