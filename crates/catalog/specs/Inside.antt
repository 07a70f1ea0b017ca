-- What private functions promise: the groups of an inode's demands. No public promise rests on these.
use Rattle.std.specs.Prelude.{ℕ, List, ◌∷◌}
use Rattle.error.specs.declared.Validation.{Validation}
use Rattle.error.specs.Answer.{Check}
use Rattle.error.specs.Answer.{violation_of}
use Rattle.error.specs.Demand.{Demand, ◌otherwise◌, passing, demands}
use Rattle.error.specs.Reason as reason
use Rattle.catalog.specs.Inode.{flags_and_reserved, inode_shape_demands, inode_field_demands, target_check, inode_time_demands}

-- type and length
unfoldable pub inode_shape : List ℕ → Validation → Check
inode_shape value mode = demands (inode_shape_demands value mode)

-- parent and numbers
unfoldable pub inode_fields : List ℕ → ℕ → Validation → Check
inode_fields value blocks mode = demands (inode_field_demands value blocks mode)

-- all of an inode's demands, by these groups
abbrev pub inode_groups : List ℕ → ℕ → Validation → List Demand
inode_groups value blocks mode =
    passing (inode_shape value mode)
    ∷ flags_and_reserved value otherwise violation_of mode reason.invalid_inode_flags_or_reserved_bytes
    ∷ passing (inode_fields value blocks mode)
    ∷ passing (target_check value mode)
    ∷ inode_time_demands value mode
