-- The groups of an inode's demands.
use mathlib.Core.Path.{◌≡◌, sym, ◌∙◌}
use mathlib.Core.List.{List, ◌∷◌, ◌++◌}
use Prim.Native.Nat.{ℕ, ◌≤◌}
use borrow.Author.Tests.{leb-true}
use lib.Dec.{leb}
use lib.ListN.{length}
use Rattle.error.specs.declared.Validation.{Validation}
use Rattle.std.specs.Prelude.{Ok}
use Rattle.error.specs.Answer.{violation_of}
use Rattle.error.specs.Demand.{◌otherwise◌, passing, demands}
use Rattle.error.specs.Reason as reason
use Rattle.error.proofs.Tests.{and_left}
use Rattle.error.proofs.Exactly.{all_hold, flat, front, fronts}
use Rattle.catalog.specs.Inode.{flags_and_reserved, validate_inode, inode_type, ends_right, inode_shape_demands, inode_field_demands, inode_time_demands, target_check}
use Rattle.catalog.specs.Inside.{inode_groups, inode_fields, inode_shape}

-- an inode whose shape passed has its 128 bytes
pub shape_long : (value : List ℕ) (mode : Validation) → inode_shape value mode ≡ Ok tt → 128 ≤ length value
unfolding inode_shape
shape_long value mode q = let h = all_hold (inode_shape_demands value mode) q in leb-true 128 (length value) (and_left (leb 128 (length value)) (ends_right (inode_type value) (length value)) h.1.1.0)

-- an inode's groups of demands are its demands, one after the other
pub inode_flat : (value : List ℕ) (blocks : ℕ) (mode : Validation) → validate_inode value blocks mode ≡ demands (inode_groups value blocks mode)
unfolding validate_inode inode_shape inode_fields
inode_flat value blocks mode =
    let shape = inode_shape_demands value mode in
    let fields = inode_field_demands value blocks mode in
    let flags = flags_and_reserved value otherwise violation_of mode reason.invalid_inode_flags_or_reserved_bytes in
    let last = passing (target_check value mode) ∷ inode_time_demands value mode in
    sym (flat shape (flags ∷ passing (demands fields) ∷ last)
    ∙ fronts shape (flags ∷ passing (demands fields) ∷ last) (flags ∷ (fields ++ last))
    (front flags (passing (demands fields) ∷ last) (fields ++ last) (flat fields last)))
