-- Records of leaf pages (01, section 5, and the Rust's `validate_leaf_record` and `leaf_record_blocks`), by the tree's kind.
use Rattle.std.specs.Prelude.{ℕ, ◌+◌, ◌&&◌, cond, List, [], ◌∷◌, leb, eqb, length}
use Rattle.error.specs.declared.Error.TheVariants.{InvalidInput}
use Rattle.error.specs.declared.Validation.{Validation}
use Rattle.error.specs.declared.Validation.TheVariants.{Input}
use Rattle.error.specs.Answer.{Check}
use Rattle.std.specs.Prelude.{Ok, Err}
use Rattle.error.specs.Answer.{Number}
use Rattle.error.specs.Answer.{violation_of, number_check}
use Rattle.error.specs.Demand.{Demand, ◌otherwise◌, passing, outcome}
use Rattle.error.specs.Reason as reason
use Rattle.volume.specs.declared.TreeKind.{TreeKind}
use Rattle.group.specs.Group.{validate_checksum_group}
use Rattle.catalog.specs.Keys.{key_kind, validate_catalog_key}
use Rattle.catalog.specs.Inode.{validate_inode}
use Rattle.catalog.specs.Entry.{validate_directory_entry}
use Rattle.catalog.specs.Extent.{extent_count, validate_extent}
use Rattle.record.specs.Allocation.{validate_allocation_group}
use Rattle.record.specs.Cleanup.{validate_cleanup_key_value}
use Rattle.record.specs.Workspace.{validate_workspace_run}

-- `validate_leaf_record`, READING-RULES 8.3: a catalog record that counts no blocks, by its kind: inode 1, directory entry 2, checksum group 4; any other is refused
unfoldable pub uncounted_record : List ℕ → List ℕ → ℕ → Validation → Check
uncounted_record key value blocks mode =
    cond (eqb (key_kind key) 1) (validate_inode value blocks mode)
    (cond (eqb (key_kind key) 2) (validate_directory_entry value mode)
    (cond (eqb (key_kind key) 4) (validate_checksum_group key value mode)
    (Err (violation_of mode reason.unknown_catalog_record_kind))))

-- `validate_leaf_record`, READING-RULES 8.3: a catalog record by its kind: extent 3, or one that counts no blocks
abbrev pub catalog_record : List ℕ → List ℕ → ℕ → Validation → Check
catalog_record key value blocks mode = cond (eqb (key_kind key) 3) (number_check (validate_extent key value blocks mode)) (uncounted_record key value blocks mode)

-- `validate_leaf_record`, READING-RULES 8.3: what is asked of a catalog record, in order: its key, then the record by its kind
abbrev pub catalog_leaf_demands : List ℕ → List ℕ → ℕ → Validation → List Demand
catalog_leaf_demands key value blocks mode =
    passing (validate_catalog_key key mode)
    ∷ passing (catalog_record key value blocks mode)
    ∷ []

-- 01, section 5: the blocks that one catalog record adds to its leaf's total: an extent (kind 3) its count, any other 0
abbrev pub catalog_blocks : List ℕ → List ℕ → ℕ
catalog_blocks key value = cond (eqb (key_kind key) 3) (extent_count value) 0

-- `validate_leaf_record`, READING-RULES 8.3: what is asked of a leaf record, by the tree's kind
abbrev pub leaf_demands : TreeKind → List ℕ → List ℕ → ℕ → ℕ → Validation → List Demand
leaf_demands TreeKind.Catalog key value blocks page_generation mode = catalog_leaf_demands key value blocks mode
leaf_demands TreeKind.Allocation key value blocks page_generation mode = passing (validate_allocation_group key value blocks mode) ∷ []
leaf_demands TreeKind.Cleanup key value blocks page_generation mode = passing (validate_cleanup_key_value key value blocks page_generation mode) ∷ []
leaf_demands TreeKind.Workspace key value blocks page_generation mode = passing (validate_workspace_run key value blocks mode) ∷ []

-- 01, section 5: the blocks that one leaf record adds to its leaf's total; only extents of the catalog count any
abbrev pub leaf_blocks : TreeKind → List ℕ → List ℕ → ℕ
leaf_blocks TreeKind.Catalog key value = catalog_blocks key value
leaf_blocks TreeKind.Allocation key value = 0
leaf_blocks TreeKind.Cleanup key value = 0
leaf_blocks TreeKind.Workspace key value = 0

-- 01, "Return classes": the first that fails answers; else the blocks that the record counts
unfoldable pub validate_leaf_record : TreeKind → List ℕ → List ℕ → ℕ → ℕ → Validation → Number
validate_leaf_record kind key value blocks page_generation mode =
    outcome (leaf_demands kind key value blocks page_generation mode) (Ok (leaf_blocks kind key value))

-- 01, section 5: key length 1..1024, and at most 3,072 bytes together, the four of the two lengths among them
abbrev pub record_size_demands : List ℕ → List ℕ → List Demand
record_size_demands key value =
    (leb 1 (length key) && leb (length key) 1024) otherwise InvalidInput reason.invalid_record_key_length
    ∷ leb (4 + length key + length value) 3072 otherwise InvalidInput reason.record_is_too_large
    ∷ []

-- `leaf_record_blocks`, READING-RULES 8.2: the same of a record that is to be written, after its size
unfoldable pub leaf_record_blocks : TreeKind → List ℕ → List ℕ → ℕ → ℕ → Number
leaf_record_blocks kind key value blocks generation = outcome (record_size_demands key value) (validate_leaf_record kind key value blocks generation Input)
