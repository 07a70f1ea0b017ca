-- Leaf records are accepted exactly when the conditions of specs/Record hold.
use mathlib.Core.Path.{◌≡◌, refl, sym, ◌∙◌}
use mathlib.Core.Bool.{Bool, true, false, cond}
use mathlib.Core.Logic.{◌↔◌}
use mathlib.Core.List.{List}
use Prim.Native.Nat.{ℕ, ◌+◌}
use native.Mathlib.Omega.{arith}
use borrow.Author.Tests.{le-leb, leb-true, eqb-true}
use lib.Dec.{eqb}
use lib.ListN.{length}
use Rattle.std.specs.Prelude.{Ok, Err}
use Rattle.error.specs.declared.Validation.{Validation}
use Rattle.error.specs.declared.Validation.TheVariants.{Input}
use Rattle.error.specs.Answer.{Check, number_check, violation_of}
use Rattle.error.specs.Demand.{AllHold}
use Rattle.error.specs.Reason as reason
use Rattle.error.proofs.Exactly.{all_hold, answer_passed, outcome_holds, passed_is, passed_test, number_passed, given_exactly}
use Rattle.error.proofs.Tests.{and_left, and_right, and_both}
use Rattle.octets.specs.Bytes.{byte_at}
use Rattle.volume.specs.declared.TreeKind.{TreeKind}
use Rattle.group.specs.Group.{validate_checksum_group}
use Rattle.group.proofs.Accept.{group_exactly}
use Rattle.catalog.specs.Keys.{validate_catalog_key}
use Rattle.catalog.specs.Inode.{validate_inode}
use Rattle.catalog.specs.Entry.{validate_directory_entry}
use Rattle.catalog.specs.Extent.{validate_extent}
use Rattle.record.specs.Allocation.{validate_allocation_group}
use Rattle.record.specs.Cleanup.{validate_cleanup_key_value}
use Rattle.record.specs.Workspace.{validate_workspace_run}
use Rattle.record.specs.Leaf.{uncounted_record, catalog_record, leaf_demands, leaf_blocks, validate_leaf_record, record_size_demands, leaf_record_blocks}
use Rattle.records.specs.Record.{CatalogHolds, LeafHolds, Sized, blocks_counted}
use Rattle.records.proofs.Entries.{entry_exactly, extent_exactly}
use Rattle.records.proofs.Inodes.{inode_exactly}
use Rattle.records.proofs.Keys.{key_exactly}
use Rattle.records.proofs.Allocation.{allocation_group}
use Rattle.records.proofs.Cleanup.{cleanup}
use Rattle.records.proofs.Internal.{number_is}
use Rattle.records.proofs.Workspace.{workspace_run}

-- ---- a catalog record by its key's kind

module _ (key value : List ℕ) (blocks : ℕ) (mode : Validation) where
  abbrev kind_is : ℕ → Bool
  kind_is n = eqb (byte_at key 8) n

  abbrev uncounted : Bool → Bool → Bool → Check
  uncounted one two four =
      cond one (validate_inode value blocks mode)
      (cond two (validate_directory_entry value mode)
      (cond four (validate_checksum_group key value mode)
      (Err (violation_of mode reason.unknown_catalog_record_kind))))

  uncounted_by : (one two four : Bool) → kind_is 1 ≡ one → kind_is 2 ≡ two → kind_is 4 ≡ four → uncounted one two four ≡ Ok tt → CatalogHolds key value blocks
  uncounted_by true two four p q r e = CatalogHolds.inode (eqb-true (byte_at key 8) 1 p) ((inode_exactly value blocks mode).0 e)
  uncounted_by false true four p q r e = CatalogHolds.entry (eqb-true (byte_at key 8) 2 q) ((entry_exactly value mode).0 e)
  uncounted_by false false true p q r e =
      let k : byte_at key 8 ≡ 4 = eqb-true (byte_at key 8) 4 r in
      CatalogHolds.group (omega (arith, k)) ((group_exactly key value mode).0 e)
  uncounted_by false false false p q r e = let z : ◌≡◌ {A = ℕ} 0 1 = cc in absurd (omega arith)

  counted_by : (three : Bool) → kind_is 3 ≡ three → cond three (number_check (validate_extent key value blocks mode)) (uncounted_record key value blocks mode) ≡ Ok tt → CatalogHolds key value blocks
  unfolding uncounted_record
  counted_by true p e =
      let n = number_is (validate_extent key value blocks mode) e in
      CatalogHolds.extent (eqb-true (byte_at key 8) 3 p) ((extent_exactly key value blocks mode n.0).0 n.1).0
  counted_by false p e = uncounted_by (kind_is 1) (kind_is 2) (kind_is 4) refl refl refl e

  record_holds : catalog_record key value blocks mode ≡ Ok tt → CatalogHolds key value blocks
  record_holds e = counted_by (kind_is 3) refl e

record_passes : {key value : List ℕ} {blocks : ℕ} → (mode : Validation) → CatalogHolds key value blocks → catalog_record key value blocks mode ≡ Ok tt
unfolding uncounted_record
record_passes {key} {value} {blocks} mode (CatalogHolds.inode p h) = rw p ((inode_exactly value blocks mode).1 h)
record_passes {key} {value} {blocks} mode (CatalogHolds.entry p h) = rw p ((entry_exactly value mode).1 h)
record_passes {key} {value} {blocks} mode (CatalogHolds.extent p h) =
    let e : validate_extent key value blocks mode ≡ Ok _ = (extent_exactly key value blocks mode _).1 (h, refl) in
    rw p (rw e)
record_passes {key} {value} {blocks} mode (CatalogHolds.group p h) =
    let k : byte_at key 8 ≡ 4 = omega (arith, p) in
    rw k ((group_exactly key value mode).1 h)

-- ---- a leaf record

module _ (key value : List ℕ) (blocks page_generation : ℕ) (mode : Validation) where
  leaf_holds : (kind : TreeKind) → AllHold (leaf_demands kind key value blocks page_generation mode) → LeafHolds kind key value blocks page_generation
  leaf_holds TreeKind.Catalog h =
      let n = number_is (validate_catalog_key key mode) (number_passed (validate_catalog_key key mode) h.0) in
      (((key_exactly key mode n.0).0 n.1).0, record_holds key value blocks mode (passed_is (catalog_record key value blocks mode) h.1.0))
  leaf_holds TreeKind.Allocation h = (allocation_group key value blocks mode).0 (passed_is (validate_allocation_group key value blocks mode) h.0)
  leaf_holds TreeKind.Cleanup h = (cleanup key value blocks page_generation mode).0 (passed_is (validate_cleanup_key_value key value blocks page_generation mode) h.0)
  leaf_holds TreeKind.Workspace h = (workspace_run key value blocks mode).0 (passed_is (validate_workspace_run key value blocks mode) h.0)

  leaf_passes : (kind : TreeKind) → LeafHolds kind key value blocks page_generation → AllHold (leaf_demands kind key value blocks page_generation mode)
  leaf_passes TreeKind.Catalog h = (
    passed_test (validate_catalog_key key mode) (byte_at key 8) ((key_exactly key mode (byte_at key 8)).1 (h.0, refl)),
    (passed_test (catalog_record key value blocks mode) tt (record_passes mode h.1), tt),
  )
  leaf_passes TreeKind.Allocation h = (passed_test (validate_allocation_group key value blocks mode) tt ((allocation_group key value blocks mode).1 h), tt)
  leaf_passes TreeKind.Cleanup h = (passed_test (validate_cleanup_key_value key value blocks page_generation mode) tt ((cleanup key value blocks page_generation mode).1 h), tt)
  leaf_passes TreeKind.Workspace h = (passed_test (validate_workspace_run key value blocks mode) tt ((workspace_run key value blocks mode).1 h), tt)

-- the blocks that a record counts are those of the plain conditions
blocks_same : (kind : TreeKind) (key value : List ℕ) → leaf_blocks kind key value ≡ blocks_counted kind key value
blocks_same TreeKind.Catalog key value = refl
blocks_same TreeKind.Allocation key value = refl
blocks_same TreeKind.Cleanup key value = refl
blocks_same TreeKind.Workspace key value = refl

module _ (kind : TreeKind) (key value : List ℕ) (blocks page_generation : ℕ) (mode : Validation) (n : ℕ) where
  holds : validate_leaf_record kind key value blocks page_generation mode ≡ Ok n → LeafHolds kind key value blocks page_generation × (n ≡ blocks_counted kind key value)
  unfolding validate_leaf_record
  holds e =
      let g = (given_exactly (leaf_demands kind key value blocks page_generation mode) (leaf_blocks kind key value) n).0 e in
      (leaf_holds key value blocks page_generation mode kind g.0, g.1 ∙ blocks_same kind key value)

  passes : LeafHolds kind key value blocks page_generation × (n ≡ blocks_counted kind key value) → validate_leaf_record kind key value blocks page_generation mode ≡ Ok n
  unfolding validate_leaf_record
  passes h =
      (given_exactly (leaf_demands kind key value blocks page_generation mode) (leaf_blocks kind key value) n).1
      (leaf_passes key value blocks page_generation mode kind h.0, h.1 ∙ sym (blocks_same kind key value))

  pub leaf_record : (validate_leaf_record kind key value blocks page_generation mode ≡ Ok n) ↔ (LeafHolds kind key value blocks page_generation × (n ≡ blocks_counted kind key value))
  leaf_record = (holds, passes)

-- ---- a record that is to be written

module _ (kind : TreeKind) (key value : List ℕ) (blocks generation n : ℕ) where
  blocks_holds : leaf_record_blocks kind key value blocks generation ≡ Ok n → Sized key value × LeafHolds kind key value blocks generation × (n ≡ blocks_counted kind key value)
  unfolding leaf_record_blocks
  blocks_holds e =
      let a = answer_passed (record_size_demands key value) (validate_leaf_record kind key value blocks generation Input) n e in
      let s = all_hold (record_size_demands key value) a.0 in
      let l = holds kind key value blocks generation Input n a.1 in
      let sized : Sized key value =
      record {
        key_low = leb-true 1 (length key) (and_left _ _ s.0);
        key_high = leb-true (length key) 1024 (and_right _ _ s.0);
        size = leb-true (4 + length key + length value) 3072 s.1.0;
      }
      in
      (sized, l.0, l.1)

  blocks_passes : Sized key value × LeafHolds kind key value blocks generation × (n ≡ blocks_counted kind key value) → leaf_record_blocks kind key value blocks generation ≡ Ok n
  unfolding leaf_record_blocks
  blocks_passes h =
      let k = and_both _ _ (le-leb 1 (length key) h.0.key_low) (le-leb (length key) 1024 h.0.key_high) in
      outcome_holds (record_size_demands key value) (validate_leaf_record kind key value blocks generation Input) (k, (le-leb (4 + length key + length value) 3072 h.0.size, tt))
      ∙ passes kind key value blocks generation Input n (h.1, h.2)

  pub to_be_written : (leaf_record_blocks kind key value blocks generation ≡ Ok n) ↔ (Sized key value × LeafHolds kind key value blocks generation × (n ≡ blocks_counted kind key value))
  to_be_written = (blocks_holds, blocks_passes)
