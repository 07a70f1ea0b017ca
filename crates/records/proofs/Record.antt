-- Each check of a record accepts exactly when its conditions in specs/Record hold.
use Rattle.records.specs.Record.{RecordsExactly}
use Rattle.records.proofs.Allocation.{allocation_group}
use Rattle.records.proofs.Cleanup.{retirement, detached_tree, orphan_marker, cleanup}
use Rattle.records.proofs.Internal.{internal_record}
use Rattle.records.proofs.Leaf.{leaf_record, to_be_written}
use Rattle.records.proofs.Workspace.{workspace_key, workspace_run}

pub records_exactly : RecordsExactly
records_exactly = record {
  allocation_group = allocation_group;
  retirement = retirement;
  detached_tree = detached_tree;
  orphan_marker = orphan_marker;
  cleanup = cleanup;
  workspace_key = workspace_key;
  workspace_run = workspace_run;
  internal_record = internal_record;
  leaf_record = leaf_record;
  to_be_written = to_be_written;
}
