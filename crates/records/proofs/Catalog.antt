-- What each of the catalog's checks accepts, plainly.
use Rattle.records.specs.Catalog.{CatalogExactly}
use Rattle.records.proofs.Keys.{owner_exactly, key_exactly}
use Rattle.records.proofs.Times.{range_exactly, stored_exactly}
use Rattle.records.proofs.Targets.{target_exactly}
use Rattle.records.proofs.Inodes.{inode_exactly}
use Rattle.records.proofs.Entries.{entry_exactly, extent_exactly}

pub catalog_exactly : CatalogExactly
catalog_exactly = record {
  owner = owner_exactly;
  catalog_key = key_exactly;
  timestamp_range = range_exactly;
  timestamp = stored_exactly;
  symlink_target = target_exactly;
  inode = inode_exactly;
  directory_entry = entry_exactly;
  extent = extent_exactly;
}
