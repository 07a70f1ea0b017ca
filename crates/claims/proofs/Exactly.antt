-- Demand 2's plain statements hold.
use Rattle.crc.proofs.Examples.{reflected}
use Rattle.crc.proofs.Pieces.{pieces_sum_is}
use Rattle.utf8.proofs.Grammar.{utf8_is_grammar}
use Rattle.roots.proofs.LabelAccept.{label_exactly}
use Rattle.roots.proofs.Accept.{root_exactly}
use Rattle.roots.proofs.Told.{root_told}
use Rattle.roots.proofs.Choice.{choice_exactly}
use Rattle.pages.proofs.Accept.{page_exactly, page_accepted_exactly}
use Rattle.pages.proofs.Empty.{empty_leaf_is_accepted}
use Rattle.pages.proofs.Lookups.{lookup_finds_the_last}
use Rattle.pages.proofs.Records.{records_walked, walk_mode_free}
use Rattle.records.proofs.Mode.{mode_free}
use Rattle.walk.proofs.Walked.{walked_exactly}
use Rattle.group.proofs.Accept.{group_exactly}
use Rattle.volume.proofs.Accept.{volume_exactly}
use Rattle.records.proofs.Catalog.{catalog_exactly}
use Rattle.records.proofs.Record.{records_exactly}
use Rattle.lookup.proofs.SortedLaws.{floor_is_the_last, walking_is_halving}
use Rattle.claims.specs.Exactly.{Demand2}

pub demand_2 : Demand2
demand_2 = record {
  texts = utf8_is_grammar;
  polynomial = reflected;
  pieces = pieces_sum_is;
  blocks = volume_exactly;
  labels = label_exactly;
  roots = root_exactly;
  root_fields = root_told;
  choice = choice_exactly;
  pages = page_exactly;
  pages_class = page_accepted_exactly;
  empty_leaf = empty_leaf_is_accepted;
  page_records = records_walked records_exactly;
  walks = walked_exactly;
  catalog = catalog_exactly;
  records = records_exactly;
  modes = mode_free;
  walk_modes = walk_mode_free records_exactly;
  groups = group_exactly;
  lookups = floor_is_the_last;
  scratch = walking_is_halving;
  page_lookups = lookup_finds_the_last;
}
