-- Every [P] case holds.
use Rattle.volume.proofs.Cases as volume
use Rattle.root.proofs.Cases as root
use Rattle.record.proofs.Cases as record-cases
use Rattle.group.proofs.Cases as group
use Rattle.lookup.proofs.Cases as lookup
use Rattle.claims.specs.Cases.{Cases}

pub all_cases : Cases
all_cases = record {
  volume_blocks = volume.cases_hold;
  roots = root.cases_hold;
  records = record-cases.cases_hold;
  groups = group.cases_hold;
  lookups = lookup.cases_hold;
}
