-- The [P] cases of 01, one table for all sections; each is a test of the crates' own definitions.
use Rattle.volume.specs.Cases as volume
use Rattle.root.specs.Cases as root
use Rattle.record.specs.Cases as record-cases
use Rattle.group.specs.Cases as group
use Rattle.lookup.specs.Cases as lookup

-- all of 01's [P] cases hold
pub record Cases : Type 0 where
  -- section 2: slots, bank roots and blocks, non-reserved blocks at B = 1,024 and 1,025
  pub volume_blocks : volume.CasesHold
  -- section 3: labels, and the classes of 4,095 and 4,096 bytes with blocks 1,023
  pub roots : root.CasesHold
  -- section 5: extents at B = 1,025, seconds, nanoseconds, orphan markers
  pub records : record-cases.CasesHold
  -- section 6: the stored form's 44 and 32 bytes
  pub groups : group.CasesHold
  -- section 7: keys `b` and `d`
  pub lookups : lookup.CasesHold
