-- Allocation groups: 16,384 blocks each (the Rust's `allocation_group_count` and `reserved_group_blocks`; 01, "What takes another shape").
use Rattle.std.specs.Prelude.{Ok}
use Rattle.std.specs.Prelude.{ℕ, ◌+◌, ◌-◌, ◌*◌, ◌/◌, min, max, List, [], ◌∷◌}
use Rattle.error.specs.declared.Error.TheVariants.{Corrupt}
use Rattle.error.specs.Answer.{Number}
use Rattle.error.specs.Demand.{Demand, ◌otherwise◌, outcome}
use Rattle.error.specs.Reason as reason
use Rattle.volume.specs.Numbers.{largest, sum_fits}
use Rattle.volume.specs.declared.GroupBlocks.{GroupBlocks}

-- `ALLOCATION_GROUP_BLOCKS`: how many blocks a group has
abbrev pub allocation_group_blocks : ℕ
allocation_group_blocks = 16384

-- READING-RULES 5.3: the groups that the blocks fill, the last perhaps cut short: blocks / 16,384 rounded up
unfoldable pub groups_of : ℕ → ℕ
groups_of blocks = (blocks + (allocation_group_blocks - 1)) / allocation_group_blocks

-- READING-RULES 5.3: refused, with class 3 in every mode, where blocks + 16,383 passes 64 bits
abbrev pub group_count_demands : ℕ → List Demand
group_count_demands blocks = sum_fits blocks (allocation_group_blocks - 1) otherwise Corrupt reason.allocation_group_range ∷ []

-- 01, "Return classes": the first that fails answers; else how many groups there are
unfoldable pub allocation_group_count : ℕ → Number
allocation_group_count blocks = outcome (group_count_demands blocks) (Ok (groups_of blocks))

-- `reserved_group_blocks`: the first block of a group, as far as 64 bits go
abbrev pub group_start : ℕ → ℕ
group_start group = min (group * allocation_group_blocks) largest

-- `reserved_group_blocks`: one past its last block, as far as 64 bits go
abbrev pub group_end : ℕ → ℕ
group_end group = min (group_start group + allocation_group_blocks) largest

-- `reserved_group_blocks`: the blocks of a group that can never be allocated: below 512, and from B - 512 on; a range whose start is not below its end is empty
abbrev pub reserved_group_blocks : ℕ → ℕ → GroupBlocks
reserved_group_blocks group blocks = record {
  low_start = group_start group;
  low_end = min (group_end group) 512;
  high_start = max (blocks - 512) (group_start group);
  high_end = group_end group;
}
