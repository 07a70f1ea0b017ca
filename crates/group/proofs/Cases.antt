-- The [P] cases hold: antt computes each.
use mathlib.Core.Path.{refl}
use Rattle.group.specs.Cases.{cases, CasesHold}
use Rattle.group.specs.Group.{compact_bytes, stored_slots}

pub cases_hold : CasesHold
unfolding cases compact_bytes stored_slots
cases_hold = refl
