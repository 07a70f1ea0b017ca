-- The [P] cases of 01, section 7, hold of the definitions.
use mathlib.Core.Path.{refl}
use Rattle.octets.specs.Number.{field}
use Rattle.octets.specs.Order.{order}
use Rattle.lookup.specs.Record.{split_record, look_at}
use Rattle.lookup.specs.Floor.{written, unbroken, bisect, walk_floor, floor_at}
use Rattle.lookup.specs.Cases.{cases, CasesHold}

pub cases_hold : CasesHold
unfolding cases floor_at written unbroken bisect walk_floor split_record look_at order field
cases_hold = (refl, refl)
