-- Demand 3 holds.
use Rattle.pages.proofs.Agree.{pages_agree, lookup_is_handed_out}
use Rattle.roots.proofs.Agree.{roots_agree}
use Rattle.group.proofs.Agree.{groups_agree, expanded_slots, expanded_groups_agree}
use Rattle.group.proofs.Told.{slots_are_told, some_group_accepted}
use Rattle.claims.specs.Agreement.{Demand3}

pub demand_3 : Demand3
demand_3 = record {
  pages = pages_agree;
  found = lookup_is_handed_out;
  roots = roots_agree;
  groups = groups_agree;
  slots = expanded_slots;
  expanded = expanded_groups_agree;
  told = slots_are_told;
  shown = some_group_accepted;
}
