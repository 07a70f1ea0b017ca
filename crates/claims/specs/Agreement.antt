-- Demand 3, whole: two accepted pages, roots or checksum groups agree in all their bytes exactly when what the calls return agrees.
use Rattle.pages.specs.Agree.{PagesAgree, LookupIsHandedOut}
use Rattle.roots.specs.Agree.{RootsAgree}
use Rattle.group.specs.Agree.{GroupsAgree, ExpandedSlots, ExpandedGroupsAgree, SlotsAreTold, SomeGroupAccepted}

-- demand 3, with 01's "What demand 3 compares"
pub record Demand3 : Type 0 where
  -- two pages accepted for one reference, UUID and tree kind agree in all 4,096 bytes exactly when level, total and all lookups agree, whatever scratch each lookup is lent
  pub pages : PagesAgree
  -- a lookup finds the record that `next` hands out first of those that `floor_record` answers
  pub found : LookupIsHandedOut
  -- two roots accepted in one slot agree in all 4,096 bytes exactly when all fields agree, labels in length and text, none only with none
  pub roots : RootsAgree
  -- two accepted checksum groups agree in all bytes exactly when all 256 slots agree in presence and word, lent as stored
  pub groups : GroupsAgree
  -- a slot of the expanded form is that of the stored form
  pub slots : ExpandedSlots
  -- and lent in expanded form
  pub expanded : ExpandedGroupsAgree
  -- what they answer, lent as stored or expanded: of an accepted group no slot below 256 is refused, presence is the slot's bit, and the word the u32 at 32 + 4 s, or 0
  pub told : SlotsAreTold
  -- and there is an accepted group
  pub shown : SomeGroupAccepted
