-- The [P] cases of 01, section 3, hold of the definitions.
use mathlib.Core.Path.{◌≡◌, refl}
use mathlib.Core.Bool.{true}
use Rattle.error.specs.Demand.{outcome, all_true}
use Rattle.error.specs.Reason as reason
use Rattle.utf8.specs.Inside.{read, utf8, plain}
use Rattle.root.specs.Label.{is_label, label_new}
use Rattle.root.specs.Root.{check_place, check_block, root_decode}
use Rattle.root.specs.Cases.{cases, RootAnswers, CasesHold}

labels : all_true cases ≡ true
unfolding cases label_new outcome is_label read utf8 plain
labels = refl

few_blocks : RootAnswers 4096 1023 1 0
unfolding root_decode outcome check_block check_place
few_blocks s slot e = (rw e, rw e)

short_block : RootAnswers 4095 1023 3 reason.root_page_length
unfolding root_decode outcome check_block check_place
short_block s slot e = (rw e, rw e)

pub cases_hold : CasesHold
cases_hold = record { labels = labels; few_blocks = few_blocks; short_block = short_block }
