-- The requests' statements hold.
use Rattle.roots.proofs.Told.{root_told}
use Rattle.claims.specs.Requests.{Request1, Request2}
use Rattle.utf8.proofs.Grammar.{utf8_is_grammar}
use Rattle.utf8.proofs.Rows.{tests_are_rows, first_byte_tells, cut_in_one_way, rows_hold, same_as_std}
use Rattle.paths.proofs.Down.{search_answers, eight_pages}
use Rattle.paths.proofs.Nowhere.{none_means_nowhere, none_is_nowhere}
use Rattle.paths.proofs.Exactly.{sentences_hold}
use Rattle.paths.proofs.Places.{record_is_there}
use Rattle.paths.proofs.Steps.{steps}
use Rattle.paths.proofs.Parents.{one_parent_for_all}
use Rattle.claims.proofs.Searches.{own_classes}
use Rattle.claims.proofs.Callers.{only_the_roots_page}

pub request_1 : Request1
request_1 = record {
  steps = steps;
  trees = λ s slot blocks root e. let h = root_told s slot blocks root e in record { catalog = h.catalog; allocation = h.allocation; cleanup = h.cleanup; workspace = h.workspace };
  answers = search_answers;
  sentences = sentences_hold own_classes;
  found = record_is_there;
  nowhere = none_means_nowhere;
  none_nowhere = none_is_nowhere;
  pages = eight_pages;
  parents = one_parent_for_all;
  callers = only_the_roots_page;
  own = own_classes;
}

pub request_2 : Request2
request_2 = record { passes = utf8_is_grammar; cases = tests_are_rows; alone = first_byte_tells; one_way = cut_in_one_way; rows = rows_hold; std = same_as_std }
