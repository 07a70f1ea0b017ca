use mathlib.Core.Path.{◌∙◌}
use lib.ListN.{length, take}
use Rattle.octets.proofs.Same.{front_is}
use Rattle.octets.proofs.starts_with.Goals as goal

pub returns : goal.returns
returns c = let a = c.args in c.starts_with.ensures.value ∙ front_is (take (length a.text.now) a.bytes.now) a.text.now
