use mathlib.Core.Path.{sym}
use Rattle.utf8.proofs.Plain.{front_allowed}
use Rattle.utf8.proofs.is_front_allowed.Goals as goal

pub returns : goal.returns
returns c n e = simp (c.byte_at-b.ensures, c.byte_at-a.ensures) (sym (front_allowed c.args.s.now n e))
