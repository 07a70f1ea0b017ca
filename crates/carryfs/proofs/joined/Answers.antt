use native.Mathlib.Omega.{arith}
use Rattle.carryfs.proofs.Text.{laid_all}
use Rattle.carryfs.proofs.joined.Goals as goal

pub returns : goal.returns
returns c = laid_all c.put-behind.ensures c.put.ensures (omega arith)
