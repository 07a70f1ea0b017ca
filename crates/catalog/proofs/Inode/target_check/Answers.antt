use Rattle.octets.proofs.Parts.{part_from}
use Rattle.catalog.specs.Inode.{target_check}
use Rattle.catalog.proofs.Inode.target_check.Goals as goal

pub returns-then-self-eq3 : goal.returns-then-self-eq3
unfolding target_check
returns-then-self-eq3 c = rw c.if-self-eq3.true (rw (part_from c.args.self.now.value.now 128) at c.validate_symlink_target.ensures.answer)
