-- What is accepted in one mode is accepted in the other: the same conditions say it of both.
use mathlib.Core.Logic.{◌↔◌}
use Rattle.records.specs.Mode.{ModeFree}
use Rattle.records.proofs.Internal.{internal_record}
use Rattle.records.proofs.Leaf.{leaf_record}

-- two statements, each of which holds exactly where a third does
both : {A B C : Type 0} → A ↔ C → B ↔ C → A ↔ B
both a b = (λ p. b.1 (a.0 p), λ p. a.1 (b.0 p))

pub mode_free : ModeFree
mode_free = record {
  leaf_record = λ kind key value blocks page_generation one other n. both (leaf_record kind key value blocks page_generation one n) (leaf_record kind key value blocks page_generation other n);
  internal_record = λ kind key value blocks page_generation one other reference. both (internal_record kind key value blocks page_generation one reference) (internal_record kind key value blocks page_generation other reference);
}
