use Rattle.search.proofs.Turns.{onward_some}
use Rattle.search.proofs.descent.Asked.onward.Goals as goal

pub returns : goal.returns
returns c =
    onward_some _ _ _ _ _ _ _ c.requires _ _ c.in-Some.floor c.in-Some.is _ c.place-through.ensures _ c.value.ensures.bytes _ c.ref_at.ensures _ c.u64_at.ensures
    _ c.upper_after.ensures
