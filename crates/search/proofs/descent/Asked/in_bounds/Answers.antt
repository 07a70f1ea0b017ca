use Rattle.search.proofs.Bounds.{all_by_last}
use Rattle.search.proofs.descent.Asked.in_bounds.Goals as goal

pub returns : goal.returns
returns c =
    all_by_last _ _ _ _ c.requires c.if-count-eq0.false _ _ _ c.place-first.ensures _ c.key.ensures.bytes _ c.is_below_lower.ensures c.if-is_below_lower.false
    _ c.place-last.ensures _ c.key-2.ensures.bytes _ c.is_below_upper.ensures
