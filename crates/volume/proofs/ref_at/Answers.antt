use mathlib.Core.Path.{ap, ap₂, ◌∙◌}
use Prim.Native.Nat.{ℕ}
use Rattle.octets.specs.Number.{u64_at}
use Rattle.octets.proofs.Parts.{field_from}
use Rattle.volume.specs.declared.TreeRef.{TreeRef}
use Rattle.volume.proofs.ref_at.Goals as goal

pub returns : goal.returns
returns c =
    let a = c.args in
    let ref : ℕ → ℕ → TreeRef = λ x y. record { block = x; generation = y } in
    ap₂ ref c.u64_at.ensures
    (c.u64_at-2.ensures ∙ ap (λ s. u64_at s 8) c.tail.ensures.bytes ∙ field_from a.bytes.now a.at 8 8)
