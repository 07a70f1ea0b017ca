-- What is answered of a root is what stands in the block.
use mathlib.Core.Path.{◌≡◌, refl, sym, ap, ◌∙◌, subst}
use mathlib.Core.Bool.{Bool, true, false, not, cond}
use mathlib.Core.List.{List, ◌++◌}
use Prim.Native.Nat.{ℕ, ◌-◌, ◌≤◌}
use native.Mathlib.Omega.{arith}
use borrow.Author.Tests.{eqb-true, eqb-false}
use lib.Dec.{eqb}
use lib.ListN.{length, replicate}
use lib.Seq.{take_all}
use Rattle.std.specs.Prelude.{Some, None}
use Rattle.octets.specs.Bytes.{part}
use Rattle.octets.specs.Number.{u16_at}
use Rattle.octets.proofs.Join.{part_length}
use Rattle.root.specs.declared.Root.{Root}
use Rattle.root.specs.Label.{label_of}
use Rattle.root.specs.Root.{label_text, root_of}
use Rattle.roots.specs.Accept.{LabelStands, RootStates, RootTold}
use Rattle.roots.proofs.Accept.{root_exactly}

some_is : (n : ℕ) → eqb n 0 ≡ false → 1 ≤ n
some_is n e = let z : n ≡ 0 → ⊥ = eqb-false n 0 e in omega arith

label_stands : (s : List ℕ) → length s ≡ 4096 → u16_at s 184 ≤ 255 → (b : Bool) → eqb (u16_at s 184) 0 ≡ b → LabelStands s (cond (not b) (Some (label_of (label_text s))) None)
unfolding label_of label_text
label_stands s l few true e = eqb-true (u16_at s 184) 0 e
label_stands s l few false e =
    let n = u16_at s 184 in
    let t = part s 186 n in
    let long : length t ≡ n = part_length s 186 n (omega arith) in
    (some_is n e, long, ap (λ (x : List ℕ). x ++ replicate (255 - length t) 0) (take_all 255 t (omega arith)) ∙ ap (λ (k : ℕ). t ++ replicate (255 - k) 0) long)

-- Kept: references by `omega`, where `refl` would do: one that stands elsewhere is then refused at numbers.
of_block : (s : List ℕ) → length s ≡ 4096 → u16_at s 184 ≤ 255 → RootStates s (root_of s)
unfolding root_of
of_block s l few = record {
  label = label_stands s l few (eqb (u16_at s 184) 0) refl;
  uuid = refl;
  generation = refl;
  blocks = refl;
  catalog = record { block = omega arith; generation = omega arith };
  allocation = record { block = omega arith; generation = omega arith };
  cleanup = record { block = omega arith; generation = omega arith };
  next_object = refl;
  free_blocks = refl;
  next_job = refl;
  workspace = record { block = omega arith; generation = omega arith };
  workspace_cursor = refl;
}

pub root_told : RootTold
root_told s slot blocks root e =
    let h = (root_exactly s slot blocks root).0 e in
    subst (λ (r : Root). RootStates s r) (sym h.1) (of_block s h.0.size h.0.label_most)
