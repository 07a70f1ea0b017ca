-- A label behind its space, and the sign for none.
use Prim.Native.Nat.{ℕ}
use mathlib.Core.Path.{◌≡◌, refl}
use mathlib.Core.List.{List, [], ◌∷◌, ◌++◌}
use native.Mathlib.Omega.{arith}
use borrow.Author.Tests.{ne_eqb}
use mathlib.Core.Bool.{true, false}
use lib.ListN.{length}
use Rattle.std.specs.Bool.{◌==◌}
use Rattle.octets.specs.Bytes.{Laid}
use Rattle.report.specs.Line.{label_field}
use Rattle.octets.proofs.Lay.{laid_two}

none : (label : List ℕ) → true ≡ (length label == 0) → label_field label ≡ 32 ∷ 45 ∷ []
unfolding label_field
none [] h = refl
none (b ∷ label) h =
    let n = ne_eqb (length (b ∷ label)) 0 (λ e. omega arith) in
    absurd (let z : ◌≡◌ {A = ℕ} 0 1 = cc in omega arith)

some : (label : List ℕ) → false ≡ (length label == 0) → label_field label ≡ (32 ∷ []) ++ label
unfolding label_field
some [] h = absurd (let z : ◌≡◌ {A = ℕ} 0 1 = cc in omega arith)
some (b ∷ label) h = refl

pub no_label : (label : List ℕ) {out last : List ℕ} {at r : ℕ} → Laid out at (32 ∷ 45 ∷ []) last r → true ≡ (length label == 0) → Laid out at (label_field label) last r
no_label label l h = rw (none label h) l

pub a_label : {label out after last : List ℕ} {at middle r : ℕ} → Laid out at (32 ∷ []) after middle → Laid after middle label last r → false ≡ (length label == 0) → Laid out at (label_field label) last r
a_label {label} f g h = laid_two f g (some label h)
