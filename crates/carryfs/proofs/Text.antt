-- Two texts that fill a lent buffer.
use Prim.Native.Nat.{ℕ, ◌+◌}
use mathlib.Core.Path.{◌≡◌, ◌∙◌}
use mathlib.Core.List.{List, ◌++◌, append-nil}
use native.Mathlib.Omega.{arith}
use lib.ListN.{length, drop, length-append}
use Rattle.std.proofs.lemmas.List.{drop_all}
use Rattle.octets.specs.Bytes.{Laid}
use Rattle.octets.proofs.Lay.{laid_then, laid_whole}

pub laid_all : {out a mid b after : List ℕ} {m r : ℕ} → Laid out 0 a mid m → Laid mid m b after r → length a + length b ≡ length out → after ≡ a ++ b
laid_all {out} {a} {mid} {b} {after} first second fits =
    let z : after ≡ (a ++ b) ++ drop (0 + length (a ++ b)) out = (laid_whole (laid_then first second) (omega (arith, length-append a b))).0 in
    z ∙ rw (drop_all (0 + length (a ++ b)) out (omega (arith, length-append a b)), append-nil)
