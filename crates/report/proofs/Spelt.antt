-- One text for each element of a list, one behind the other.
use Prim.Native.Nat.{ℕ, ◌+◌, ◌≤◌, ◌<◌}
use mathlib.Core.Path.{◌≡◌, refl, sym}
use mathlib.Core.List.{List, []}
use native.Mathlib.Omega.{arith}
use lib.ListN.{length, get_or, take}
use lib.Seq.{take_all}
use Rattle.std.specs.List.{flat_map}
use Rattle.std.proofs.lemmas.List.{take_more, flat_map_more}
use Rattle.octets.specs.Bytes.{Laid}
use Rattle.octets.proofs.Lay.{laid_then}

-- the texts of the first i elements stand
abbrev pub Spelt : {X : Type 0} (f : X → List ℕ) (before : List ℕ) (at : ℕ) (xs : List X) (out : List ℕ) (i place : ℕ) → Type 0
Spelt f before at xs out i place = Laid before at (flat_map f (take i xs)) out place

pub spelt_none : {X : Type 0} (f : X → List ℕ) (out : List ℕ) (at : ℕ) (xs : List X) → Spelt f out at xs out 0 at
spelt_none f out at xs = record { stands = refl; ends = omega arith }

pub spelt_more : {X : Type 0} (f : X → List ℕ) {before out after : List ℕ} {at place r : ℕ} (xs : List X) (i : ℕ) (x : X) → Spelt f before at xs out i place → i < length xs → x ≡ get_or xs i x → Laid out place (f x) after r → Spelt f before at xs after (i + 1) r
spelt_more {X} f xs i x g l e m = rw (take_more xs i x l, sym e, sym (flat_map_more f [] (take i xs) x)) (laid_then g m)

pub spelt_all : {X : Type 0} (f : X → List ℕ) {before out : List ℕ} {at place : ℕ} (xs : List X) (i : ℕ) → Spelt f before at xs out i place → length xs ≤ i → Laid before at (flat_map f xs) out place
spelt_all f xs i g l = rw (take_all i xs l) at g
