-- Numbers made of smaller numbers: one law for every width.
use mathlib.Core.Path.{◌≡◌, ◌∙◌}
use mathlib.Core.List.{List, [], ◌∷◌, ◌++◌}
use Prim.Native.Nat.{ℕ, ◌+◌, ◌*◌, ◌^◌, ◌≤◌, ◌<◌}
use native.Mathlib.Nat.{zero-add, one-mul, pow-suc}
use native.Mathlib.Omega.{arith}
use lib.Pow.{pow-add}
use lib.ListN.{length, drop, length-append, length-drop}
use lib.Seq.{take-add, drop-drop, drop-cons, length-take-le}
use Rattle.octets.specs.Bytes.{byte_at, part}
use Rattle.octets.specs.Number.{little, big, field}

pub part_length : (s : List ℕ) (o w : ℕ) → o + w ≤ length s → length (part s o w) ≡ w
part_length s o w h = length-take-le w (drop o s) (rw length-drop (omega arith))

pub part_split : (s : List ℕ) (o w v : ℕ) → part s o (w + v) ≡ part s o w ++ part s (o + w) v
part_split s o w v = rw (take-add, drop-drop)

pub little_append : (a b : List ℕ) → little (a ++ b) ≡ little a + 256 ^ length a * little b
little_append [] b = rw (zero-add, one-mul)
little_append (x ∷ a) b = rw (little_append a b, pow-suc) (omega arith)

pub big_append : (a b : List ℕ) → big (a ++ b) ≡ 256 ^ length b * big a + big b
big_append [] b = omega arith
big_append (x ∷ a) b = rw (big_append a b, length-append a b, pow-add) (omega arith)

-- a number of w + v bytes is made of those of its first w and its last v bytes
pub field_join : (w v : ℕ) (s : List ℕ) (o : ℕ) → o + w ≤ length s → field s o (w + v) ≡ field s o w + 256 ^ w * field s (o + w) v
unfolding field
field_join w v s o h = rw part_split (little_append (part s o w) (part s (o + w) v) ∙ rw (part_length s o w h))

pub field_one : (s : List ℕ) (o : ℕ) → o < length s → field s o 1 ≡ byte_at s o
unfolding field
field_one s o h = rw (drop-cons s o 0 h) (omega arith)
