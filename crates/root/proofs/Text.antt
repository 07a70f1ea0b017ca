-- The tests of a label one by one, and the lengths of its text.
use mathlib.Core.Path.{◌≡◌}
use mathlib.Core.Bool.{true, not, and-eq-true_iff}
use mathlib.Core.List.{List}
use Prim.Native.Nat.{ℕ, ◌≤◌}
use native.Mathlib.Omega.{arith}
use borrow.Author.Tests.{leb-true}
use lib.Dec.{leb}
use lib.ListN.{length, drop, length-take}
use Rattle.octets.specs.Bytes.{part, padded_to, same_bytes}
use Rattle.octets.specs.Number.{u16_at}
use Rattle.octets.proofs.Join.{part_length}
use Rattle.octets.proofs.Pad.{padded_whole}
use Rattle.utf8.specs.Inside.{utf8, plain}
use Rattle.root.specs.Label.{dot, dots, is_label}
use Rattle.root.specs.Root.{label_text}

-- what the test of a label says, one by one
pub record Tests (s : List ℕ) : Type 0 where
  pub text : utf8 s ≡ true
  pub some : leb 1 (length s) ≡ true
  pub few : leb (length s) 255 ≡ true
  pub no_dot : not (same_bytes s dot) ≡ true
  pub no_dots : not (same_bytes s dots) ≡ true
  pub plain_is : plain s ≡ true

pub tests_hold : (s : List ℕ) → is_label s ≡ true → Tests s
unfolding is_label
tests_hold s e =
    let a = (and-eq-true_iff _ (plain s)).0 e in
    let b = (and-eq-true_iff _ (not (same_bytes s dots))).0 a.0 in
    let c = (and-eq-true_iff _ (not (same_bytes s dot))).0 b.0 in
    let d = (and-eq-true_iff _ (leb (length s) 255)).0 c.0 in
    let f = (and-eq-true_iff (utf8 s) (leb 1 (length s))).0 d.0 in
    record { text = f.0; some = f.1; few = d.1; no_dot = c.1; no_dots = b.1; plain_is = a.1 }

pub holds_tests : (s : List ℕ) → Tests s → is_label s ≡ true
unfolding is_label
holds_tests s t = rw (t.text, t.some, t.few, t.no_dot, t.no_dots, t.plain_is)

-- a label is no longer than 255 bytes
pub label_short : (s : List ℕ) → is_label s ≡ true → length s ≤ 255
label_short s e = leb-true (length s) 255 (tests_hold s e).few

-- a root's label text is no longer than the length that stands before it
pub text_short : (s : List ℕ) → u16_at s 184 ≤ 255 → length (label_text s) ≤ 255
unfolding label_text
text_short s h = omega (arith, length-take (u16_at s 184) (drop 186 s))

-- the UUID's 16 bytes, copied into an array
pub uuid_part : (s : List ℕ) → length s ≡ 4096 → padded_to 16 (part s 24 16) ≡ part s 24 16
uuid_part s e = padded_whole 16 (part s 24 16) (part_length s 24 16 (omega arith))
