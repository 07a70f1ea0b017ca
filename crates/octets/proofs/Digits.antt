-- Bytes are the digits of their number: two parts of one length with one number are the same bytes.
use mathlib.Core.Path.{◌≡◌, refl, sym, ap₂, subst, ◌∙◌}
use mathlib.Core.List.{List, [], ◌∷◌}
use Prim.Native.Nat.{ℕ, zero, suc, ◌+◌, ◌*◌, ◌^◌, ◌≤◌, ◌<◌, zero-le}
use native.Mathlib.Nat.{suc_inj, le_refl, pow-succ'}
use native.Mathlib.Omega.{arith}
use lib.Dec.{lit<}
use lib.ListN.{length, get_or, take, drop}
use lib.Seq.{get_or-drop}
use Rattle.octets.specs.Bytes.{part, Bytes}
use Rattle.octets.specs.Number.{little, field}
use Rattle.octets.proofs.Join.{part_length}

take_le : (n : ℕ) (l : List ℕ) (i : ℕ) → get_or (take n l) i 0 ≤ get_or l i 0
take_le zero l i = zero-le
take_le (suc n) [] i = zero-le
take_le (suc n) (x ∷ l) zero = le_refl x
take_le (suc n) (x ∷ l) (suc i) = take_le n l i

pub bytes_part : (s : List ℕ) (o w : ℕ) → Bytes s → Bytes (part s o w)
bytes_part s o w b = record { below = λ i. omega (arith, take_le w (drop o s) i, get_or-drop o s i 0, b.below (o + i)) }

pub bytes_drop : (s : List ℕ) (n : ℕ) → Bytes s → Bytes (drop n s)
bytes_drop s n b = record { below = λ i. omega (arith, get_or-drop n s i 0, b.below (n + i)) }

pub little_same : (a b : List ℕ) → length a ≡ length b → Bytes a → Bytes b → little a ≡ little b → a ≡ b
little_same [] [] n p q e = refl
little_same [] (y ∷ b) n p q e = let z : ◌≡◌ {A = ℕ} 0 1 = omega arith in cc
little_same (x ∷ a) [] n p q e = let z : ◌≡◌ {A = ℕ} 0 1 = omega arith in cc
little_same (x ∷ a) (y ∷ b) n p q e =
    let head : x ≡ y = omega (arith, p.below 0, q.below 0) in
    let rest : little a ≡ little b = omega (arith, p.below 0, q.below 0) in
    ap₂ ◌∷◌ head (little_same a b (suc_inj n) (record { below = λ i. p.below (suc i) }) (record { below = λ i. q.below (suc i) }) rest)

-- a field's bytes follow from its number: two fields of one width that lie within their bytes
pub field_same : (s t : List ℕ) (o w : ℕ) → Bytes s → Bytes t → o + w ≤ length s → o + w ≤ length t → field s o w ≡ field t o w → part s o w ≡ part t o w
unfolding field
field_same s t o w p q m n e = little_same (part s o w) (part t o w) (part_length s o w m ∙ sym (part_length t o w n)) (bytes_part s o w p) (bytes_part t o w q) e

-- a number of so many bytes lies below the power of 256
little_below : (l : List ℕ) → Bytes l → little l < 256 ^ length l
little_below [] h = lit< tt
little_below (x ∷ l) h =
    let low : x < 256 = h.below 0 in
    let rest : little l < 256 ^ length l = little_below l (record { below = λ i. h.below (suc i) }) in
    rw pow-succ' (omega arith)

pub field_below : (s : List ℕ) (o w : ℕ) → Bytes s → o + w ≤ length s → field s o w < 256 ^ w
unfolding field
field_below s o w b l = subst (λ (n : ℕ). little (part s o w) < 256 ^ n) (part_length s o w l) (little_below (part s o w) (bytes_part s o w b))
