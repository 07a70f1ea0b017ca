-- A message taken a part at a time: what the loops' invariants and the bytes read as zeros rest on.
use mathlib.Core.Path.{◌≡◌, refl, sym, ap, ap₂, ◌∙◌}
use mathlib.Core.List.{List, [], ◌∷◌, ◌++◌}
use Prim.Native.Nat.{ℕ, zero, suc, ◌+◌, ◌-◌, ◌*◌, ◌^◌, ◌/◌, ◌%◌, ◌≤◌, ◌<◌, zero-le, min}
use native.Mathlib.Nat.{pow-suc, div-one, div-div-eq-div-mul, zero-mul, suc-mul, add_comm, sub-zero, suc-sub-suc, le_refl, le_of_suc-le-suc, not-suc-le-zero}
use native.Mathlib.Omega.{arith}
use lib.ListN.{length, take, drop, get_or, replicate, take-append-drop, length-drop, replicate-append-replicate}
use lib.Seq.{take-add, take_all}
use Rattle.std.specs.Int.{w32, w64, to_le_bytes, bytes_low_first, byte_at}
use Rattle.std.specs.List.{fold}
use Rattle.std.specs.Simd.{first_chunks}
use Rattle.crc.specs.Crc.{ones, step_byte, extend, crc32c, zeroed, crc32c_with_zero}
use Rattle.crc.specs.DataUnit.{tag, unit_front}
use Rattle.crc.proofs.Xor.{◌⊕◌}
use Rattle.octets.specs.Number.{little_bytes}
use Rattle.crc.proofs.Linear.{extend_append}

-- a message byte by byte
pub over_bytes : (r : ℕ) (bs : List ℕ) → fold step_byte r bs ≡ extend r bs
unfolding extend
over_bytes r [] = refl
over_bytes r (b ∷ bs) = over_bytes (step_byte r b) bs

-- the first k parts of n bytes, part by part
pub over_parts : (n k r : ℕ) (bs : List ℕ) → fold extend r (first_chunks n k bs) ≡ extend r (take (k * n) bs)
unfolding extend
over_parts n zero r bs = ap (λ (m : ℕ). extend r (take m bs)) (sym (zero-mul n))
over_parts n (suc k) r bs =
    let e : suc k * n ≡ n + k * n = suc-mul k n ∙ add_comm (k * n) n in
    over_parts n k (extend r (take n bs)) (drop n bs)
    ∙ sym (extend_append r (take n bs) (take (k * n) (drop n bs)))
    ∙ ap (extend r) (sym (take-add n (k * n) bs))
    ∙ ap (λ (m : ℕ). extend r (take m bs)) (sym e)

-- the parts of n bytes, and then the rest
pub parts_rest : {x : ℕ} (n r : ℕ) (bs rest : List ℕ) (parts : List (List ℕ))
    → parts ≡ first_chunks n (length bs / n) bs → rest ≡ drop (length bs / n * n) bs → x ≡ fold extend r parts → extend x rest ≡ extend r bs
parts_rest n r bs rest parts ep er ex =
    let m = length bs / n * n in
    ap₂ extend (ex ∙ ap (fold extend r) ep ∙ over_parts n (length bs / n) r bs) er
    ∙ sym (extend_append r (take m bs) (drop m bs))
    ∙ ap (extend r) (take-append-drop m bs)

-- k zero bytes, and m more
pub zeros_more : {w s : ℕ} (r k m n : ℕ) → w ≡ extend r (replicate n 0) → n ≡ k + m → s ≡ extend r (replicate k 0) → w ≡ extend s (replicate m 0)
zeros_more r k m n p e q =
    p ∙ ap (λ (x : ℕ). extend r (replicate x 0)) e
    ∙ ap (extend r) (sym (replicate-append-replicate k m 0))
    ∙ extend_append r (replicate k 0) (replicate m 0)
    ∙ ap (λ (x : ℕ). extend x (replicate m 0)) (sym q)

pub zeros_done : {w r : ℕ} (n : ℕ) → w ≡ extend r (replicate n 0) → n ≡ 0 → r ≡ w
unfolding extend
zeros_done {w} {r} n p e = sym (p ∙ ap (λ (k : ℕ). extend r (replicate k 0)) e)

pub zero_byte : (r : ℕ) → step_byte r 0 ≡ extend r (replicate 1 0)
unfolding extend
zero_byte r = refl

-- ---- bytes read as zeros: what the definition says at each place

pub zeroed_length : (s e : ℕ) (bs : List ℕ) → length (zeroed s e bs) ≡ length bs
unfolding zeroed
zeroed_length s e [] = refl
zeroed_length zero zero (b ∷ bs) = refl
zeroed_length (suc s) zero (b ∷ bs) = refl
zeroed_length zero (suc e) (b ∷ bs) = ap suc (zeroed_length zero e bs)
zeroed_length (suc s) (suc e) (b ∷ bs) = ap suc (zeroed_length s e bs)

pub zeroed_within : (s e : ℕ) (bs : List ℕ) (i : ℕ) → s ≤ i → i < e → get_or (zeroed s e bs) i 0 ≡ 0
unfolding zeroed
zeroed_within s e [] i h k = refl
zeroed_within zero zero (b ∷ bs) i h k = absurd (not-suc-le-zero k)
zeroed_within (suc s) zero (b ∷ bs) i h k = absurd (not-suc-le-zero k)
zeroed_within zero (suc e) (b ∷ bs) zero h k = refl
zeroed_within zero (suc e) (b ∷ bs) (suc i) h k = zeroed_within zero e bs i zero-le (le_of_suc-le-suc k)
zeroed_within (suc s) (suc e) (b ∷ bs) zero h k = absurd (not-suc-le-zero h)
zeroed_within (suc s) (suc e) (b ∷ bs) (suc i) h k = zeroed_within s e bs i (le_of_suc-le-suc h) (le_of_suc-le-suc k)

pub zeroed_before : (s e : ℕ) (bs : List ℕ) (i : ℕ) → i < s → get_or (zeroed s e bs) i 0 ≡ get_or bs i 0
unfolding zeroed
zeroed_before s e [] i h = refl
zeroed_before zero zero (b ∷ bs) i h = refl
zeroed_before (suc s) zero (b ∷ bs) i h = refl
zeroed_before zero (suc e) (b ∷ bs) i h = absurd (not-suc-le-zero h)
zeroed_before (suc s) (suc e) (b ∷ bs) zero h = refl
zeroed_before (suc s) (suc e) (b ∷ bs) (suc i) h = zeroed_before s e bs i (le_of_suc-le-suc h)

pub zeroed_after : (s e : ℕ) (bs : List ℕ) (i : ℕ) → e ≤ i → get_or (zeroed s e bs) i 0 ≡ get_or bs i 0
unfolding zeroed
zeroed_after s e [] i h = refl
zeroed_after zero zero (b ∷ bs) i h = refl
zeroed_after (suc s) zero (b ∷ bs) i h = refl
zeroed_after zero (suc e) (b ∷ bs) zero h = absurd (not-suc-le-zero h)
zeroed_after zero (suc e) (b ∷ bs) (suc i) h = zeroed_after zero e bs i (le_of_suc-le-suc h)
zeroed_after (suc s) (suc e) (b ∷ bs) zero h = refl
zeroed_after (suc s) (suc e) (b ∷ bs) (suc i) h = zeroed_after s e bs i (le_of_suc-le-suc h)

-- ---- and as the code takes them

-- the bytes before s, zeros up to e, and the bytes from e on
abbrev pub parts : ℕ → ℕ → List ℕ → List ℕ
parts s e bs = take s bs ++ (replicate (e - s) 0 ++ drop e bs)

-- the places are held to the message first
pub zeroed_parts : (s e : ℕ) (bs : List ℕ) → zeroed s e bs ≡ parts (min s (min e (length bs))) (min e (length bs)) bs
unfolding zeroed
zeroed_parts s e [] =
    let p : min s (min e 0) ≡ 0 = omega arith in
    let q : min e 0 ≡ 0 = omega arith in
    sym (ap₂ (λ (x y : ℕ). parts x y []) p q)
zeroed_parts zero zero (b ∷ bs) =
    let p : min 0 (min 0 (suc (length bs))) ≡ 0 = omega arith in
    let q : min 0 (suc (length bs)) ≡ 0 = omega arith in
    sym (ap₂ (λ (x y : ℕ). parts x y (b ∷ bs)) p q)
zeroed_parts (suc s) zero (b ∷ bs) =
    let p : min (suc s) (min 0 (suc (length bs))) ≡ 0 = omega arith in
    let q : min 0 (suc (length bs)) ≡ 0 = omega arith in
    sym (ap₂ (λ (x y : ℕ). parts x y (b ∷ bs)) p q)
zeroed_parts zero (suc e) (b ∷ bs) =
    let m = min e (length bs) in
    let p : min 0 (min (suc e) (suc (length bs))) ≡ 0 = omega arith in
    let q : min (suc e) (suc (length bs)) ≡ suc m = omega arith in
    let p' : min 0 m ≡ 0 = omega arith in
    ap (λ (l : List ℕ). 0 ∷ l) (zeroed_parts zero e bs ∙ ap (λ (x : ℕ). parts x m bs) p')
    ∙ ap (λ (k : ℕ). 0 ∷ (replicate k 0 ++ drop m bs)) (sub-zero m)
    ∙ ap (λ (k : ℕ). replicate k 0 ++ drop m bs) (sym (sub-zero (suc m)))
    ∙ sym (ap₂ (λ (x y : ℕ). parts x y (b ∷ bs)) p q)
zeroed_parts (suc s) (suc e) (b ∷ bs) =
    let m = min e (length bs) in
    let a = min s m in
    let p : min (suc s) (min (suc e) (suc (length bs))) ≡ suc a = omega arith in
    let q : min (suc e) (suc (length bs)) ≡ suc m = omega arith in
    ap (λ (l : List ℕ). b ∷ l) (zeroed_parts s e bs)
    ∙ ap (λ (k : ℕ). b ∷ (take a bs ++ (replicate k 0 ++ drop m bs))) (sym (suc-sub-suc m a))
    ∙ sym (ap₂ (λ (x y : ℕ). parts x y (b ∷ bs)) p q)

pub extend_parts : (r s e : ℕ) (bs : List ℕ)
    → extend r (parts s e bs) ≡ extend (extend (extend r (take s bs)) (replicate (e - s) 0)) (drop e bs)
extend_parts r s e bs =
    extend_append r (take s bs) (replicate (e - s) 0 ++ drop e bs)
    ∙ extend_append (extend r (take s bs)) (replicate (e - s) 0) (drop e bs)

-- the checksum with zeros, as the code puts it together
pub with_zero : {e s x y z : ℕ} (bs : List ℕ) (start end : ℕ) → e ≡ min end (length bs) → s ≡ min start e
    → x ≡ extend ones (take s bs) → y ≡ extend x (replicate (e - s) 0) → z ≡ extend y (take (length bs - e) (drop e bs))
    → z ⊕ ones ≡ crc32c_with_zero bs start end
unfolding crc32c_with_zero crc32c
with_zero {e} {s} {x} {y} {z} bs start end pe ps px py pz =
    let ps' : s ≡ min start (min end (length bs)) = cc in
    let whole : take (length bs - e) (drop e bs) ≡ drop e bs = take_all (length bs - e) (drop e bs) (simp length-drop (le_refl _)) in
    let q : extend ones (zeroed start end bs) ≡ extend ones (parts s e bs) =
    ap (extend ones) (zeroed_parts start end bs ∙ sym (ap₂ (λ (a b : ℕ). parts a b bs) ps' pe)) in
    let same : z ≡ extend ones (zeroed start end bs) = cc (extend_parts ones s e bs) in
    ap (λ (a : ℕ). a ⊕ ones) same

-- ---- a data unit

-- the library's bytes of a number, the lowest first
from_byte : (i k n : ℕ) → bytes_low_first i k n ≡ little_bytes k (n / 256 ^ i)
from_byte i zero n = refl
from_byte i (suc k) n = ap₂ (λ (x : ℕ) (xs : List ℕ). x ∷ xs) (low i) (from_byte (suc i) k n ∙ ap (little_bytes k) (ap (λ (x : ℕ). n / x) (pow-suc 256 i) ∙ sym (div-div-eq-div-mul n (256 ^ i) 256)))
  where
    low : (i : ℕ) → byte_at i n ≡ n / 256 ^ i % 256
    low zero = ap (λ (x : ℕ). x % 256) (sym (div-one n))
    low (suc i) = refl

bytes_same : (k n : ℕ) → bytes_low_first 0 k n ≡ little_bytes k n
bytes_same k n = from_byte 0 k n ∙ ap (little_bytes k) (div-one n)

-- what stands before a unit's bytes, part by part
pub front_lem : {a b c d e : ℕ} {os us ls : List ℕ} (uuid : List ℕ) (object unit valid : ℕ)
    → a ≡ extend ones tag → b ≡ extend a uuid → os ≡ to_le_bytes w64 object → c ≡ extend b os → us ≡ to_le_bytes w64 unit → d ≡ extend c us
    → ls ≡ to_le_bytes w32 valid → e ≡ extend d ls → e ≡ extend ones (unit_front uuid object unit valid)
front_lem {a} {b} {c} {d} {e} {os} {us} {ls} uuid object unit valid pa pb po pc pu pd pl pe =
    let o = po ∙ bytes_same 8 object in
    let u = pu ∙ bytes_same 8 unit in
    let l = pl ∙ bytes_same 4 valid in
    simp extend_append (cc)
