-- Bits of a byte: the mask of the code, the highest bit, and a byte as its bits.
use mathlib.Core.Path.{◌≡◌, sym, ap, ◌∙◌, refl}
use mathlib.Core.Bool.{true, false, Bool}
use mathlib.Core.List.{List}
use Prim.Native.Nat.{ℕ, suc, ◌+◌, ◌-◌, ◌*◌, ◌/◌, ◌%◌, ◌^◌, ◌≤◌, ◌<◌, zero}
use native.Mathlib.Nat.{mod-lt, div-eq_of_lt, div-le_self, zero-mul, add-zero, pow-suc, lt_of_lt_of_le}
use native.Mathlib.Decide.{dec_lt}
use native.Mathlib.Omega.{arith}
use borrow.Author.Tests.{eq-eqb, ne_eqb, eqb-true, eqb-false}
use lib.Dec.{eqb, lit<}
use lib.ListN.{get_or}
use lib.Pow.{pow_pos, pow_mono, pow-add, shl_exact, high, shr-shr}
use lib.Bits.{bit_and, and_high}
use Rattle.octets.specs.Bytes.{bit, bit_set}

-- a mask of one bit
mask : (byte k : ℕ) → k < 8 → bit_and byte ((1 * 2 ^ k) % 2 ^ 8) ≡ bit byte k * 2 ^ k
mask byte k h =
    rw (shl_exact {a = 1} 1 k 8 (lit< tt) (omega arith))
    (ap (bit_and byte) (omega (arith, pow-add 2 1 k)) ∙ and_high byte 1 k)

pub bit_lt : (byte k : ℕ) → bit byte k < 2
bit_lt byte k = mod-lt (byte / 2 ^ k) (lit< tt)

pub mask_clear : (g : List ℕ) (s : ℕ) → bit_and (get_or g (s / 8) 0) ((1 * 2 ^ (s % 8)) % 2 ^ 8) ≡ 0 → bit_set g s ≡ false
mask_clear g s e =
    ne_eqb _ _ (λ (one : bit (get_or g (s / 8) 0) (s % 8) ≡ 1).
    let m : bit (get_or g (s / 8) 0) (s % 8) * 2 ^ (s % 8) ≡ 0 = sym (mask (get_or g (s / 8) 0) (s % 8) (mod-lt s (lit< tt))) ∙ e in
    omega (arith, rw one at m, pow_pos (s % 8)))

pub mask_set : (g : List ℕ) (s : ℕ) → (bit_and (get_or g (s / 8) 0) ((1 * 2 ^ (s % 8)) % 2 ^ 8) ≡ 0 → ⊥) → bit_set g s ≡ true
mask_set g s n =
    let b = get_or g (s / 8) 0 in
    let k = s % 8 in
    let no : bit b k ≡ 0 → ⊥ = λ z. n (mask b k (mod-lt s (lit< tt)) ∙ ap (λ (x : ℕ). x * 2 ^ k) z ∙ zero-mul (2 ^ k)) in
    eq-eqb (bit b k) 1 (omega (arith, no, bit_lt b k))

pub bit_above : (b k : ℕ) → b < 2 ^ k → bit b k ≡ 0
bit_above b k h = ap (λ (x : ℕ). x % 2) (div-eq_of_lt h)

pub bit_top : (b j : ℕ) → 2 ^ j ≤ b → b < 2 ^ suc j → bit b j ≡ 1
bit_top b j lo hi =
    let e : b ≡ 1 * 2 ^ j + (b - 2 ^ j) = omega arith in
    ap (λ (x : ℕ). x / 2 ^ j % 2) e ∙ ap (λ (x : ℕ). x % 2) (high 1 j (omega (arith, pow-suc 2 j)))

-- bit k of byte i
pub bit_of : (g : List ℕ) (i k : ℕ) → k < 8 → bit_set g (8 * i + k) ≡ eqb (bit (get_or g i 0) k) 1
bit_of g i k h =
    let q : (8 * i + k) / 8 ≡ i = omega arith in
    let r : (8 * i + k) % 8 ≡ k = omega arith in
    rw (q, r)

pub bits_same : (n a b : ℕ) → a < 2 ^ n → b < 2 ^ n → ((k : ℕ) → k < n → bit a k ≡ bit b k) → a ≡ b
bits_same zero a b p q same = omega arith
bits_same (suc n) a b p q same =
    let low : a / 1 % 2 ≡ b / 1 % 2 = same 0 (omega arith) in
    let high : a / 2 ≡ b / 2 =
    bits_same n (a / 2) (b / 2) (omega (arith, pow-suc 2 n)) (omega (arith, pow-suc 2 n))
    (λ k h. ap (λ (x : ℕ). x % 2) (shr-shr a 1 k) ∙ same (1 + k) (omega arith) ∙ sym (ap (λ (x : ℕ). x % 2) (shr-shr b 1 k))) in
    omega arith

pub one_same : (x y : ℕ) → x < 2 → y < 2 → eqb x 1 ≡ eqb y 1 → x ≡ y
one_same x y p q e = go (eqb y 1) e refl
  where
    go : (t : Bool) → eqb x 1 ≡ t → eqb y 1 ≡ t → x ≡ y
    go true i j = omega (arith, eqb-true x 1 i, eqb-true y 1 j)
    go false i j = omega (arith, eqb-false x 1 i, eqb-false y 1 j)

-- a byte whose highest bit is bit k, shifted down to it, is 1
pub top_is_one : (b k : ℕ) → b < 256 → bit b k ≡ 1 → ((j : ℕ) → k < j → j < 8 → bit b j ≡ 0) → b / 2 ^ k ≡ 1
top_is_one b k h one none = bits_same 8 (b / 2 ^ k) 1 (omega (arith, div-le_self b (2 ^ k))) (omega arith) each
  where
    shifted : (j : ℕ) → bit (b / 2 ^ k) j ≡ bit b (k + j)
    shifted j = ap (λ (x : ℕ). x % 2) (shr-shr b k j)

    high : (j : ℕ) → 0 < j → bit b (k + j) ≡ 0
    high j p = go (dec_lt (k + j) 8)
      where
        go : Dec (k + j < 8) → bit b (k + j) ≡ 0
        go (yes l) = none (k + j) (omega arith) l
        go (no l) = bit_above b (k + j) (lt_of_lt_of_le h (pow_mono {i = 8} {j = k + j} (omega arith)))

    each : (j : ℕ) → j < 8 → bit (b / 2 ^ k) j ≡ bit 1 j
    each zero l = shifted zero ∙ ap (bit b) (add-zero k) ∙ one
    each (suc j) l = shifted (suc j) ∙ high (suc j) (omega arith) ∙ sym (bit_above 1 (suc j) (lt_of_lt_of_le (lit< tt) (pow_mono {i = 1} {j = suc j} (omega arith))))

-- and the other way round: bit k is set, and none above it
pub one_is_top : (b k : ℕ) → b / 2 ^ k ≡ 1 → bit b k ≡ 1
one_is_top b k e = ap (λ (x : ℕ). x % 2) e

pub one_has_none : (b k j : ℕ) → b / 2 ^ k ≡ 1 → k < j → bit b j ≡ 0
one_has_none b k j e h =
    let m : k + (j - k) ≡ j = omega arith in
    ap (bit b) (sym m) ∙ sym (ap (λ (x : ℕ). x % 2) (shr-shr b k (j - k))) ∙ ap (λ (x : ℕ). x / 2 ^ (j - k) % 2) e
    ∙ bit_above 1 (j - k) (lt_of_lt_of_le (lit< tt) (pow_mono {i = 1} {j = j - k} (omega arith)))
