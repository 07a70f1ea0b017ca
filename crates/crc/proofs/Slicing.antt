-- What the code computes from tables is what the definition says: one byte a step, and eight bytes a step.
use mathlib.Core.Path.{◌≡◌, refl, sym, ap, ap₂, ◌∙◌}
use mathlib.Core.List.{List, [], ◌∷◌}
use Prim.Native.Nat.{ℕ, ◌+◌, ◌*◌, ◌/◌, ◌%◌, ◌^◌, ◌<◌}
use native.Mathlib.Nat.{mod-lt, mod-eq_of_lt, div-eq_of_lt}
use native.Mathlib.Omega.{arith}
use lib.ListN.{length, get_or, drop_of_length-le}
use lib.Pow.{pow_pos, shr-shr, shr_mod, split}
use lib.Seq.{drop-cons}
use Rattle.std.specs.Int.{w32, from_le_bytes}
use Rattle.crc.specs.Crc.{step_bits, step_byte, extend}
use lib.Bits.{xor_comm, xor_zero_l, xor_zero_r, xor_lt, xor_shr, xor_shifted}
use Rattle.crc.proofs.Xor.{◌⊕◌}
use Rattle.crc.proofs.Linear.{number, step_bits_low, extend_number, extend_byte}

-- one byte: the high bits are shifted, and the low ones are looked up
pub byte_step : {e : ℕ} (r b : ℕ) → b < 256 → e ≡ step_bits 8 ((r ⊕ b) % 2 ^ 8) → (r / 2 ^ 8) ⊕ e ≡ step_byte r b
unfolding step_byte
byte_step {e} r b h p =
    ap₂ ◌⊕◌ (sym (xor_zero_r (r / 2 ^ 8)) ∙ ap (λ (x : ℕ). (r / 2 ^ 8) ⊕ x) (sym (div-eq_of_lt h)) ∙ sym (xor_shr r b 8)) p
    ∙ sym (step_bits_low 8 (r ⊕ b))

-- ---- four bytes as a number

beside : (b q : ℕ) → b < 256 → b ⊕ q * 2 ^ 8 ≡ q * 256 + b
beside b q h = xor_comm b (q * 2 ^ 8) ∙ xor_shifted q 8 b h

number_four : (b0 b1 b2 b3 : ℕ) → b0 < 256 → b1 < 256 → b2 < 256 → b3 < 256
    → number (b0 ∷ b1 ∷ b2 ∷ b3 ∷ []) ≡ ((b3 * 256 + b2) * 256 + b1) * 256 + b0
unfolding number
number_four b0 b1 b2 b3 h0 h1 h2 h3 =
    ap (λ (x : ℕ). b0 ⊕ (b1 ⊕ (b2 ⊕ x * 2 ^ 8) * 2 ^ 8) * 2 ^ 8) (xor_zero_r b3)
    ∙ ap (λ (x : ℕ). b0 ⊕ (b1 ⊕ x * 2 ^ 8) * 2 ^ 8) (beside b2 b3 h2)
    ∙ ap (λ (x : ℕ). b0 ⊕ x * 2 ^ 8) (beside b1 (b3 * 256 + b2) h1)
    ∙ beside b0 ((b3 * 256 + b2) * 256 + b1) h0

-- as the library joins them
joined : (b0 b1 b2 b3 : ℕ) → b0 < 256 → b1 < 256 → b2 < 256 → b3 < 256 → from_le_bytes w32 (b0 ∷ b1 ∷ b2 ∷ b3 ∷ []) ≡ number (b0 ∷ b1 ∷ b2 ∷ b3 ∷ [])
joined b0 b1 b2 b3 h0 h1 h2 h3 =
    let e : from_le_bytes w32 (b0 ∷ b1 ∷ b2 ∷ b3 ∷ []) ≡ ((b3 * 256 + b2) * 256 + b1) * 256 + b0 = omega arith in
    e ∙ sym (number_four b0 b1 b2 b3 h0 h1 h2 h3)

compose : (x a b c l0 l1 l2 l3 : ℕ) → a * 256 + l0 ≡ x → b * 256 + l1 ≡ a → c * 256 + l2 ≡ b → l3 ≡ c
    → ((l3 * 256 + l2) * 256 + l1) * 256 + l0 ≡ x
compose x a b c l0 l1 l2 l3 e0 e1 e2 e3 = omega arith

-- a register by its four bytes
bytes_of : (x : ℕ) → x < 2 ^ 32 → number (x % 2 ^ 8 ∷ x / 2 ^ 8 % 2 ^ 8 ∷ x / 2 ^ 16 % 2 ^ 8 ∷ x / 2 ^ 24 % 2 ^ 8 ∷ []) ≡ x
bytes_of x h =
    number_four (x % 2 ^ 8) (x / 2 ^ 8 % 2 ^ 8) (x / 2 ^ 16 % 2 ^ 8) (x / 2 ^ 24 % 2 ^ 8)
    (mod-lt x (pow_pos 8)) (mod-lt (x / 2 ^ 8) (pow_pos 8)) (mod-lt (x / 2 ^ 16) (pow_pos 8)) (mod-lt (x / 2 ^ 24) (pow_pos 8))
    ∙ compose x (x / 2 ^ 8) (x / 2 ^ 16) (x / 2 ^ 24) (x % 2 ^ 8) (x / 2 ^ 8 % 2 ^ 8) (x / 2 ^ 16 % 2 ^ 8) (x / 2 ^ 24 % 2 ^ 8)
    (split x 8) (rw (shr-shr x 8 8) at (split (x / 2 ^ 8) 8)) (rw (shr-shr x 16 8) at (split (x / 2 ^ 16) 8)) (shr_mod 8 24 h)

-- ---- eight bytes

extend_nil : extend 0 [] ≡ 0
unfolding extend
extend_nil = refl

-- from a register of 0, each of eight bytes goes through what follows it by itself
eight : (a b c d e f g h : ℕ)
    → step_bits 8 h ⊕ step_bits 16 g ⊕ step_bits 24 f ⊕ step_bits 32 e ⊕ step_bits 40 d ⊕ step_bits 48 c ⊕ step_bits 56 b ⊕ step_bits 64 a
    ≡ extend 0 (a ∷ b ∷ c ∷ d ∷ e ∷ f ∷ g ∷ h ∷ [])
eight a b c d e f g h = simp (extend_byte, extend_nil, xor_zero_l)

-- four bytes go into the register before any step
four : (r b0 b1 b2 b3 : ℕ) (ys : List ℕ) → r ⊕ number (b0 ∷ b1 ∷ b2 ∷ b3 ∷ []) < 2 ^ 32
    → let x = r ⊕ number (b0 ∷ b1 ∷ b2 ∷ b3 ∷ []) in
    extend 0 (x % 2 ^ 8 ∷ x / 2 ^ 8 % 2 ^ 8 ∷ x / 2 ^ 16 % 2 ^ 8 ∷ x / 2 ^ 24 % 2 ^ 8 ∷ ys) ≡ extend r (b0 ∷ b1 ∷ b2 ∷ b3 ∷ ys)
unfolding extend
four r b0 b1 b2 b3 ys h =
    let x = r ⊕ number (b0 ∷ b1 ∷ b2 ∷ b3 ∷ []) in
    ap (λ (y : ℕ). extend y ys)
    (extend_number 0 (x % 2 ^ 8 ∷ x / 2 ^ 8 % 2 ^ 8 ∷ x / 2 ^ 16 % 2 ^ 8 ∷ x / 2 ^ 24 % 2 ^ 8 ∷ [])
    ∙ ap (step_bits 32) (xor_zero_l (number (x % 2 ^ 8 ∷ x / 2 ^ 8 % 2 ^ 8 ∷ x / 2 ^ 16 % 2 ^ 8 ∷ x / 2 ^ 24 % 2 ^ 8 ∷ [])) ∙ bytes_of x h)
    ∙ sym (extend_number r (b0 ∷ b1 ∷ b2 ∷ b3 ∷ [])))

-- eight bytes by their places
eight_list : (bs : List ℕ) → length bs ≡ 8
    → bs ≡ get_or bs 0 0 ∷ get_or bs 1 0 ∷ get_or bs 2 0 ∷ get_or bs 3 0 ∷ get_or bs 4 0 ∷ get_or bs 5 0 ∷ get_or bs 6 0 ∷ get_or bs 7 0 ∷ []
eight_list bs n =
    let e0 = drop-cons bs 0 0 (omega arith) in
    let e1 = drop-cons bs 1 0 (omega arith) in
    let e2 = drop-cons bs 2 0 (omega arith) in
    let e3 = drop-cons bs 3 0 (omega arith) in
    let e4 = drop-cons bs 4 0 (omega arith) in
    let e5 = drop-cons bs 5 0 (omega arith) in
    let e6 = drop-cons bs 6 0 (omega arith) in
    let e7 = drop-cons bs 7 0 (omega arith) in
    let e8 = drop_of_length-le bs {i = 8} (omega arith) in
    cc

-- eight look-ups, the last byte's first
module _ (r : ℕ) (bs : List ℕ) (n : length bs ≡ 8) (hr : r < 2 ^ 32) (hb : (i : ℕ) → get_or bs i 0 < 256) where
  -- the byte at a place
  abbrev at : ℕ → ℕ
  at i = get_or bs i 0

  pub eight_step : {w e7 e6 e5 e4 e3 e2 e1 e0 : ℕ}
      → w ≡ from_le_bytes w32 (at 0 ∷ at 1 ∷ at 2 ∷ at 3 ∷ []) → w < 2 ^ 32
      → e0 ≡ step_bits 8 (at 7 % 2 ^ 8) → e1 ≡ step_bits 16 (at 6 % 2 ^ 8) → e2 ≡ step_bits 24 (at 5 % 2 ^ 8) → e3 ≡ step_bits 32 (at 4 % 2 ^ 8)
      → e4 ≡ step_bits 40 ((r ⊕ w) / 2 ^ 24 % 2 ^ 8) → e5 ≡ step_bits 48 ((r ⊕ w) / 2 ^ 16 % 2 ^ 8)
      → e6 ≡ step_bits 56 ((r ⊕ w) / 2 ^ 8 % 2 ^ 8) → e7 ≡ step_bits 64 ((r ⊕ w) % 2 ^ 8)
      → e0 ⊕ e1 ⊕ e2 ⊕ e3 ⊕ e4 ⊕ e5 ⊕ e6 ⊕ e7 ≡ extend r bs
  eight_step {w} p hw p0 p1 p2 p3 p4 p5 p6 p7 =
      let x = r ⊕ w in
      let ew : w ≡ number (at 0 ∷ at 1 ∷ at 2 ∷ at 3 ∷ []) = p ∙ joined (at 0) (at 1) (at 2) (at 3) (hb 0) (hb 1) (hb 2) (hb 3) in
      let q3 = p3 ∙ ap (step_bits 32) (mod-eq_of_lt (hb 4)) in
      let q2 = p2 ∙ ap (step_bits 24) (mod-eq_of_lt (hb 5)) in
      let q1 = p1 ∙ ap (step_bits 16) (mod-eq_of_lt (hb 6)) in
      let q0 = p0 ∙ ap (step_bits 8) (mod-eq_of_lt (hb 7)) in
      cc (
        eight_list bs n,
        eight (x % 2 ^ 8) (x / 2 ^ 8 % 2 ^ 8) (x / 2 ^ 16 % 2 ^ 8) (x / 2 ^ 24 % 2 ^ 8) (at 4) (at 5) (at 6) (at 7),
        four r (at 0) (at 1) (at 2) (at 3) (at 4 ∷ at 5 ∷ at 6 ∷ at 7 ∷ []) (rw ew at (xor_lt 32 r w hr hw)),
      )
