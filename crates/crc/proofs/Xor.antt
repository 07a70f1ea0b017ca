-- The laws of exclusive or that the laws of the checksum rest on and the library lacks.
use mathlib.Core.Path.{◌≡◌, sym, ap, ap₂, ◌∙◌}
use Prim.Native.Nat.{ℕ, zero, suc, ◌*◌, ◌/◌, ◌%◌, ◌^◌, ◌<◌}
use native.Mathlib.Nat.{mod-lt, zero-lt-suc, le_of_suc-le-suc, not-suc-le-zero, add-zero}
use lib.Arith.{digits_mod}
use lib.Bits.{bit_xor, differ, xor_step, xor_assoc, xor_comm, xor_zero_l, xor_zero_r, xor_self, xor_block}
use lib.Pow.{pow_pos}
use native.Mathlib.Omega.{arith}

-- the library's exclusive or as a sign, for these proofs only
infixl 60 ◌⊕◌
abbrev pub ◌⊕◌ : ℕ → ℕ → ℕ
a ⊕ b = bit_xor a b

pub bit_lt : (n : ℕ) → n % 2 < 2
bit_lt n = mod-lt n (zero-lt-suc 1)

differ_lt : (x y : ℕ) → x < 2 → y < 2 → differ x y < 2
differ_lt zero y hx hy = hy
differ_lt (suc zero) zero hx hy = hx
differ_lt (suc zero) (suc y) hx hy = omega arith
differ_lt (suc (suc x)) y hx hy = absurd (not-suc-le-zero (le_of_suc-le-suc (le_of_suc-le-suc hx)))

pub ⊕_low : (a b : ℕ) → (a ⊕ b) % 2 ≡ differ (a % 2) (b % 2)
⊕_low a b =
    ap (λ (x : ℕ). x % 2) (xor_step a b)
    ∙ digits_mod (a / 2 ⊕ b / 2) (differ_lt (a % 2) (b % 2) (bit_lt a) (bit_lt b))

pub ⊕_left_comm : (a b c : ℕ) → a ⊕ (b ⊕ c) ≡ b ⊕ (a ⊕ c)
⊕_left_comm a b c = sym (xor_assoc a b c) ∙ ap (λ (x : ℕ). x ⊕ c) (xor_comm a b) ∙ xor_assoc b a c

pub ⊕_swap : (a b c d : ℕ) → (a ⊕ b) ⊕ (c ⊕ d) ≡ (a ⊕ c) ⊕ (b ⊕ d)
⊕_swap a b c d = xor_assoc a b (c ⊕ d) ∙ ap (λ (x : ℕ). a ⊕ x) (⊕_left_comm b c d) ∙ sym (xor_assoc a c (b ⊕ d))

-- what is xored in twice is gone
pub ⊕_cancel : (a b : ℕ) → a ⊕ (a ⊕ b) ≡ b
⊕_cancel a b = sym (xor_assoc a a b) ∙ ap (λ (x : ℕ). x ⊕ b) (xor_self a) ∙ xor_zero_l b

-- two numbers that differ in no bit are equal
pub ⊕_zero_eq : (a b : ℕ) → a ⊕ b ≡ 0 → a ≡ b
⊕_zero_eq a b e = sym (xor_zero_r a) ∙ ap (λ (x : ℕ). a ⊕ x) (sym e) ∙ ⊕_cancel a b

-- a shift to the left passes through too
pub ⊕_shl : (a b k : ℕ) → (a ⊕ b) * 2 ^ k ≡ (a * 2 ^ k) ⊕ (b * 2 ^ k)
⊕_shl a b k =
    sym (add-zero (bit_xor a b * 2 ^ k)) ∙ sym (xor_block k a b 0 0 (pow_pos k) (pow_pos k))
    ∙ ap₂ bit_xor (add-zero (a * 2 ^ k)) (add-zero (b * 2 ^ k))
