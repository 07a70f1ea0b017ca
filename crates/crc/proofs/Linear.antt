-- The register is linear: over exclusive or of registers, and of messages of one length, each step gives the exclusive or of what it gives of each.
use mathlib.Core.Path.{◌≡◌, refl, sym, ap, ap₂, ◌∙◌}
use mathlib.Core.List.{List, [], ◌∷◌, ◌++◌}
use Prim.Native.Nat.{ℕ, zero, suc, ◌+◌, ◌*◌, ◌/◌, ◌%◌, ◌^◌, ◌<◌}
use native.Mathlib.Nat.{mod-lt, le_of_suc-le-suc, not-suc-le-zero, mul-one, zero-add, suc-add}
use native.Mathlib.Omega.{arith}
use lib.ListN.{length, replicate, length-replicate}
use lib.Bits.{differ, shifted_half, shifted_even, xor_comm, xor_zero_l, xor_zero_r, xor_self, xor_shr, xor_shifted, xor_assoc}
use lib.Pow.{split, pow_pos}
use Rattle.crc.specs.Crc.{polynomial, step_bit, step_bits, step_byte, extend}
use Rattle.crc.proofs.Xor.{◌⊕◌, ⊕_swap, ⊕_low, bit_lt}

-- a bit, times the polynomial
bit_poly : (x y : ℕ) → x < 2 → y < 2 → differ x y * polynomial ≡ (x * polynomial) ⊕ (y * polynomial)
bit_poly zero y hx hy = sym (xor_zero_l (y * polynomial))
bit_poly (suc zero) zero hx hy = sym (xor_zero_r polynomial)
bit_poly (suc zero) (suc zero) hx hy = sym (xor_self polynomial)
bit_poly (suc zero) (suc (suc y)) hx hy = absurd (not-suc-le-zero (le_of_suc-le-suc (le_of_suc-le-suc hy)))
bit_poly (suc (suc x)) y hx hy = absurd (not-suc-le-zero (le_of_suc-le-suc (le_of_suc-le-suc hx)))

pub step_bit_⊕ : (a b : ℕ) → step_bit (a ⊕ b) ≡ step_bit a ⊕ step_bit b
unfolding step_bit
step_bit_⊕ a b =
    ap₂ (λ (x y : ℕ). x ⊕ y * polynomial) (xor_shr a b 1) (⊕_low a b)
    ∙ ap (λ (x : ℕ). (a / 2 ⊕ b / 2) ⊕ x) (bit_poly (a % 2) (b % 2) (bit_lt a) (bit_lt b))
    ∙ ⊕_swap (a / 2) (b / 2) (a % 2 * polynomial) (b % 2 * polynomial)

pub step_bits_⊕ : (n a b : ℕ) → step_bits n (a ⊕ b) ≡ step_bits n a ⊕ step_bits n b
unfolding step_bits
step_bits_⊕ zero a b = refl
step_bits_⊕ (suc n) a b = ap (step_bits n) (step_bit_⊕ a b) ∙ step_bits_⊕ n (step_bit a) (step_bit b)

pub step_bits_zero : (n : ℕ) → step_bits n 0 ≡ 0
unfolding step_bits step_bit
step_bits_zero zero = refl
step_bits_zero (suc n) = step_bits_zero n

pub step_bits_add : (n m a : ℕ) → step_bits (n + m) a ≡ step_bits m (step_bits n a)
unfolding step_bits
step_bits_add zero m a = ap (λ (k : ℕ). step_bits k a) (zero-add m)
step_bits_add (suc n) m a = ap (λ (k : ℕ). step_bits k a) (suc-add n m) ∙ step_bits_add n m (step_bit a)

-- k steps shift a number with k zeros below it down by k
pub step_bits_shifted : (k q : ℕ) → step_bits k (q * 2 ^ k) ≡ q
unfolding step_bits step_bit
step_bits_shifted zero q = mul-one q
step_bits_shifted (suc k) q =
    ap (step_bits k)
    (ap₂ (λ (x y : ℕ). x ⊕ y * polynomial) (shifted_half q k) (shifted_even q k) ∙ xor_zero_r (q * 2 ^ k))
    ∙ step_bits_shifted k q

-- k steps look at the k low bits alone, and shift the rest
pub step_bits_low : (k x : ℕ) → step_bits k x ≡ (x / 2 ^ k) ⊕ step_bits k (x % 2 ^ k)
step_bits_low k x =
    ap (step_bits k) (sym (split x k) ∙ sym (xor_shifted (x / 2 ^ k) k (x % 2 ^ k) (mod-lt x (pow_pos k))))
    ∙ step_bits_⊕ k (x / 2 ^ k * 2 ^ k) (x % 2 ^ k)
    ∙ ap (λ (y : ℕ). y ⊕ step_bits k (x % 2 ^ k)) (step_bits_shifted k (x / 2 ^ k))

-- what goes in after k steps may go in before them, k places higher
pub step_bits_late : (k r x : ℕ) → step_bits k r ⊕ x ≡ step_bits k (r ⊕ x * 2 ^ k)
step_bits_late k r x = ap (λ (y : ℕ). step_bits k r ⊕ y) (sym (step_bits_shifted k x)) ∙ sym (step_bits_⊕ k r (x * 2 ^ k))

-- ---- bytes

-- a message as one number, the first byte lowest
unfoldable pub number : List ℕ → ℕ
number [] = 0
number (b ∷ bs) = b ⊕ number bs * 2 ^ 8

pub eight_more : (n x : ℕ) → step_bits (8 * n) (step_bits 8 x) ≡ step_bits (8 * suc n) x
eight_more n x = sym (step_bits_add 8 (8 * n) x) ∙ ap (λ (k : ℕ). step_bits k x) (omega arith)

-- the register after a message is that after as many zero bytes, from the register with the message's number xored in
pub extend_number : (r : ℕ) (bs : List ℕ) → extend r bs ≡ step_bits (8 * length bs) (r ⊕ number bs)
unfolding extend number step_byte step_bits
extend_number r [] = sym (xor_zero_r r)
extend_number r (b ∷ bs) =
    extend_number (step_bits 8 (r ⊕ b)) bs
    ∙ ap (step_bits (8 * length bs)) (step_bits_late 8 (r ⊕ b) (number bs))
    ∙ eight_more (length bs) (r ⊕ b ⊕ number bs * 2 ^ 8)
    ∙ ap (step_bits (8 * suc (length bs))) (xor_assoc r b (number bs * 2 ^ 8))

-- a register xored in goes through the message by itself
pub extend_⊕ : (r s : ℕ) (bs : List ℕ) → extend (r ⊕ s) bs ≡ step_bits (8 * length bs) r ⊕ extend s bs
extend_⊕ r s bs =
    extend_number (r ⊕ s) bs
    ∙ ap (step_bits (8 * length bs)) (xor_assoc r s (number bs))
    ∙ step_bits_⊕ (8 * length bs) r (s ⊕ number bs)
    ∙ ap (λ (x : ℕ). step_bits (8 * length bs) r ⊕ x) (sym (extend_number s bs))

-- each byte goes through the rest of the message by itself
pub extend_byte : (x : ℕ) (xs : List ℕ) → extend 0 (x ∷ xs) ≡ extend 0 xs ⊕ step_bits (8 * suc (length xs)) x
unfolding extend step_byte
extend_byte x xs =
    ap (λ (y : ℕ). extend y xs) (ap (step_bits 8) (xor_zero_l x) ∙ sym (xor_zero_r (step_bits 8 x)))
    ∙ extend_⊕ (step_bits 8 x) 0 xs
    ∙ ap (λ (y : ℕ). y ⊕ extend 0 xs) (eight_more (length xs) x)
    ∙ xor_comm (step_bits (8 * suc (length xs)) x) (extend 0 xs)

pub extend_append : (r : ℕ) (xs ys : List ℕ) → extend r (xs ++ ys) ≡ extend (extend r xs) ys
unfolding extend
extend_append r [] ys = refl
extend_append r (x ∷ xs) ys = extend_append (step_byte r x) xs ys

pub number_zeros : (n : ℕ) → number (replicate n 0) ≡ 0
unfolding number
number_zeros zero = refl
number_zeros (suc n) = xor_zero_l (number (replicate n 0) * 2 ^ 8) ∙ ap (λ (x : ℕ). x * 2 ^ 8) (number_zeros n)

pub extend_zeros : (r n : ℕ) → extend r (replicate n 0) ≡ step_bits (8 * n) r
extend_zeros r n =
    extend_number r (replicate n 0)
    ∙ ap₂ (λ (k x : ℕ). step_bits (8 * k) (r ⊕ x)) (length-replicate n 0) (number_zeros n)
    ∙ ap (step_bits (8 * n)) (xor_zero_r r)

-- an entry of the tables: a byte, and then k zero bytes
pub extend_entry : (k b : ℕ) → extend 0 (b ∷ replicate k 0) ≡ step_bits (8 * (k + 1)) b
unfolding extend step_byte
extend_entry k b =
    ap (λ (x : ℕ). extend (step_bits 8 x) (replicate k 0)) (xor_zero_l b) ∙ extend_zeros (step_bits 8 b) k ∙ eight_more k b
    ∙ ap (λ (n : ℕ). step_bits (8 * n) b) (omega arith)
