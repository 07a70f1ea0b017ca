-- What the checksum detects: the laws that follow from linearity.
use mathlib.Core.Path.{◌≡◌, refl, sym, ap, ap₂, ◌∙◌}
use mathlib.Core.List.{List, [], ◌∷◌}
use Prim.Native.Nat.{ℕ, zero, suc, ◌+◌, ◌-◌, ◌*◌, ◌/◌, ◌%◌, ◌^◌, ◌≤◌, ◌<◌}
use native.Mathlib.Nat.{suc_inj}
use native.Mathlib.Omega.{arith}
use lib.ListN.{length}
use Rattle.crc.specs.Crc.{ones, polynomial, step_bit, step_bits, step_byte, extend, crc32c}
use lib.Bits.{xor_comm, xor_zero_l, xor_self, xor_lt}
use Rattle.crc.proofs.Xor.{◌⊕◌, ⊕_swap, ⊕_shl, ⊕_cancel, ⊕_zero_eq}
use Rattle.crc.proofs.Linear.{number, step_bits_⊕, step_bits_add, step_bits_shifted, extend_number}

-- ---- a register of 32 bits is stepped back in one way

pub step_bit_lt : (x : ℕ) → x < 2 ^ 32 → step_bit x < 2 ^ 32
unfolding step_bit
step_bit_lt x h = xor_lt 32 (x / 2) (x % 2 * polynomial) (omega arith) (omega arith)

pub step_bits_lt : (n x : ℕ) → x < 2 ^ 32 → step_bits n x < 2 ^ 32
unfolding step_bits
step_bits_lt zero x h = h
step_bits_lt (suc n) x h = step_bits_lt n (step_bit x) (step_bit_lt x h)

-- the polynomial's top bit is 1, so only 0 is stepped to 0
step_bit_to_zero : (x : ℕ) → x < 2 ^ 32 → step_bit x ≡ 0 → x ≡ 0
unfolding step_bit
step_bit_to_zero x h e = omega (arith, ⊕_zero_eq (x / 2) (x % 2 * polynomial) e)

pub step_bits_to_zero : (n x : ℕ) → x < 2 ^ 32 → step_bits n x ≡ 0 → x ≡ 0
unfolding step_bits
step_bits_to_zero zero x h e = e
step_bits_to_zero (suc n) x h e = step_bit_to_zero x h (step_bits_to_zero n (step_bit x) (step_bit_lt x h) e)

pub step_bits_injective : (n a b : ℕ) → a < 2 ^ 32 → b < 2 ^ 32 → step_bits n a ≡ step_bits n b → a ≡ b
step_bits_injective n a b ha hb e =
    ⊕_zero_eq a b
    (step_bits_to_zero n (a ⊕ b) (xor_lt 32 a b ha hb)
    (step_bits_⊕ n a b ∙ ap (λ (x : ℕ). x ⊕ step_bits n b) e ∙ xor_self (step_bits n b)))

⊕_injective : (a b c : ℕ) → a ⊕ b ≡ a ⊕ c → b ≡ c
⊕_injective a b c e = sym (⊕_cancel a b) ∙ ap (λ (x : ℕ). a ⊕ x) e ∙ ⊕_cancel a c

-- in the byte, and in the register
pub step_byte_byte : (r b c : ℕ) → r < 2 ^ 32 → b < 2 ^ 8 → c < 2 ^ 8 → step_byte r b ≡ step_byte r c → b ≡ c
unfolding step_byte
step_byte_byte r b c hr hb hc e =
    ⊕_injective r b c (step_bits_injective 8 (r ⊕ b) (r ⊕ c) (xor_lt 32 r b hr (omega arith)) (xor_lt 32 r c hr (omega arith)) e)

pub step_byte_register : (r s b : ℕ) → r < 2 ^ 32 → s < 2 ^ 32 → b < 2 ^ 8 → step_byte r b ≡ step_byte s b → r ≡ s
unfolding step_byte
step_byte_register r s b hr hs hb e =
    ⊕_injective b r s
    (xor_comm b r ∙ step_bits_injective 8 (r ⊕ b) (s ⊕ b) (xor_lt 32 r b hr (omega arith)) (xor_lt 32 s b hs (omega arith)) e ∙ xor_comm s b)

-- ---- messages of one length

-- two messages, byte by byte, as long as the shorter
unfoldable pub xors : List ℕ → List ℕ → List ℕ
xors [] ys = []
xors (x ∷ xs) [] = []
xors (x ∷ xs) (y ∷ ys) = (x ⊕ y) ∷ xors xs ys

pub length_xors : (xs ys : List ℕ) → length xs ≡ length ys → length (xors xs ys) ≡ length xs
unfolding xors
length_xors [] ys e = refl
length_xors (x ∷ xs) [] e = sym e
length_xors (x ∷ xs) (y ∷ ys) e = ap suc (length_xors xs ys (suc_inj e))

pub number_xors : (xs ys : List ℕ) → length xs ≡ length ys → number (xors xs ys) ≡ number xs ⊕ number ys
unfolding number xors
number_xors [] [] e = sym (xor_zero_l 0)
number_xors [] (y ∷ ys) e = absurd (omega arith)
number_xors (x ∷ xs) [] e = absurd (omega arith)
number_xors (x ∷ xs) (y ∷ ys) e =
    ap (λ (n : ℕ). (x ⊕ y) ⊕ n * 2 ^ 8) (number_xors xs ys (suc_inj e))
    ∙ ap (λ (n : ℕ). (x ⊕ y) ⊕ n) (⊕_shl (number xs) (number ys) 8)
    ∙ ⊕_swap x y (number xs * 2 ^ 8) (number ys * 2 ^ 8)

-- the register of two messages xored is that of each, xored
pub extend_xors : (r s : ℕ) (xs ys : List ℕ) → length xs ≡ length ys → extend (r ⊕ s) (xors xs ys) ≡ extend r xs ⊕ extend s ys
extend_xors r s xs ys e =
    extend_number (r ⊕ s) (xors xs ys)
    ∙ ap₂ (λ (n x : ℕ). step_bits (8 * n) ((r ⊕ s) ⊕ x)) (length_xors xs ys e) (number_xors xs ys e)
    ∙ ap (step_bits (8 * length xs)) (⊕_swap r s (number xs) (number ys))
    ∙ step_bits_⊕ (8 * length xs) (r ⊕ number xs) (s ⊕ number ys)
    ∙ ap₂ ◌⊕◌ (sym (extend_number r xs)) (ap (λ (n : ℕ). step_bits (8 * n) (s ⊕ number ys)) e ∙ sym (extend_number s ys))

-- the checksum of three messages of one length xored is that of each, xored
pub crc32c_xors : (xs ys zs : List ℕ) → length xs ≡ length ys → length ys ≡ length zs
    → crc32c (xors xs (xors ys zs)) ≡ crc32c xs ⊕ (crc32c ys ⊕ crc32c zs)
unfolding crc32c
crc32c_xors xs ys zs e f =
    let three : ones ≡ ones ⊕ (ones ⊕ ones) = sym (⊕_cancel ones ones) in
    ap₂ (λ (r s : ℕ). extend r (xors xs (xors ys zs)) ⊕ s) three three
    ∙ ap (λ (x : ℕ). x ⊕ (ones ⊕ (ones ⊕ ones)))
    (extend_xors ones (ones ⊕ ones) xs (xors ys zs) (e ∙ sym (length_xors ys zs f))
    ∙ ap (λ (x : ℕ). extend ones xs ⊕ x) (extend_xors ones ones ys zs f))
    ∙ ⊕_swap (extend ones xs) (extend ones ys ⊕ extend ones zs) ones (ones ⊕ ones)
    ∙ ap (λ (x : ℕ). (extend ones xs ⊕ ones) ⊕ x) (⊕_swap (extend ones ys) (extend ones zs) ones ones)

-- what two messages of one length differ in goes through by itself, whatever the register
pub difference : (r : ℕ) (xs ys : List ℕ) → length xs ≡ length ys
    → step_bits (8 * length xs) (number xs ⊕ number ys) ≡ extend r xs ⊕ extend r ys
difference r xs ys e =
    ap (step_bits (8 * length xs))
    (sym (xor_zero_l (number xs ⊕ number ys)) ∙ ap (λ (x : ℕ). x ⊕ (number xs ⊕ number ys)) (sym (xor_self r))
    ∙ ⊕_swap r r (number xs) (number ys))
    ∙ step_bits_⊕ (8 * length xs) (r ⊕ number xs) (r ⊕ number ys)
    ∙ ap₂ ◌⊕◌ (sym (extend_number r xs)) (ap (λ (n : ℕ). step_bits (8 * n) (r ⊕ number ys)) e ∙ sym (extend_number r ys))

-- two messages of one length that differ within 32 bits in a row, from bit j of the message on, have different checksums
pub burst : (xs ys : List ℕ) (e j : ℕ) → length xs ≡ length ys → number xs ⊕ number ys ≡ e * 2 ^ j → j ≤ 8 * length xs
    → 0 < e → e < 2 ^ 32 → crc32c xs ≡ crc32c ys → ⊥
unfolding crc32c
burst xs ys e j same differs hj pos small equal =
    let n = 8 * length xs in
    let m : n ≡ j + (n - j) = omega arith in
    let regs : extend ones xs ≡ extend ones ys =
    ⊕_injective ones (extend ones xs) (extend ones ys) (xor_comm ones (extend ones xs) ∙ equal ∙ xor_comm (extend ones ys) ones) in
    let none : step_bits n (number xs ⊕ number ys) ≡ 0 =
    difference ones xs ys same ∙ ap (λ (x : ℕ). x ⊕ extend ones ys) regs ∙ xor_self (extend ones ys) in
    let gone : e ≡ 0 =
    step_bits_to_zero (n - j) e small
    (ap (step_bits (n - j)) (sym (step_bits_shifted j e)) ∙ sym (step_bits_add j (n - j) (e * 2 ^ j))
    ∙ sym (ap₂ step_bits m differs) ∙ none) in
    omega arith
