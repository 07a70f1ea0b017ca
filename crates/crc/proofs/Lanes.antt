-- Three lanes side by side. Every lane but the first starts from a register of 0, and what stood in the register before it goes through as
-- many zero bytes as it has: a linear map, which 32 words give.
use mathlib.Core.Path.{◌≡◌, refl, sym, ap, ap₂, ◌∙◌, subst}
use mathlib.Core.Bool.{Bool}
use mathlib.Core.List.{List, [], ◌∷◌, ◌++◌}
use Prim.Native.Nat.{ℕ, zero, suc, ◌+◌, ◌-◌, ◌*◌, ◌/◌, ◌%◌, ◌^◌, ◌≤◌, ◌<◌}
use native.Mathlib.Nat.{le_of_suc-le-suc, not-suc-le-zero, div-eq_of_lt, mul_assoc, mul_comm, zero-mul, one-mul}
use native.Mathlib.Omega.{arith}
use lib.Dec.{T}
use lib.ListN.{length, take, drop, get_or, replicate, get_or-append}
use lib.Pow.{pow-add, shr-shr, split}
use lib.Seq.{drop-drop, take_all, take-take, get_or-drop, get_or-append-add}
use Rattle.octets.specs.Bytes.{part}
use Rattle.octets.proofs.Join.{part_length, part_split}
use Rattle.octets.proofs.Parts.{chunk_at}
use Rattle.std.proofs.lemmas.List.{drop-take}
use Rattle.std.specs.Simd.{first_chunks}
use Rattle.crc.specs.Crc.{step_bit, step_bits, extend}
use Rattle.crc.specs.Inside.{lane, past_lane, IsLaneWords}
use lib.Bits.{xor_comm, xor_zero_l, xor_zero_r, xor_shifted, xor_assoc}
use Rattle.crc.proofs.Xor.{◌⊕◌, ⊕_shl, bit_lt}
use Rattle.crc.proofs.Linear.{step_bits_⊕, step_bits_zero, step_bits_shifted, eight_more, extend_append, extend_zeros, extend_⊕}
use Rattle.crc.proofs.Table.{follow, follows, count, quick, quick_is}

-- ---- the loop over the lanes

-- a lane so far, and its next eight bytes
pub lane_turn : {a s : ℕ} (r p i : ℕ) (bs ls : List ℕ) (parts : List (List ℕ)) (d : List ℕ) → ls ≡ part bs p lane → p + lane ≤ length bs → i < lane / 8
    → parts ≡ first_chunks 8 (length ls / 8) ls
    → a ≡ extend r (part bs p (8 * i)) → s ≡ extend a (get_or parts i d) → s ≡ extend r (part bs p (8 * (i + 1)))
lane_turn {a} {s} r p i bs ls parts d el h l ep ea es =
    let k : i < length ls / 8 = omega (arith, ap length el, part_length bs p lane h) in
    let m : 8 * (i + 1) ≡ 8 * i + 8 = omega arith in
    let o : i * 8 ≡ 8 * i = omega arith in
    let w : lane ≡ 8 * i + (lane - 8 * i) = omega arith in
    let within : take 8 (drop (8 * i) (part bs p lane)) ≡ part bs (p + 8 * i) 8 =
    ap (λ (n : ℕ). take 8 (drop (8 * i) (take n (drop p bs)))) w
    ∙ ap (take 8) (drop-take (8 * i) (lane - 8 * i) (drop p bs))
    ∙ take-take 8 (lane - 8 * i) (drop (8 * i) (drop p bs)) (omega arith)
    ∙ ap (take 8) (drop-drop (8 * i) p bs) in
    let here : get_or parts i d ≡ part bs (p + 8 * i) 8 =
    ap (λ (x : List (List ℕ)). get_or x i d) ep ∙ chunk_at 8 (length ls / 8) ls i d k ∙ ap₂ (λ (n : ℕ) (x : List ℕ). take 8 (drop n x)) o el ∙ within in
    es ∙ ap₂ extend ea here
    ∙ sym (extend_append r (part bs p (8 * i)) (part bs (p + 8 * i) 8))
    ∙ ap (extend r) (sym (part_split bs p (8 * i) 8)) ∙ ap (λ (n : ℕ). extend r (part bs p n)) (sym m)

-- a lane of which nothing is taken yet
pub lane_none : (r : ℕ) → r ≡ extend r []
unfolding extend
lane_none r = refl

-- ---- lanes joined

-- a lane behind what stands before it: that goes through as many zero bytes as the lane has, and the lane starts from 0
two_lanes : (r : ℕ) (xs ys : List ℕ) → length ys ≡ lane → extend r (xs ++ ys) ≡ past_lane (extend r xs) ⊕ extend 0 ys
unfolding past_lane
two_lanes r xs ys e =
    extend_append r xs ys
    ∙ ap (λ (x : ℕ). extend x ys) (sym (xor_zero_r (extend r xs)))
    ∙ extend_⊕ (extend r xs) 0 ys
    ∙ ap (λ (n : ℕ). step_bits (8 * n) (extend r xs) ⊕ extend 0 ys) e

-- the same of parts of a message: n bytes from p on, and the lane behind them
next_lane : {a b ab : ℕ} (r : ℕ) (bs : List ℕ) (p n : ℕ) → p + n + lane ≤ length bs
    → a ≡ extend r (part bs p n) → b ≡ extend 0 (part bs (p + n) lane) → ab ≡ past_lane a ⊕ b → ab ≡ extend r (part bs p (n + lane))
next_lane r bs p n h qa qb q =
    q ∙ ap₂ (λ (x y : ℕ). past_lane x ⊕ y) qa qb
    ∙ sym (two_lanes r (part bs p n) (part bs (p + n) lane) (part_length bs (p + n) lane h))
    ∙ ap (extend r) (sym (part_split bs p n lane))

-- the second lane, and then the third, behind what stands before them
pub three_lanes : {a b c ab abc : ℕ} (r i : ℕ) (bs : List ℕ) → i ≤ lane / 8 → lane / 8 ≤ i → length bs ≡ 3 * lane
    → a ≡ extend r (part bs 0 (8 * i)) → b ≡ extend 0 (part bs lane (8 * i)) → c ≡ extend 0 (part bs (2 * lane) (8 * i))
    → ab ≡ past_lane a ⊕ b → abc ≡ past_lane ab ⊕ c → abc ≡ extend r bs
three_lanes r i bs lo hi n pa pb pc pab pabc =
    let e : 8 * i ≡ lane = omega arith in
    next_lane r bs 0 (2 * lane) (omega arith)
    (next_lane r bs 0 lane (omega arith)
    (pa ∙ ap (λ (n : ℕ). extend r (part bs 0 n)) e)
    (pb ∙ ap (λ (n : ℕ). extend 0 (part bs lane n)) e) pab)
    (pc ∙ ap (λ (n : ℕ). extend 0 (part bs (2 * lane) n)) e) pabc
    ∙ ap (extend r) (take_all (3 * lane) bs (omega arith))

-- ---- the register past a lane, a bit at a time

past_zero : past_lane 0 ≡ 0
unfolding past_lane
past_zero = step_bits_zero (8 * lane)

-- a bit, times a word
bit_word : {w : ℕ} (x k : ℕ) → x < 2 → w ≡ past_lane (2 ^ k) → past_lane (x * 2 ^ k) ≡ x * w
bit_word {w} zero k h e = ap past_lane (zero-mul (2 ^ k)) ∙ past_zero ∙ sym (zero-mul w)
bit_word {w} (suc zero) k h e = ap past_lane (one-mul (2 ^ k)) ∙ sym e ∙ sym (one-mul w)
bit_word (suc (suc x)) k h e = absurd (not-suc-le-zero (le_of_suc-le-suc (le_of_suc-le-suc h)))

past_lane_⊕ : (a b : ℕ) → past_lane (a ⊕ b) ≡ past_lane a ⊕ past_lane b
unfolding past_lane
past_lane_⊕ a b = step_bits_⊕ (8 * lane) a b

-- the bits from k on are those from k + 1 on, and bit k
bits_from : (a k : ℕ) → a / 2 ^ k * 2 ^ k ≡ (a / 2 ^ (k + 1) * 2 ^ (k + 1)) ⊕ (a / 2 ^ k % 2 * 2 ^ k)
bits_from a k =
    let q = a / 2 ^ k in
    let e : q ≡ (q / 2 * 2) ⊕ (q % 2) = sym (xor_shifted (q / 2) 1 (q % 2) (bit_lt q) ∙ split q 1) in
    let p : q / 2 * 2 * 2 ^ k ≡ a / 2 ^ (k + 1) * 2 ^ (k + 1) =
    mul_assoc (q / 2) 2 (2 ^ k) ∙ ap₂ ◌*◌ (shr-shr a k 1) (mul_comm 2 (2 ^ k) ∙ sym (pow-add 2 k 1)) in
    ap (λ (x : ℕ). x * 2 ^ k) e ∙ ⊕_shl (q / 2 * 2) (q % 2) k ∙ ap (λ (x : ℕ). x ⊕ (q % 2 * 2 ^ k)) p

pub join_turn : {w s : ℕ} (a r : ℕ) (m : List ℕ) (k : ℕ) → IsLaneWords m → k < 32 → w ≡ past_lane (a / 2 ^ k * 2 ^ k) ⊕ r
    → s ≡ r ⊕ (a / 2 ^ k % 2 * get_or m k 0) → w ≡ past_lane (a / 2 ^ (k + 1) * 2 ^ (k + 1)) ⊕ s
unfolding IsLaneWords
join_turn {w} {s} a r m k hm hk p q =
    let x = a / 2 ^ (k + 1) * 2 ^ (k + 1) in
    let y = a / 2 ^ k % 2 * get_or m k 0 in
    p
    ∙ ap (λ (n : ℕ). n ⊕ r)
    (ap past_lane (bits_from a k) ∙ past_lane_⊕ x (a / 2 ^ k % 2 * 2 ^ k)
    ∙ ap (λ (n : ℕ). past_lane x ⊕ n) (bit_word (a / 2 ^ k % 2) k (bit_lt (a / 2 ^ k)) (hm k hk)))
    ∙ xor_assoc (past_lane x) y r
    ∙ ap (λ (n : ℕ). past_lane x ⊕ n) (xor_comm y r ∙ sym q)

pub join_start : (a b : ℕ) → past_lane a ⊕ b ≡ past_lane (a / 2 ^ 0 * 2 ^ 0) ⊕ b
join_start a b = ap (λ (x : ℕ). past_lane x ⊕ b) (omega arith)

pub join_done : {w r : ℕ} (a k : ℕ) → a < 2 ^ 32 → k ≤ 32 → 32 ≤ k → w ≡ past_lane (a / 2 ^ k * 2 ^ k) ⊕ r → r ≡ w
join_done {w} {r} a k h lo hi p =
    let e : k ≡ 32 = omega arith in
    sym
    (p ∙ ap (λ (n : ℕ). past_lane (a / 2 ^ n * 2 ^ n) ⊕ r) e
    ∙ ap (λ (n : ℕ). past_lane (n * 2 ^ 32) ⊕ r) (div-eq_of_lt h)
    ∙ ap (λ (n : ℕ). n ⊕ r) (ap past_lane (zero-mul (2 ^ 32)) ∙ past_zero)
    ∙ xor_zero_l r)

-- the zero bytes of a lane at once
pub lane_zeros : (r : ℕ) → past_lane r ≡ extend r (replicate lane 0)
unfolding past_lane
lane_zeros r = sym (extend_zeros r lane)

pub past_alone : {r : ℕ} (a : ℕ) → r ≡ past_lane a ⊕ 0 → r ≡ past_lane a
past_alone a p = p ∙ xor_zero_r (past_lane a)

pub bit_none : (r x w : ℕ) → x ≡ 0 → r ≡ r ⊕ (x * w)
bit_none r x w e = sym (ap (λ (n : ℕ). r ⊕ (n * w)) e ∙ ap (λ (n : ℕ). r ⊕ n) (zero-mul w) ∙ xor_zero_r r)

pub bit_one : (r x w : ℕ) → x ≡ 1 → r ⊕ w ≡ r ⊕ (x * w)
bit_one r x w e = sym (ap (λ (n : ℕ). r ⊕ (n * w)) e ∙ ap (λ (n : ℕ). r ⊕ n) (one-mul w))

-- ---- the words, by one test that antt computes: each is one bit step after the next, and the last after the register 2 ^ 32 past a lane

-- n zero bytes, by the list of the registers after one
abbrev pub past_zeros : List ℕ → ℕ → ℕ → ℕ
past_zeros first zero p = p
past_zeros first (suc n) p = past_zeros first n (quick first p)

-- each word is one bit step after the next
unfoldable pub words_right : List ℕ → Bool
words_right xs = let first = count (step_bits 8) 256 0 in follow step_bit (drop 1 (xs ++ (past_zeros first lane (2 ^ 32) ∷ []))) xs

past_zeros_is : (n p : ℕ) → past_zeros (count (step_bits 8) 256 0) n p ≡ step_bits (8 * n) p
unfolding step_bits
past_zeros_is zero p = refl
past_zeros_is (suc n) p =
    past_zeros_is n (quick (count (step_bits 8) 256 0) p)
    ∙ ap (step_bits (8 * n)) (quick_is p) ∙ eight_more n p

first_last : (n a : ℕ) → step_bit (step_bits n a) ≡ step_bits n (step_bit a)
unfolding step_bits
first_last zero a = refl
first_last (suc n) a = first_last n (step_bit a)

halve : (k : ℕ) → step_bit (2 ^ (k + 1)) ≡ 2 ^ k
unfolding step_bits
halve k = ap step_bit (pow-add 2 k 1) ∙ step_bits_shifted 1 (2 ^ k)

module _ (n w : ℕ) (xs : List ℕ) (e : length xs ≡ 32) (ew : w ≡ step_bits n (2 ^ 32))
    (f : (i : ℕ) → i < 32 → get_or xs i 0 ≡ step_bit (get_or (drop 1 (xs ++ (w ∷ []))) i 0)) where
  at : (j k : ℕ) → j + k ≡ 32 → get_or (xs ++ (w ∷ [])) k 0 ≡ step_bits n (2 ^ k)
  at zero k h =
      let p : k ≡ length xs + 0 = omega arith in
      let q : 32 ≡ k = omega arith in
      ap (λ (i : ℕ). get_or (xs ++ (w ∷ [])) i 0) p ∙ get_or-append-add xs (w ∷ []) 0 0 ∙ ew ∙ ap (λ (i : ℕ). step_bits n (2 ^ i)) q
  at (suc j) k h =
      let l : k < length xs = omega arith in
      let s : 1 + k ≡ k + 1 = omega arith in
      get_or-append xs (w ∷ []) 0 k l
      ∙ f k (omega arith)
      ∙ ap step_bit (get_or-drop 1 (xs ++ (w ∷ [])) k 0 ∙ ap (λ (i : ℕ). get_or (xs ++ (w ∷ [])) i 0) s ∙ at j (k + 1) (omega arith))
      ∙ first_last n (2 ^ (k + 1))
      ∙ ap (step_bits n) (halve k)

  words : (k : ℕ) → k < 32 → get_or xs k 0 ≡ step_bits n (2 ^ k)
  words k h =
      let l : k < length xs = omega arith in
      let s : (32 - k) + k ≡ 32 = omega arith in
      sym (get_or-append xs (w ∷ []) 0 k l) ∙ at (32 - k) k s

pub words_rule : (xs : List ℕ) → T (words_right xs) → length xs ≡ 32 → IsLaneWords xs
unfolding words_right IsLaneWords past_lane
words_rule xs t e k h =
    let first = count (step_bits 8) 256 0 in
    let w = past_zeros first lane (2 ^ 32) in
    words (8 * lane) w xs e (past_zeros_is lane (2 ^ 32))
    (λ (i : ℕ) (l : i < 32). follows step_bit (drop 1 (xs ++ (w ∷ []))) xs t i (subst (λ (m : ℕ). i < m) (sym e) l)) k h
