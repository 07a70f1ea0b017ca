-- Strings whose first bytes are as many: their order is that of the big-endian numbers, or of what follows where those are the same.
use mathlib.Core.Path.{◌≡◌, refl, sym, ◌∙◌, ap, ap₂}
use mathlib.Core.Bool.{false}
use mathlib.Core.List.{List, [], ◌∷◌, ◌++◌}
use Prim.Native.Nat.{ℕ, suc, ◌+◌, ◌*◌, ◌^◌, ◌≤◌, ◌<◌, min}
use native.Mathlib.Nat.{suc_inj, suc-mul, pow-succ', mul-le-mul_right}
use native.Mathlib.Decide.{dec_lt}
use native.Mathlib.Omega.{arith}
use lib.Dec.{lit<, ltb}
use borrow.Author.Tests.{lt-ltb, le-ltb}
use lib.ListN.{length, take, drop, take-append-drop}
use lib.Seq.{drop-drop, take-take}
use Rattle.octets.specs.Bytes.{Bytes, byte_at, part}
use Rattle.octets.specs.Number.{big}
use Rattle.octets.specs.Order.{order, is_greater}
use Rattle.octets.specs.Inside.{Decides}
use Rattle.std.specs.declared.cmp.Ordering.TheVariants.{Less, Greater}
use mir.Syntax.{w64}
use Rattle.std.specs.Int.{from_be_bytes}
use Rattle.octets.proofs.Arrays.{be_number}
use Rattle.octets.proofs.Digits.{bytes_part}
use Rattle.octets.proofs.Join.{part_length}
use Rattle.octets.proofs.Parts.{grow}
use Rattle.octets.proofs.OrderLaws.{less_end, equal_end, greater_end, less_by, less_on, order_flip, order_behind}

bytes_tail : {x : ℕ} {l : List ℕ} → Bytes (x ∷ l) → Bytes l
bytes_tail h = record { below = λ i. h.below (suc i) }

big_below : (l : List ℕ) → Bytes l → big l < 256 ^ length l
big_below [] h = lit< tt
big_below (x ∷ l) h =
    let a : suc x ≤ 256 = h.below 0 in
    rw pow-succ' (omega (arith, mul-le-mul_right (256 ^ length l) a, suc-mul x (256 ^ length l), big_below l (bytes_tail h)))

-- of two numbers made of a digit and a rest, the one with the smaller digit is smaller
digit : (x y p a b : ℕ) → a < p → x < y → x * p + a < y * p + b
digit x y p a b l m = omega (arith, mul-le-mul_right {m = suc x} {n = y} p m, suc-mul x p)

digit_le : (x y p a b : ℕ) → b < p → x * p + a ≤ y * p + b → x ≤ y
digit_le x y p a b l m = go (dec_lt y x)
  where
    go : Dec (y < x) → x ≤ y
    go (yes h) = omega (arith, digit y x p b a l h)
    go (no h) = omega arith

digits_same : (x y p a b : ℕ) → x ≡ y → x * p + a < y * p + b → a < b
digits_same x y p a b e m = let f : x * p ≡ y * p = ap (λ (z : ℕ). z * p) e in omega arith

module _ (r t : List ℕ) where
  pub less_big : (xs ys : List ℕ) → length xs ≡ length ys → Bytes xs → Bytes ys → big xs < big ys → order (xs ++ r) (ys ++ t) ≡ Less
  less_big [] [] n p q l = absurd (omega arith)
  less_big [] (y ∷ ys) n p q l = absurd (omega arith)
  less_big (x ∷ xs) [] n p q l = absurd (omega arith)
  less_big (x ∷ xs) (y ∷ ys) n p q l = go (dec_lt x y) (less_big xs ys (suc_inj n) (bytes_tail p) (bytes_tail q))
    where
      w : 256 ^ length xs ≡ 256 ^ length ys
      w = ap (λ (k : ℕ). 256 ^ k) (suc_inj n)

      m : x * 256 ^ length xs + big xs < y * 256 ^ length xs + big ys
      m = rw (sym w) at l

      le : x ≤ y
      le = digit_le x y (256 ^ length xs) (big xs) (big ys) (rw w (big_below ys (bytes_tail q))) (omega (arith, m))

      go : Dec (x < y) → (big xs < big ys → order (xs ++ r) (ys ++ t) ≡ Less) → order ((x ∷ xs) ++ r) ((y ∷ ys) ++ t) ≡ Less
      go (yes h) ih = less_by x y (xs ++ r) (ys ++ t) h
      go (no h) ih =
          let e : x ≡ y = omega (arith, le) in
          less_on x y (xs ++ r) (ys ++ t) e (ih (digits_same x y (256 ^ length xs) (big xs) (big ys) e m))

pub big_same : (xs ys : List ℕ) → length xs ≡ length ys → Bytes xs → Bytes ys → big xs ≡ big ys → xs ≡ ys
big_same [] [] n p q e = refl
big_same [] (y ∷ ys) n p q e = let z : ◌≡◌ {A = ℕ} 0 1 = omega arith in cc
big_same (x ∷ xs) [] n p q e = let z : ◌≡◌ {A = ℕ} 0 1 = omega arith in cc
big_same (x ∷ xs) (y ∷ ys) n p q e = ap₂ ◌∷◌ same (big_same xs ys (suc_inj n) (bytes_tail p) (bytes_tail q) rest)
  where
    w : 256 ^ length xs ≡ 256 ^ length ys
    w = ap (λ (k : ℕ). 256 ^ k) (suc_inj n)

    m : x * 256 ^ length xs + big xs ≡ y * 256 ^ length xs + big ys
    m = rw (sym w) at e

    same : x ≡ y
    same =
        omega (
          arith,
          digit_le x y (256 ^ length xs) (big xs) (big ys) (rw w (big_below ys (bytes_tail q))) (omega (arith, m)),
          digit_le y x (256 ^ length xs) (big ys) (big xs) (big_below xs (bytes_tail p)) (omega (arith, m)),
        )

    rest : big xs ≡ big ys
    rest = omega (arith, m, ap (λ (z : ℕ). z * 256 ^ length xs) same)

-- the first string ends here, so it is not above the second
pub not_above_end : (a b : List ℕ) (i : ℕ) → length a ≤ i → is_greater (order (drop i a) (drop i b)) ≡ false
not_above_end a b i p = go (dec_lt i (length b))
  where
    go : Dec (i < length b) → is_greater (order (drop i a) (drop i b)) ≡ false
    go (yes h) = rw (less_end a b i p h)
    go (no h) = rw (equal_end a b i p (omega arith))

-- ---- where eight bytes decide the order

-- where those before the shorter string's last eight are the same, the last eight decide it
pub last_eight : (a b : List ℕ) (i last : ℕ) → take i a ≡ take i b → last ≤ i → last + 8 ≡ min (length a) (length b) → Decides a b last
last_eight a b i last e l m =
    record {
      in_a = omega arith;
      in_b = omega arith;
      before = sym (take-take last i a l) ∙ ap (take last) e ∙ take-take last i b l;
      end = λ s. m;
    }

-- ---- eight bytes at a place of both strings
module _ (a b : List ℕ) (i : ℕ) (known : (k : ℕ) → byte_at a k < 256) (known' : (k : ℕ) → byte_at b k < 256) (fits : i + 8 ≤ length a) (fits' : i + 8 ≤ length b) where
  from_here : (s : List ℕ) → drop i s ≡ part s i 8 ++ drop (i + 8) s
  from_here s = sym (take-append-drop 8 (drop i s)) ∙ rw (drop-drop 8 i s)

  as_many : length (part a i 8) ≡ length (part b i 8)
  as_many = part_length a i 8 fits ∙ sym (part_length b i 8 fits')

  bytes_a : Bytes (part a i 8)
  bytes_a = bytes_part a i 8 (record { below = known })

  bytes_b : Bytes (part b i 8)
  bytes_b = bytes_part b i 8 (record { below = known' })

  less : big (part a i 8) < big (part b i 8) → order (drop i a) (drop i b) ≡ Less
  less l = rw (from_here a, from_here b) (less_big (drop (i + 8) a) (drop (i + 8) b) (part a i 8) (part b i 8) as_many bytes_a bytes_b l)

  greater : big (part b i 8) < big (part a i 8) → order (drop i a) (drop i b) ≡ Greater
  greater l =
      rw (from_here a, from_here b)
      (order_flip (part b i 8 ++ drop (i + 8) b) (part a i 8 ++ drop (i + 8) a)
      (less_big (drop (i + 8) b) (drop (i + 8) a) (part b i 8) (part a i 8) (sym as_many) bytes_b bytes_a l))

  -- groups that differ are ordered as their big-endian numbers are
  group_differs : (part a i 8 ≡ part b i 8 → ⊥) → ltb (big (part b i 8)) (big (part a i 8)) ≡ is_greater (order (drop i a) (drop i b))
  group_differs n = go (big (part a i 8)) (big (part b i 8)) refl refl (dec_lt (big (part b i 8)) (big (part a i 8))) (dec_lt (big (part a i 8)) (big (part b i 8)))
    where
      go : (x y : ℕ) → x ≡ big (part a i 8) → y ≡ big (part b i 8) → Dec (y < x) → Dec (x < y) → ltb y x ≡ is_greater (order (drop i a) (drop i b))
      go x y p q (yes h) t = rw (lt-ltb y x h, greater (omega arith))
      go x y p q (no h) (yes l) = rw (le-ltb y x (omega arith), less (omega arith))
      go x y p q (no h) (no l) = absurd (n (big_same (part a i 8) (part b i 8) as_many bytes_a bytes_b (omega arith)))

  module _ (d : Decides a b i) where
    -- where they differ, their order is that of the strings
    pub decided : {x y : List ℕ} {p q : ℕ} → x ≡ part a i 8 → y ≡ part b i 8 → (x ≡ y → ⊥) → p ≡ from_be_bytes w64 y → q ≡ from_be_bytes w64 x → ltb p q ≡ is_greater (order a b)
    decided ex ey n ep eq =
        ap₂ ltb (ep ∙ ap (from_be_bytes w64) ey ∙ be_number w64 (part b i 8) (part_length b i 8 fits')) (eq ∙ ap (from_be_bytes w64) ex ∙ be_number w64 (part a i 8) (part_length a i 8 fits))
        ∙ group_differs (λ e. n (ex ∙ e ∙ sym ey))
        ∙ ap is_greater (order_behind a b i d.before)

    -- where they are the same, the longer string is above
    pub ended : part a i 8 ≡ part b i 8 → ltb (length b) (length a) ≡ is_greater (order a b)
    ended same =
        go (dec_lt (length b) (length a)) (d.end same) ∙ ap is_greater (order_behind a b (i + 8) (grow a b i 8 d.before same))
      where
        go : Dec (length b < length a) → i + 8 ≡ min (length a) (length b)
            → ltb (length b) (length a) ≡ is_greater (order (drop (i + 8) a) (drop (i + 8) b))
        go (yes h) m = rw (lt-ltb _ _ h, greater_end a b (i + 8) (omega arith) (omega arith))
        go (no h) m = rw (le-ltb (length b) (length a) (omega arith), not_above_end a b (i + 8) (omega arith))
