-- Numbers of arrays: the library's readers of numbers give what `little` and `big` say, for every width.
use mathlib.Core.Path.{◌≡◌, refl, ap, ◌∙◌}
use mathlib.Core.Bool.{Bool, true, false, cond}
use mathlib.Core.List.{List, [], ◌∷◌}
use Prim.Native.Nat.{ℕ, zero, suc, ◌+◌, ◌-◌, ◌*◌, ◌^◌, ◌≤◌, ◌<◌}
use native.Mathlib.Nat.{sub_self, pow-suc}
use native.Mathlib.Omega.{arith}
use borrow.Author.Tests.{leb-true}
use lib.ListN.{length, get_or, replicate, take, drop}
use lib.Seq.{take-suc, take_all, length-take-le}
use mir.Syntax.{Width, w64}
use Rattle.std.specs.Prelude.{Option, Some, None, Result, Ok, Err, ok_or}
use Rattle.std.specs.Option.{MatchOption}
use Rattle.std.specs.Int.{from_le_bytes, from_be_bytes, sum_through, byte_worth, byte_len}
use Rattle.error.specs.declared.Error.{Error}
use Rattle.error.specs.declared.Error.TheVariants.{Corrupt}
use Rattle.octets.specs.Bytes.{part, padded_to}
use Rattle.octets.specs.Number.{little, big, field, within, big_at}
use Rattle.octets.specs.Inside.{array_at}
use Rattle.octets.specs.Reads.{read_of}
use Rattle.octets.proofs.Join.{little_append, big_append, part_length}
use Rattle.octets.proofs.Pad.{padded_length}

worth : (i b : ℕ) → byte_worth i b ≡ b * 256 ^ i
worth zero b = omega arith
worth (suc i) b = refl

-- the bytes up to the k-th, each by its worth
sum_little : (l : List ℕ) (k : ℕ) → k < length l → sum_through (λ i. byte_worth i (get_or l i 0)) k ≡ little (take (suc k) l)
sum_little [] zero h = absurd (omega arith)
sum_little (b ∷ l) zero h = omega arith
sum_little l (suc k) h =
    let n : length (take (suc k) l) ≡ suc k = length-take-le (suc k) l (omega arith) in
    rw (take-suc l (suc k) 0 h, little_append (take (suc k) l) (get_or l (suc k) 0 ∷ []), n, sum_little l k (omega arith)) (omega arith)

sum_big : (l : List ℕ) (m k : ℕ) → k < length l → k ≤ m → sum_through (λ i. byte_worth (m - i) (get_or l i 0)) k ≡ 256 ^ (m - k) * big (take (suc k) l)
sum_big [] m zero h g = absurd (omega arith)
sum_big (b ∷ l) m zero h g = worth (m - 0) b ∙ omega arith
sum_big l m (suc k) h g =
    let e : m - k ≡ suc (m - suc k) = omega arith in
    rw (take-suc l (suc k) 0 h, big_append (take (suc k) l) (get_or l (suc k) 0 ∷ []), sum_big l m k (omega arith) (omega arith), worth (m - suc k) (get_or l (suc k) 0), e, pow-suc 256 (m - suc k)) (omega arith)

pub le_number : (w : Width) (l : List ℕ) → length l ≡ suc (byte_len w - 1) → from_le_bytes w l ≡ little l
le_number w l h = sum_little l (byte_len w - 1) (omega arith) ∙ ap little (take_all (suc (byte_len w - 1)) l (omega arith))

pub be_number : (w : Width) (l : List ℕ) → length l ≡ suc (byte_len w - 1) → from_be_bytes w l ≡ big l
be_number w l h =
    let m = byte_len w - 1 in
    sum_big l m m (omega arith) (omega arith) ∙ rw (sub_self m, take_all (suc m) l (omega arith)) (omega arith)

-- zeros behind bytes don't count
little_zeros : (k : ℕ) → little (replicate k 0) ≡ 0
little_zeros zero = refl
little_zeros (suc k) = rw (little_zeros k)

padded_number : (n o : ℕ) (s : List ℕ) → little (padded_to n (drop o s)) ≡ field s o n
unfolding field
padded_number n o s =
    let k = n - length (drop o s) in
    little_append (take n (drop o s)) (replicate k 0) ∙ rw (little_zeros k) (omega arith)

pub number_at : {r : ℕ} {x : List ℕ} (w : Width) (s : List ℕ) (o : ℕ) → x ≡ padded_to (suc (byte_len w - 1)) (drop o s) → r ≡ from_le_bytes w x → r ≡ field s o (suc (byte_len w - 1))
number_at w s o e f =
    let n = suc (byte_len w - 1) in
    f ∙ ap (from_le_bytes w) e ∙ le_number w (padded_to n (drop o s)) (padded_length n (drop o s)) ∙ padded_number n o s

pub number_read : {r : Result (List ℕ) Error} {x : List ℕ} {v : ℕ} (w : Width) (s : List ℕ) (o reason : ℕ)
    → r ≡ ok_or (array_at s o (suc (byte_len w - 1))) (Corrupt reason) → r ≡ Ok x → v ≡ from_le_bytes w x → Ok v ≡ read_of s o (suc (byte_len w - 1)) reason
unfolding field
number_read {r} {x} {v} w s o reason e f g = go (within s o n) refl e
  where
    n : ℕ
    n = suc (byte_len w - 1)

    go : (t : Bool) → within s o n ≡ t → r ≡ ok_or (cond t (Some (part s o n)) None) (Corrupt reason) → Ok v ≡ cond t (Ok (little (part s o n))) (Err (Corrupt reason))
    go true p q =
        let same : x ≡ part s o n = cc in
        ap Ok (g ∙ ap (from_le_bytes w) same ∙ le_number w (part s o n) (part_length s o n (leb-true (o + n) (length s) p)))
    go false p q = cc

pub big_or : {r : Option (List ℕ)} {v : ℕ} (s : List ℕ) (o : ℕ) → r ≡ array_at s o 8 → MatchOption r (v ≡ 0) (λ x. v ≡ from_be_bytes w64 x) → v ≡ big_at s o
unfolding big_at
big_or {r} {v} s o e f = go (within s o 8) refl (rw e at f)
  where
    go : (t : Bool) → within s o 8 ≡ t → MatchOption (cond t (Some (part s o 8)) None) (v ≡ 0) (λ x. v ≡ from_be_bytes w64 x) → v ≡ cond t (big (part s o 8)) 0
    go true p g = g ∙ be_number w64 (part s o 8) (part_length s o 8 (leb-true (o + 8) (length s) p))
    go false p g = g
