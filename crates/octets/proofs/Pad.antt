-- Bytes at the front of an array of zeros: one law for every length.
use mathlib.Core.Path.{◌≡◌, refl, ap, ◌∙◌}
use mathlib.Core.List.{List, [], ◌∷◌, ◌++◌, append-nil}
use Prim.Native.Nat.{ℕ, zero, suc, ◌-◌}
use native.Mathlib.Omega.{arith}
use lib.ListN.{length, take, replicate, length-append, length-take, length-replicate}
use lib.Seq.{sets, set_at, append_snoc, take_all}
use Rattle.octets.specs.Bytes.{padded_to, Laid}
use Rattle.octets.proofs.Lay.{sets_out}

sets_zeros : (front s : List ℕ) (k : ℕ) → sets (front ++ replicate k 0) (length front) s ≡ front ++ padded_to k s
sets_zeros front [] zero = refl
sets_zeros front [] (suc k) = let e : suc k - 0 ≡ suc k = omega arith in rw e
sets_zeros front (b ∷ s) zero =
    let e : 0 - suc (length s) ≡ 0 = omega arith in
    rw e (sets_out (front ++ []) (length front) (b ∷ s) (omega (arith, ap length (append-nil front))))
sets_zeros front (b ∷ s) (suc k) =
    let e : suc k - suc (length s) ≡ k - length s = omega arith in
    let n : length (front ++ (b ∷ [])) ≡ suc (length front) = length-append front (b ∷ []) ∙ omega arith in
    rw (e, set_at front 0 (replicate k 0) b (length front) refl)
    (rw (n, append_snoc front b (replicate k 0), append_snoc front b (padded_to k s)) at (sets_zeros (front ++ (b ∷ [])) s k))

pub laid_padded : (n : ℕ) (s : List ℕ) {after : List ℕ} {r : ℕ} → Laid (replicate n 0) 0 s after r → after ≡ padded_to n s
laid_padded n s l = l.stands ∙ sets_zeros [] s n

-- what is as long as the array is copied whole
pub padded_whole : (n : ℕ) (s : List ℕ) → length s ≡ n → padded_to n s ≡ s
padded_whole n s e =
    let y : n - length s ≡ 0 = omega arith in
    rw (y, take_all n s (omega arith)) (append-nil s)

pub padded_length : (n : ℕ) (s : List ℕ) → length (padded_to n s) ≡ n
padded_length n s = rw (length-append (take n s) (replicate (n - length s) 0), length-take, length-replicate) (omega arith)
