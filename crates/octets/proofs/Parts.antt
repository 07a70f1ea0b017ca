-- Parts of lent bytes, as a call has them.
use mathlib.Core.Path.{◌≡◌, sym, ap, ap₂, ◌∙◌}
use mathlib.Core.List.{List, ◌++◌}
use Prim.Native.Nat.{ℕ, zero, suc, ◌+◌, ◌-◌, ◌*◌, ◌<◌}
use native.Mathlib.Nat.{add_comm, suc-mul, le_of_suc-le-suc, not-suc-le-zero, zero-mul}
use native.Mathlib.Omega.{arith}
use lib.ListN.{length, take, drop, get_or, length-drop}
use lib.Seq.{take_all, take-add, drop-drop}
use Rattle.std.specs.Simd.{first_chunks}
use Rattle.octets.specs.Bytes.{part}
use Rattle.octets.specs.Number.{field}

-- a part from a on
pub part_from : (s : List ℕ) (a : ℕ) → take (length s - a) (drop a s) ≡ drop a s
part_from s a = take_all (length s - a) (drop a s) (rw length-drop (omega arith))

-- bytes that are the same up to a place, and in the part from there on
pub grow : (s t : List ℕ) (offset width : ℕ) → take offset s ≡ take offset t → part s offset width ≡ part t offset width → take (offset + width) s ≡ take (offset + width) t
grow s t offset width a b = take-add offset width s ∙ ap₂ ◌++◌ a b ∙ sym (take-add offset width t)

-- a field of the bytes from a place on
pub field_from : (s : List ℕ) (p o w : ℕ) → field (drop p s) o w ≡ field s (p + o) w
unfolding field
field_from s p o w = rw (drop-drop o p s)

-- chunk i of k chunks of n bytes
pub chunk_at : (n k : ℕ) (s : List ℕ) (i : ℕ) (d : List ℕ) → i < k → get_or (first_chunks n k s) i d ≡ take n (drop (i * n) s)
chunk_at n zero s i d h = absurd (not-suc-le-zero h)
chunk_at n (suc k) s zero d h = ap (λ (m : ℕ). take n (drop m s)) (sym (zero-mul n))
chunk_at n (suc k) s (suc i) d h =
    let e : n + i * n ≡ suc i * n = add_comm n (i * n) ∙ sym (suc-mul i n) in
    chunk_at n k (drop n s) i d (le_of_suc-le-suc h) ∙ ap (take n) (drop-drop (i * n) n s ∙ ap (λ (m : ℕ). drop m s) e)
