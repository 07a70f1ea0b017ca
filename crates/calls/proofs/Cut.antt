-- The pieces of some bytes, one after the other.
use mathlib.Core.Path.{◌≡◌, sym, ap, ap₂, ◌∙◌}
use mathlib.Core.Bool.{Bool, cond}
use mathlib.Core.List.{List, [], ◌∷◌, ◌++◌}
use Prim.Native.Nat.{ℕ, suc, ◌+◌, ◌-◌, ◌/◌, ◌≤◌, ◌<◌, min}
use native.Mathlib.Nat.{div-eq_of_lt, add-div_left}
use native.Mathlib.Omega.{arith}
use borrow.Author.Tests.{ne_eqb}
use lib.ListN.{length, take, drop, length-append}
use lib.Seq.{take-append_seam, drop-append_seam}
use Rattle.std.proofs.Math.Decide.{dec_le}
use Rattle.std.proofs.lemmas.List.{take_min, drop_min}
use Rattle.std.specs.Simd.{first_chunks}
use Rattle.std.specs.Prelude.{Result, Ok, Err}
use Rattle.error.specs.declared.Error.{Error}
use Rattle.error.specs.Answer.{Number}
use Rattle.octets.specs.Bytes.{padded_to}
use Rattle.crc.specs.Pieces.{fed, finish_fed, pieces_sum}
use Rattle.crc.specs.DataUnit.{unit_new, unit_update, unit_finish}
use Rattle.crc.specs.declared.DataUnitCrc.{DataUnitCrc}
use Rattle.calls.specs.declared.Numbers.{Numbers}
use Rattle.calls.specs.Pieces.{chunks_of, cut, pieces_asked}

-- x bytes of n are a piece, and y are left: how many pieces there are
one_more : (size x y n : ℕ) → 0 < size → n ≡ x + y → x ≡ min size n → 0 < n → (n + size - 1) / size ≡ suc ((y + size - 1) / size)
one_more size x y n pos e m some = go (dec_le size n)
  where
    go : Dec (size ≤ n) → (n + size - 1) / size ≡ suc ((y + size - 1) / size)
    go (yes l) =
        let w : n + size - 1 ≡ size + (y + size - 1) = omega arith in
        let q = add-div_left (y + size - 1) pos in
        ap (λ (k : ℕ). k / size) w ∙ omega (arith, q)
    go (no l) =
        let w : n + size - 1 ≡ size + (n - 1) = omega arith in
        let v : y + size - 1 ≡ size - 1 = omega arith in
        let q = add-div_left (n - 1) pos in
        let r = div-eq_of_lt {n = n - 1} {m = size} (omega arith) in
        let s = div-eq_of_lt {n = size - 1} {m = size} (omega arith) in
        ap (λ (k : ℕ). k / size) w ∙ omega (arith, q, r, s) ∙ ap (λ (k : ℕ). suc (k / size)) (sym v)

-- nothing is left
pub no_piece : (size : ℕ) (rest : List ℕ) → 0 < size → length rest ≡ 0 → chunks_of size rest ≡ []
no_piece size rest pos e =
    let w : length rest + size - 1 ≡ size - 1 = omega arith in
    let q : (length rest + size - 1) / size ≡ 0 = ap (λ (k : ℕ). k / size) w ∙ div-eq_of_lt {n = size - 1} {m = size} (omega arith) in
    ap (λ (k : ℕ). first_chunks size k rest) q

-- a piece, and those of the bytes behind it
pub next_piece : (size : ℕ) (rest piece after : List ℕ) → 0 < size → rest ≡ piece ++ after → length piece ≡ min size (length rest) → 0 < length rest
    → chunks_of size rest ≡ piece ∷ chunks_of size after
next_piece size rest piece after pos e m some =
    let n : length rest ≡ length piece + length after = ap length e ∙ length-append piece after in
    let front : take size rest ≡ piece = sym (take_min size rest) ∙ ap₂ take (sym m) e ∙ take-append_seam piece after in
    let back : drop size rest ≡ after = sym (drop_min size rest) ∙ ap₂ drop (sym m) e ∙ drop-append_seam piece after in
    ap (λ (k : ℕ). first_chunks size k rest) (one_more size (length piece) (length after) (length rest) pos n m some)
    ∙ ap₂ (λ (x y : List ℕ). x ∷ first_chunks size ((length after + size - 1) / size) y) front back

-- a turn: one piece is fed, and those behind it are still to be
pub feed_turn : (s t u : DataUnitCrc) (size : ℕ) (bytes rest piece after : List ℕ) → 0 < size
    → fed s (chunks_of size bytes) ≡ fed t (chunks_of size rest) → rest ≡ piece ++ after → length piece ≡ min size (length rest) → 0 < length rest
    → u ≡ unit_update t piece → fed s (chunks_of size bytes) ≡ fed u (chunks_of size after)
feed_turn s t u size bytes rest piece after pos inv e m some eu =
    inv ∙ ap (fed t) (next_piece size rest piece after pos e m some) ∙ ap (λ (x : DataUnitCrc). fed x (chunks_of size after)) (sym eu)

pub feed_done : (s t : DataUnitCrc) (size : ℕ) (bytes rest : List ℕ) → (size ≡ 0 → ⊥)
    → fed s (chunks_of size bytes) ≡ fed t (chunks_of size rest) → length rest ≡ 0 → t ≡ fed s (cut size bytes)
feed_done s t size bytes rest some inv e =
    sym (ap (λ (b : Bool). fed s (cond b (bytes ∷ []) (chunks_of size bytes))) (ne_eqb size 0 some) ∙ inv ∙ ap (fed t) (no_piece size rest (omega arith) e))

-- ---- the sum of the pieces: one that was begun is finished, and one that was refused stays so
pub asked_begun : {r : Number} {s : Result DataUnitCrc Error} {t u : DataUnitCrc} (n : Numbers) (uuid bytes id : List ℕ) → id ≡ padded_to 16 uuid
    → s ≡ unit_new id n.a n.b n.c → s ≡ Ok t → u ≡ fed t (cut n.d bytes) → r ≡ unit_finish u → r ≡ pieces_asked n uuid bytes
unfolding pieces_asked pieces_sum
asked_begun {r} {s} {t} {u} n uuid bytes id ei es et eu er =
    er ∙ ap unit_finish eu
    ∙ ap (λ (x : Result DataUnitCrc Error). finish_fed x (cut n.d bytes)) (sym et ∙ es)
    ∙ ap (λ (x : List ℕ). finish_fed (unit_new x n.a n.b n.c) (cut n.d bytes)) ei

pub asked_refused : {r : Number} {s : Result DataUnitCrc Error} (n : Numbers) (uuid bytes id : List ℕ) (e : Error) → id ≡ padded_to 16 uuid
    → s ≡ unit_new id n.a n.b n.c → s ≡ Err e → r ≡ Err e → r ≡ pieces_asked n uuid bytes
unfolding pieces_asked pieces_sum
asked_refused {r} {s} n uuid bytes id e ei es et er =
    er
    ∙ ap (λ (x : Result DataUnitCrc Error). finish_fed x (cut n.d bytes)) (sym et ∙ es)
    ∙ ap (λ (x : List ℕ). finish_fed (unit_new x n.a n.b n.c) (cut n.d bytes)) ei
