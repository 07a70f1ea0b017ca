-- A data unit in pieces: the register goes on over them as over the joined bytes, and the count is theirs.
use mathlib.Core.Path.{◌≡◌, refl, sym, ap, ap₂, ◌∙◌}
use mathlib.Core.Bool.{Bool, true, false, ◌&&◌, cond, and-false}
use mathlib.Core.Logic.{◌↔◌, ◌⊎◌, inl, inr}
use mathlib.Core.List.{List, [], ◌∷◌, ◌++◌}
use Prim.Native.Nat.{ℕ, ◌+◌, ◌-◌, ◌^◌, ◌≤◌, ◌<◌, min}
use native.Mathlib.Omega.{arith}
use borrow.Author.Tests.{eq-eqb, ne_eqb, le-leb, lt-leb, leb-true}
use lib.Dec.{eqb, leb}
use lib.ListN.{length, replicate, length-append}
use Rattle.std.specs.Prelude.{Result, Ok, Err}
use Rattle.std.specs.List.{concat}
use Rattle.error.specs.declared.Error.{Error}
use Rattle.error.specs.declared.Error.TheVariants.{InvalidInput}
use Rattle.error.specs.Answer.{Number}
use Rattle.error.specs.Demand.{outcome, demands}
use Rattle.error.proofs.Exactly.{all_hold, outcome_holds, outcome_refused, outcome_passed, answer_passed, answer_refused}
use Rattle.error.proofs.Tests.{and_right}
use Rattle.octets.specs.Number.{little_bytes}
use Rattle.crc.specs.Crc.{ones, extend, crc32c}
use Rattle.crc.specs.DataUnit.{unit_bytes, tag, unit_front, length_demands, unlisted, data_unit, unit_new, unit_update, unit_finish, data_unit_crc}
use Rattle.crc.specs.Pieces.{fed, finish_fed, pieces_sum, PiecesSum}
use Rattle.crc.specs.declared.DataUnitCrc.{DataUnitCrc}
use Rattle.crc.proofs.Xor.{◌⊕◌}
use Rattle.crc.proofs.Linear.{extend_append}

fed_register : (sum : DataUnitCrc) (pieces : List (List ℕ)) → (fed sum pieces).register ≡ extend sum.register (concat pieces)
unfolding extend unit_update
fed_register sum [] = refl
fed_register sum (p ∷ ps) = fed_register (unit_update sum p) ps ∙ sym (extend_append sum.register p (concat ps))

fed_valid : (sum : DataUnitCrc) (pieces : List (List ℕ)) → (fed sum pieces).valid ≡ sum.valid
unfolding unit_update
fed_valid sum [] = refl
fed_valid sum (p ∷ ps) = fed_valid (unit_update sum p) ps

-- the count stops at 2^64 - 1
fed_seen : (sum : DataUnitCrc) (pieces : List (List ℕ)) → sum.seen ≤ 2 ^ 64 - 1 → (fed sum pieces).seen ≡ min (sum.seen + length (concat pieces)) (2 ^ 64 - 1)
unfolding unit_update
fed_seen sum [] h = omega arith
fed_seen sum (p ∷ ps) h =
    let l = length-append p (concat ps) in
    let e = fed_seen (unit_update sum p) ps (omega arith) in
    omega (arith, l, e)

-- a sum that is begun, of a length that a unit can have
abbrev begun : List ℕ → ℕ → ℕ → ℕ → DataUnitCrc
begun uuid object unit announced = record { register = extend ones (unit_front uuid object unit announced); valid = announced; seen = 0 }

begins : (uuid : List ℕ) (object unit announced : ℕ) → 1 ≤ announced → announced ≤ unit_bytes → unit_new uuid object unit announced ≡ Ok (begun uuid object unit announced)
unfolding unit_new
begins uuid object unit announced lo hi = outcome_holds (length_demands announced) (Ok (begun uuid object unit announced)) (rw (le-leb 1 announced lo, le-leb announced unit_bytes hi) refl, tt)

-- ---- what `finish` answers
finish_whole : (sum : DataUnitCrc) → sum.seen ≡ sum.valid → unit_finish sum ≡ Ok (extend sum.register (replicate (unit_bytes - sum.valid) 0) ⊕ ones)
unfolding unit_finish outcome
finish_whole sum e = rw (eq-eqb sum.seen sum.valid e) refl

finish_other : (sum : DataUnitCrc) → (sum.seen ≡ sum.valid → ⊥) → unit_finish sum ≡ Err (InvalidInput unlisted)
unfolding unit_finish outcome
finish_other sum n = rw (ne_eqb sum.seen sum.valid n) refl

-- the front, the bytes and the zeros are the unit
unit_sum : (uuid : List ℕ) (object unit : ℕ) (bytes : List ℕ)
    → extend (extend (extend ones (unit_front uuid object unit (length bytes))) bytes) (replicate (unit_bytes - length bytes) 0) ⊕ ones ≡ crc32c (data_unit uuid object unit bytes)
unfolding crc32c data_unit
unit_sum uuid object unit bytes = ap (λ (x : ℕ). x ⊕ ones) (simp extend_append refl)

module _ (uuid : List ℕ) (object unit announced : ℕ) (pieces : List (List ℕ)) (lo : 1 ≤ announced) (hi : announced ≤ unit_bytes) where
  first : DataUnitCrc
  first = begun uuid object unit announced

  by_finish : pieces_sum uuid object unit announced pieces ≡ unit_finish (fed first pieces)
  unfolding pieces_sum first
  by_finish = rw (begins uuid object unit announced lo hi) refl

  -- below 2^64 - 1 the count is the length
  counted : ((fed first pieces).seen ≡ (fed first pieces).valid) ↔ (length (concat pieces) ≡ announced)
  unfolding first
  counted =
      let s = fed_seen first pieces (omega arith) in
      let v = fed_valid first pieces in
      (λ e. omega arith, λ e. omega arith)

  summed : length (concat pieces) ≡ announced → pieces_sum uuid object unit announced pieces ≡ Ok (crc32c (data_unit uuid object unit (concat pieces)))
  unfolding first
  summed e =
      by_finish ∙ finish_whole (fed first pieces) (counted.1 e)
      ∙ ap Ok (rw (fed_register first pieces, fed_valid first pieces, sym e) (unit_sum uuid object unit (concat pieces)))

  refused : (length (concat pieces) ≡ announced → ⊥) → pieces_sum uuid object unit announced pieces ≡ Err (InvalidInput unlisted)
  refused n = by_finish ∙ finish_other (fed first pieces) (λ e. n (counted.0 e))

-- no sum is begun with another length
unbegun : (uuid : List ℕ) (object unit announced : ℕ) (pieces : List (List ℕ)) → (announced ≡ 0) ⊎ (unit_bytes < announced) → pieces_sum uuid object unit announced pieces ≡ Err (InvalidInput unlisted)
unfolding pieces_sum unit_new outcome
unbegun uuid object unit announced pieces (inl e) = rw e refl
unbegun uuid object unit announced pieces (inr h) = rw (lt-leb announced unit_bytes h, and-false (leb 1 announced)) refl

-- ---- what is fed is what the joined bytes make
made : ℕ → ℕ → ℕ → DataUnitCrc
made r v s = record { register = r; valid = v; seen = s }

remade : (sum : DataUnitCrc) → made sum.register sum.valid sum.seen ≡ sum
unfolding made
remade sum = refl

fed_alike : (sum : DataUnitCrc) (pieces others : List (List ℕ)) → sum.seen ≤ 2 ^ 64 - 1 → concat pieces ≡ concat others → fed sum pieces ≡ fed sum others
fed_alike sum pieces others h e =
    let r : (fed sum pieces).register ≡ (fed sum others).register = fed_register sum pieces ∙ rw e (sym (fed_register sum others)) in
    let v : (fed sum pieces).valid ≡ (fed sum others).valid = fed_valid sum pieces ∙ sym (fed_valid sum others) in
    let s : (fed sum pieces).seen ≡ (fed sum others).seen = fed_seen sum pieces h ∙ rw e (sym (fed_seen sum others h)) in
    sym (remade (fed sum pieces)) ∙ rw (r, v, s) (remade (fed sum others))

cuts : (uuid : List ℕ) (object unit announced : ℕ) (pieces others : List (List ℕ)) → concat pieces ≡ concat others → pieces_sum uuid object unit announced pieces ≡ pieces_sum uuid object unit announced others
unfolding pieces_sum unit_new outcome
cuts uuid object unit announced pieces others e = go (leb 1 announced && leb announced unit_bytes) (ap unit_finish (fed_alike first pieces others (omega arith) e))
  where
    first : DataUnitCrc
    first = begun uuid object unit announced

    go : (b : Bool) → unit_finish (fed (begun uuid object unit announced) pieces) ≡ unit_finish (fed (begun uuid object unit announced) others)
        → finish_fed (cond b (Ok (begun uuid object unit announced)) (Err (InvalidInput unlisted))) pieces ≡ finish_fed (cond b (Ok (begun uuid object unit announced)) (Err (InvalidInput unlisted))) others
    go true f = f
    go false f = refl

pub pieces_sum_is : PiecesSum
pieces_sum_is = record { unbegun = unbegun; summed = summed; refused = refused; cuts = cuts }

-- ---- all bytes at once, as `data_unit_crc` takes them

-- where none was seen, so many are
counted_once : (s : DataUnitCrc) (valid : List ℕ) → s.seen ≡ 0 → length valid ≤ unit_bytes → (unit_update s valid).seen ≡ length valid
unfolding unit_update
counted_once s valid e h = omega arith

module _ (uuid : List ℕ) (object unit : ℕ) (valid : List ℕ) where
  pub at_once_refused : {r : Number} {s : Result DataUnitCrc Error} (e : Error) → s ≡ unit_new uuid object unit (length valid) → s ≡ Err e → r ≡ Err e → r ≡ data_unit_crc uuid object unit valid
  unfolding unit_new data_unit_crc
  at_once_refused {r} e p q k =
      let ds = length_demands (length valid) in
      outcome_refused ds (Ok (crc32c (data_unit uuid object unit valid))) r (demands ds) refl e (answer_refused ds (begun uuid object unit (length valid)) e (sym p ∙ q)) k

  -- the sum of the only piece
  once : length valid ≤ unit_bytes → unit_finish (unit_update (begun uuid object unit (length valid)) valid) ≡ Ok (crc32c (data_unit uuid object unit valid))
  unfolding unit_update
  once h =
      let u = unit_update (begun uuid object unit (length valid)) valid in
      finish_whole u (counted_once (begun uuid object unit (length valid)) valid refl h) ∙ ap Ok (unit_sum uuid object unit valid)

  pub at_once : {r : Number} {s : Result DataUnitCrc Error} {t u : DataUnitCrc} → s ≡ unit_new uuid object unit (length valid) → s ≡ Ok t → u ≡ unit_update t valid → r ≡ unit_finish u → r ≡ data_unit_crc uuid object unit valid
  unfolding unit_new data_unit_crc
  at_once {r} {s} {t} {u} p q pu pr =
      let ds = length_demands (length valid) in
      let a = answer_passed ds (Ok (begun uuid object unit (length valid))) t (sym p ∙ q) in
      let same : begun uuid object unit (length valid) ≡ t = cc (a.1) in
      let h = leb-true (length valid) unit_bytes (and_right (leb 1 (length valid)) (leb (length valid) unit_bytes) (all_hold ds a.0).0) in
      outcome_passed ds (Ok (crc32c (data_unit uuid object unit valid))) r (demands ds) refl a.0
      (pr ∙ ap unit_finish (pu ∙ ap (λ (x : DataUnitCrc). unit_update x valid) (sym same)) ∙ once h)
