-- One turn of the walk, by what the calls in it answered.
use mathlib.Core.Path.{◌≡◌, sym, ap, ap₂, ◌∙◌}
use mathlib.Core.Bool.{true, ◌&&◌}
use mathlib.Core.List.{List}
use Prim.Native.Nat.{ℕ, ◌+◌, ◌-◌, ◌≤◌}
use native.Mathlib.Omega.{arith}
use borrow.Author.Tests.{leb-true}
use lib.Dec.{leb}
use Rattle.error.specs.declared.Error.{Error}
use Rattle.error.specs.declared.Validation.{Validation}
use Rattle.std.specs.Prelude.{Result, Ok, Err}
use Rattle.error.specs.Answer.{Number}
use Rattle.error.specs.Demand.{outcome}
use Rattle.error.proofs.Tests.{and_left, and_right}
use Rattle.error.proofs.Exactly.{all_hold, answer_passed, answer_refused}
use Rattle.octets.specs.Bytes.{part}
use Rattle.octets.specs.Order.{order}
use Rattle.std.specs.declared.cmp.Ordering.TheVariants.{Less}
use Rattle.lookup.specs.Record.{key_len, value_len, record_len, key_of}
use Rattle.lookup.specs.declared.Lengths.{Lengths}
use Rattle.walk.specs.Records.{Own, form_demands, form_check, own_answer}
use Rattle.walk.specs.Inside.{form_of, turn_of}
use Rattle.octets.proofs.OrderLaws.{less_of}

-- ---- the form of a record
module _ (rest : List ℕ) (left : ℕ) (previous : List ℕ) (mode : Validation) where
  pub record Formed : Type 0 where
    pub key_low : 1 ≤ key_len rest
    pub key_high : key_len rest ≤ 1024
    pub small : record_len rest ≤ 3072
    pub inside : record_len rest ≤ left
    pub above : order previous (key_of rest) ≡ Less

  pub formed : form_check rest left previous mode ≡ Ok tt → Formed
  unfolding form_check
  formed e =
      let h = all_hold (form_demands rest left previous mode) e in
      let k : (leb 1 (key_len rest) && leb (key_len rest) 1024) ≡ true = h.1.1.0 in
      record {
        key_low = leb-true 1 (key_len rest) (and_left (leb 1 (key_len rest)) (leb (key_len rest) 1024) k);
        key_high = leb-true (key_len rest) 1024 (and_right (leb 1 (key_len rest)) (leb (key_len rest) 1024) k);
        small = leb-true (record_len rest) 3072 h.1.1.1.0;
        inside = leb-true (record_len rest) left h.1.1.1.1.0;
        above = less_of (order previous (key_of rest)) h.1.1.1.1.1.0;
      }

  -- the lengths as the record has them
  abbrev sizes : Lengths
  sizes = record { key_len = key_len rest; value_len = value_len rest }

  form_sized : (l : Lengths) → form_of rest left previous mode ≡ Ok l → (form_check rest left previous mode ≡ Ok tt) × (sizes ≡ l)
  unfolding form_of form_check
  form_sized l e =
      let h = answer_passed (form_demands rest left previous mode) (Ok sizes) l e in
      (h.0, cc h.1)

  form_refused : (e : Error) → form_of rest left previous mode ≡ Err e → form_check rest left previous mode ≡ Err e
  unfolding form_of form_check
  form_refused x e = answer_refused (form_demands rest left previous mode) sizes x e

  -- a record of the right form lies within what is left
  pub sized_inside : (l : Lengths) → form_of rest left previous mode ≡ Ok l → 4 + l.key_len + l.value_len ≤ left
  sized_inside l e =
      let s = form_sized l e in
      rw (← s.1) ((formed s.0).inside)

-- ---- a turn, by what the calls answered: f is the form, r what the record's own rules answered
module _ (mode : Validation) (own : Own) (rest : List ℕ) (left : ℕ) (previous : List ℕ) (f : Result Lengths Error) (is : f ≡ form_of rest left previous mode) where
  pub turn_form : (e : Error) → f ≡ Err e → Err e ≡ turn_of mode own rest left previous
  unfolding turn_of outcome
  turn_form e q = rw (form_refused rest left previous mode e (sym is ∙ q))

  module _ (l : Lengths) (sized : f ≡ Ok l) (r : Number) (told : r ≡ own (part rest 4 (4 + l.key_len - 4)) (part rest (4 + l.key_len) (4 + l.key_len + l.value_len - (4 + l.key_len)))) where
    lengths : (form_check rest left previous mode ≡ Ok tt) × (sizes rest left previous mode ≡ l)
    lengths = form_sized rest left previous mode l (sym is ∙ sized)

    key_is : l.key_len ≡ key_len rest
    key_is = sym (ap (λ (m : Lengths). m.key_len) lengths.1)

    value_is : l.value_len ≡ value_len rest
    value_is = sym (ap (λ (m : Lengths). m.value_len) lengths.1)

    -- the key and the value that were cut out are the record's
    cut : r ≡ own_answer own rest
    cut =
        let a : 4 + l.key_len - 4 ≡ key_len rest = omega (arith, key_is) in
        let b : 4 + l.key_len ≡ 4 + key_len rest = omega (arith, key_is) in
        let d : 4 + l.key_len + l.value_len - (4 + l.key_len) ≡ value_len rest = omega (arith, value_is) in
        told ∙ ap₂ own (ap (λ (n : ℕ). part rest 4 n) a) (ap₂ (λ (m n : ℕ). part rest m n) b d)

    pub turn_own : (e : Error) → r ≡ Err e → Err e ≡ turn_of mode own rest left previous
    unfolding turn_of outcome
    turn_own e q = rw (lengths.0, sym cut ∙ q)

    pub turn_passes : (n : ℕ) → r ≡ Ok n → Ok (record { key_len = l.key_len; value_len = l.value_len; number = n }) ≡ turn_of mode own rest left previous
    unfolding turn_of outcome
    turn_passes n q = rw (lengths.0, sym cut ∙ q, key_is, value_is)
