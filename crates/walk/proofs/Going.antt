-- The walk's loops: after each turn the walk from there on gives what the whole walk gives.
use mathlib.Core.Path.{◌≡◌, refl, sym, ap, ap₂, ◌∙◌}
use mathlib.Core.Bool.{Bool}
use mathlib.Core.List.{List, [], ◌∷◌}
use Prim.Native.Nat.{ℕ, suc, ◌+◌, ◌-◌, ◌≤◌, ◌<◌}
use native.Mathlib.Nat.{sub-zero}
use native.Mathlib.Omega.{arith}
use borrow.Author.Tests.{eq-eqb, ne_eqb}
use lib.ListN.{take, drop}
use lib.Seq.{drop-drop}
use Rattle.error.specs.declared.Error.{Error}
use Rattle.error.specs.declared.Validation.{Validation}
use Rattle.error.specs.Answer.{Check}
use Rattle.std.specs.Prelude.{Result, Ok, Err}
use Rattle.error.specs.Answer.{Number}
use Rattle.error.specs.Answer.{violation_of, number_check, number_of}
use Rattle.error.specs.Demand.{Demand, passing, outcome, demands}
use Rattle.error.specs.Reason as reason
use Rattle.error.proofs.Exactly.{all_hold, passed_is, number_passed, by, outcome_by, answer_passed, answer_refused, two_chains}
use Rattle.error.proofs.Chain.{last_check}
use Rattle.lookup.specs.Record.{key_len, value_len, record_len, key_of}
use Rattle.walk.specs.Records.{Own, form_check, own_answer, join_demands, join_check, record_demands, next_total, next_blocks, walk}
use Rattle.walk.specs.Inside.{join_of, turn_of}
use Rattle.walk.specs.declared.Turn.{Turn}
use Rattle.walk.proofs.Turns.{Formed, formed}

-- ---- what a turn's answer says, and the joining of its number
module _ (leaf : Bool) (mode : Validation) (own : Own) (rest : List ℕ) (left : ℕ) (previous : List ℕ) (total : ℕ) (seen : List ℕ) where
  -- the record's number
  abbrev n : ℕ
  n = number_of (own_answer own rest)

  abbrev check : Check
  check = demands (record_demands leaf mode own rest left previous total seen)

  -- the record by itself, before its number joins the others
  abbrev alone : List Demand
  alone = passing (form_check rest left previous mode) ∷ passing (own_answer own rest) ∷ []

  abbrev last : List Demand
  last = passing (join_check leaf total seen n mode) ∷ []

  -- the turn of a record that passes
  abbrev whole : Turn
  whole = record { key_len = key_len rest; value_len = value_len rest; number = n }

  pub record Turned (t : Turn) (after : ℕ) : Type 0 where
    pub passed : check ≡ Ok tt
    pub key_is : t.key_len ≡ key_len rest
    pub value_is : t.value_len ≡ value_len rest
    pub number_is : t.number ≡ n
    pub total_is : after ≡ next_total leaf total n

  alone_is : (t : Turn) → turn_of mode own rest left previous ≡ Ok t → (demands alone ≡ Ok tt) × (whole ≡ t)
  unfolding turn_of
  alone_is t e =
      let h = answer_passed alone (Ok whole) t e in
      (h.0, cc h.1)

  -- the whole check, by its first two demands
  both : (c : Check) → demands alone ≡ c → check ≡ by c (demands last)
  both c p = sym (two_chains alone last (Ok tt)) ∙ outcome_by alone (demands last) ∙ ap (λ (d : Check). by d (demands last)) p

  joined_is : (c : Check) → join_check leaf total seen n mode ≡ c → demands last ≡ c
  joined_is c p = sym (last_check (join_check leaf total seen n mode) (join_check leaf total seen n mode) refl) ∙ p

  turned : (t : Turn) (after : ℕ) → turn_of mode own rest left previous ≡ Ok t → join_of leaf total seen t.number mode ≡ Ok after → Turned t after
  unfolding join_of join_check
  turned t after e j =
      let a = alone_is t e in
      let f : t.number ≡ n = sym (ap (λ (u : Turn). u.number) a.1) in
      let h = answer_passed (join_demands leaf total seen n mode) (Ok (next_total leaf total n)) after (rw f at j) in
      let k : next_total leaf total n ≡ after = cc h.1 in
      record {
        passed = both (Ok tt) a.0 ∙ joined_is (Ok tt) h.0;
        key_is = sym (ap (λ (u : Turn). u.key_len) a.1);
        value_is = sym (ap (λ (u : Turn). u.value_len) a.1);
        number_is = f;
        total_is = sym k;
      }

  stopped : (x : Error) → turn_of mode own rest left previous ≡ Err x → check ≡ Err x
  unfolding turn_of
  stopped x e = both (Err x) (answer_refused alone whole x e)

  unjoined : (t : Turn) (x : Error) → turn_of mode own rest left previous ≡ Ok t → join_of leaf total seen t.number mode ≡ Err x → check ≡ Err x
  unfolding join_of join_check
  unjoined t x e j =
      let a = alone_is t e in
      let f : t.number ≡ n = sym (ap (λ (u : Turn). u.number) a.1) in
      both (Ok tt) a.0 ∙ joined_is (Err x) (answer_refused (join_demands leaf total seen n mode) (next_total leaf total n) x (rw f at j))

  form_passed : check ≡ Ok tt → Formed rest left previous mode
  form_passed e = formed rest left previous mode (passed_is (form_check rest left previous mode) (all_hold (record_demands leaf mode own rest left previous total seen) e).0)

  pub own_passed : check ≡ Ok tt → number_check (own_answer own rest) ≡ Ok tt
  own_passed e = number_passed (own_answer own rest) (all_hold (record_demands leaf mode own rest left previous total seen) e).1.0

  -- the walk after this record
  abbrev rest_walk : ℕ → Number
  rest_walk j = walk leaf mode own j (drop (record_len rest) rest) (left - record_len rest) (key_of rest) (next_total leaf total n) (next_blocks leaf seen n)

  walk_by : (m j : ℕ) (c : Check) → m ≡ suc j → check ≡ c → walk leaf mode own m rest left previous total seen ≡ by c (rest_walk j)
  unfolding walk
  walk_by m j c e p =
      rw e (outcome_by (record_demands leaf mode own rest left previous total seen) (rest_walk j) ∙ ap (λ (d : Check). by d (rest_walk j)) p)

-- ---- the loop: i records are done, the next stands at a position, and `previous` is the key before it
pub record Going (leaf : Bool) (mode : Validation) (own : Own) (rest : List ℕ) (payload_length count total : ℕ) (seen : List ℕ) (position : ℕ) (previous : List ℕ) (i : ℕ) : Type 0 where
  pub turns : i ≤ count
  pub inside : position ≤ payload_length
  pub same : walk leaf mode own (count - i) (drop position rest) (payload_length - position) previous total seen ≡ walk leaf mode own count rest payload_length [] 0 []

pub going_start : (leaf : Bool) (mode : Validation) (own : Own) (rest : List ℕ) (payload_length count : ℕ) → Going leaf mode own rest payload_length count 0 [] 0 [] 0
going_start leaf mode own rest payload_length count = record {
  turns = omega arith;
  inside = omega arith;
  same = rw (sub-zero count, sub-zero payload_length);
}

module _ (leaf : Bool) (mode : Validation) (own : Own) (rest : List ℕ) (payload_length count total : ℕ) (seen : List ℕ) (position : ℕ) (previous : List ℕ) (i : ℕ)
    (g : Going leaf mode own rest payload_length count total seen position previous i) where
  -- the record at the position
  abbrev here : List ℕ
  here = drop position rest

  abbrev pub turn : Result Turn Error
  turn = turn_of mode own here (payload_length - position) previous

  -- a number beside those of the earlier records
  abbrev pub join : ℕ → Number
  join m = join_of leaf total seen m mode

  module _ (more : i < count) where
    left_is : count - i ≡ suc (count - (i + 1))
    left_is = omega arith

    module _ (t : Turn) (after : ℕ) (e : turn ≡ Ok t) (j : join t.number ≡ Ok after) where
      pub at_turn : Turned leaf mode own here (payload_length - position) previous total seen t after
      at_turn = turned leaf mode own here (payload_length - position) previous total seen t after e j

      pub turn_form : Formed here (payload_length - position) previous mode
      turn_form = form_passed leaf mode own here (payload_length - position) previous total seen at_turn.passed

      pub turn_size : position + 4 + t.key_len + t.value_len ≤ payload_length
      turn_size = omega (arith, at_turn.key_is, at_turn.value_is, turn_form.inside, g.inside)

      -- the next place, as the code adds it up
      next_rest : drop (record_len here) here ≡ drop (position + 4 + t.key_len + t.value_len) rest
      next_rest =
          let s : position + record_len here ≡ position + 4 + t.key_len + t.value_len = omega (arith, at_turn.key_is, at_turn.value_is) in
          drop-drop (record_len here) position rest ∙ ap (λ (m : ℕ). drop m rest) s

      next_left : payload_length - position - record_len here ≡ payload_length - (position + 4 + t.key_len + t.value_len)
      next_left = omega (arith, at_turn.key_is, at_turn.value_is)

      next_key : key_of here ≡ take (position + 4 + t.key_len - (position + 4)) (drop (position + 4) rest)
      next_key =
          let s : key_len here ≡ position + 4 + t.key_len - (position + 4) = omega (arith, at_turn.key_is) in
          ap₂ (λ (m : ℕ) (l : List ℕ). take m l) s (drop-drop 4 position rest)

      pub going_on : Going leaf mode own rest payload_length count (next_total leaf total (number_of (own_answer own here))) (next_blocks leaf seen (number_of (own_answer own here))) (position + 4 + t.key_len + t.value_len) (take (position + 4 + t.key_len - (position + 4)) (drop (position + 4) rest)) (i + 1)
      going_on = record {
        turns = omega arith;
        inside = turn_size;
        same =
            rw (← next_rest, ← next_left, ← next_key)
            (sym (walk_by leaf mode own here (payload_length - position) previous total seen (count - i) (count - (i + 1)) (Ok tt) left_is at_turn.passed) ∙ g.same);
      }

    pub going_refused : (x : Error) → turn ≡ Err x → Err x ≡ walk leaf mode own count rest payload_length [] 0 []
    going_refused x e =
        sym (walk_by leaf mode own here (payload_length - position) previous total seen (count - i) (count - (i + 1)) (Err x) left_is (stopped leaf mode own here (payload_length - position) previous total seen x e)) ∙ g.same

    pub going_unjoined : (t : Turn) (x : Error) → turn ≡ Ok t → join t.number ≡ Err x → Err x ≡ walk leaf mode own count rest payload_length [] 0 []
    going_unjoined t x e j =
        sym (walk_by leaf mode own here (payload_length - position) previous total seen (count - i) (count - (i + 1)) (Err x) left_is (unjoined leaf mode own here (payload_length - position) previous total seen t x e j)) ∙ g.same

  module _ (over : count ≤ i) where
    end_walk : walk leaf mode own 0 here (payload_length - position) previous total seen ≡ walk leaf mode own count rest payload_length [] 0 []
    end_walk =
        let z : 0 ≡ count - i = omega arith in
        ap (λ (m : ℕ). walk leaf mode own m here (payload_length - position) previous total seen) z ∙ g.same

    pub end_left : (e : Error) → (position ≡ payload_length → ⊥) → e ≡ violation_of mode reason.payload_has_unconsumed_bytes → Err e ≡ walk leaf mode own count rest payload_length [] 0 []
    unfolding walk outcome
    end_left e h p = (rw (p, ne_eqb (payload_length - position) 0 (omega (arith, h, g.inside)))) ∙ end_walk

    pub end_total : position ≡ payload_length → Ok total ≡ walk leaf mode own count rest payload_length [] 0 []
    unfolding walk outcome
    end_total h = (rw (eq-eqb (payload_length - position) 0 (omega arith))) ∙ end_walk
