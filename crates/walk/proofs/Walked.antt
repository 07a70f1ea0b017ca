-- An accepted walk reads a list of entries laid end to end, and such a list is accepted.
use mathlib.Core.Path.{◌≡◌, refl, sym, ap, ap₂, subst, ◌∙◌}
use mathlib.Core.Bool.{Bool, true, false, not, true≢false, false≢true}
use mathlib.Core.List.Memᴰ.{head as here}
use mathlib.Core.List.Memᴰ.{not-nil as no_member}
use mathlib.Core.List.Memᴰ.{tail as later}
use mathlib.Core.List.{List, [], ◌∷◌, ◌++◌, append_assoc, flat_map, sum, Memᴰ as Among}
use Prim.Native.Nat.{ℕ, zero, suc, ◌+◌, ◌-◌, ◌*◌, ◌/◌, ◌^◌, ◌≤◌, ◌<◌}
use native.Mathlib.Omega.{arith}
use borrow.Author.Tests.{le-leb, leb-true, eq-eqb, eqb-true, not-true}
use lib.Dec.{leb, eqb}
use lib.ListN.{length, take, drop, length-drop, length-append, length-take, take-append-drop}
use lib.Seq.{take-add, take-append_seam, drop-append_seam}
use Rattle.error.specs.declared.Validation.{Validation}
use Rattle.std.specs.Prelude.{Ok}
use Rattle.error.specs.Answer.{Number}
use Rattle.error.specs.Answer.{violation_of, number_check, number_of}
use Rattle.error.specs.Demand.{Demand, ◌otherwise◌, outcome, AllHold}
use Rattle.error.specs.Reason as reason
use Rattle.error.proofs.Tests.{and_both}
use Rattle.error.proofs.Exactly.{all_hold, all_pass, passed_is, passed_test, number_passed, number_test, outcome_holds, answer_passed}
use Rattle.octets.specs.Bytes.{Bytes}
use Rattle.octets.proofs.Digits.{bytes_part, bytes_drop}
use Rattle.octets.specs.Order.{order, is_less}
use Rattle.std.specs.declared.cmp.Ordering.TheVariants.{Less}
use Rattle.volume.specs.Numbers.{largest}
use Rattle.lookup.specs.Record.{key_len, value_len, record_len, key_of, value_of}
use Rattle.walk.specs.Records.{Own, form_demands, form_check, is_one_of, next_total, next_blocks, join_demands, join_check, own_answer, record_demands, walk, size_demands, records}
use Rattle.walk.specs.Entries.{Entry, stored, end_to_end, Increasing, Fit, numbers, Walked, WalkedExactly}
use Rattle.walk.proofs.Stored.{key_read, value_read, stored_length, key_stored, value_stored, entry_of, key_length_lem, value_length_lem, stored_front}
use Rattle.walk.proofs.Joins.{Apart, apart_none, apart_start, apart_more, apart_rest}
use Rattle.walk.proofs.Turns.{Formed, formed}
use Rattle.walk.proofs.Whole.{is_walk}

-- all demands held, and the answer stands
answered : (ds : List Demand) (r : Number) (n : ℕ) → outcome ds r ≡ Ok n → AllHold ds × (r ≡ Ok n)
answered ds r n e =
    let h = answer_passed ds r n e in
    (all_hold ds h.0, h.1)

-- what is read from here on
record From (leaf : Bool) (own : Own) (rest : List ℕ) (left n : ℕ) (previous : List ℕ) (total : ℕ) (seen : List ℕ) (answer : ℕ) : Type 0 where
  entries : List Entry
  many : length entries ≡ n
  are : end_to_end entries ≡ take left rest
  increasing : Increasing previous entries
  fit : (e : Entry) → Among e entries → Fit e
  obey : (e : Entry) → Among e entries → number_check (own e.key e.value) ≡ Ok tt
  leaf_total : leaf ≡ true → answer ≡ total + sum ◌+◌ 0 (numbers own entries)
  leaf_small : leaf ≡ true → total < 2 ^ 64 → answer < 2 ^ 64
  internal_total : leaf ≡ false → answer ≡ total
  distinct : leaf ≡ false → Apart seen (numbers own entries)

none_left : (leaf : Bool) (own : Own) (rest : List ℕ) (left : ℕ) (previous : List ℕ) (total : ℕ) (seen : List ℕ) (answer : ℕ) → left ≡ 0 → total ≡ answer → From leaf own rest left 0 previous total seen answer
unfolding flat_map sum
none_left leaf own rest left previous total seen answer z t = record {
  entries = [];
  many = refl;
  are = sym (ap (λ (n : ℕ). take n rest) z);
  increasing = tt;
  fit = λ e m. absurd (no_member m);
  obey = λ e m. absurd (no_member m);
  leaf_total = λ p. omega arith;
  leaf_small = λ p l. omega arith;
  internal_total = λ p. sym t;
  distinct = λ p. apart_none seen;
}

-- what the last check of a record says: a child's block is none of those before it, a leaf's total stays small
fresh_block : (mode : Validation) (total : ℕ) (seen : List ℕ) (n : ℕ) → join_check false total seen n mode ≡ Ok tt → is_one_of n seen ≡ false
unfolding join_check
fresh_block mode total seen n e = not-true (is_one_of n seen) (all_hold (join_demands false total seen n mode) e).0

small_total : (mode : Validation) (total : ℕ) (seen : List ℕ) (n : ℕ) → join_check true total seen n mode ≡ Ok tt → total + n < 2 ^ 64
unfolding join_check
small_total mode total seen n e = omega (arith, leb-true (total + n) largest (all_hold (join_demands true total seen n mode) e).0)

members : (f : Entry → Type 0) (e : Entry) (es : List Entry) → f e → ((x : Entry) → Among x es → f x) → (x : Entry) → Among x (e ∷ es) → f x
members f e es h k x (here p) = subst f (sym p) h
members f e es h k x (later m) = k x m

module _ (leaf : Bool) (mode : Validation) (own : Own) (rest : List ℕ) (left n : ℕ) (previous : List ℕ) (total : ℕ) (seen : List ℕ) (answer : ℕ) where
  one_more : Bytes rest → left ≤ length rest → Formed rest left previous mode → number_check (own_answer own rest) ≡ Ok tt → join_check leaf total seen (number_of (own_answer own rest)) mode ≡ Ok tt
      → From leaf own (drop (record_len rest) rest) (left - record_len rest) n (key_of rest) (next_total leaf total (number_of (own_answer own rest))) (next_blocks leaf seen (number_of (own_answer own rest))) answer
      → From leaf own rest left (suc n) previous total seen answer
  unfolding flat_map sum
  one_more b l f o j more =
      let inside = f.inside in
      let fits : record_len rest ≤ length rest = omega arith in
      let e : Entry = entry_of rest in
      let m : ℕ = number_of (own_answer own rest) in
      let cut : left ≡ record_len rest + (left - record_len rest) = omega arith in
      record {
        entries = e ∷ more.entries;
        many = ap suc more.many;
        are = ap₂ ◌++◌ (stored_front rest b fits) more.are ∙ sym (ap (λ (m : ℕ). take m rest) cut ∙ take-add (record_len rest) (left - record_len rest) rest);
        increasing = (f.above, more.increasing);
        fit = members Fit e more.entries (record {
          key_low = omega (arith, f.key_low, key_length_lem rest fits);
          key_high = omega (arith, f.key_high, key_length_lem rest fits);
          size = omega (arith, f.small, key_length_lem rest fits, value_length_lem rest fits);
          key_bytes = bytes_part rest 4 (key_len rest) b;
          value_bytes = bytes_part rest (4 + key_len rest) (value_len rest) b;
        }) more.fit;
        obey = members (λ (x : Entry). number_check (own x.key x.value) ≡ Ok tt) e more.entries o more.obey;
        leaf_total = λ p.
            let t : next_total leaf total m ≡ total + m = ap (λ (x : Bool). next_total x total m) p in
            omega (arith, more.leaf_total p);
        leaf_small = λ p t.
            let x : next_total leaf total m ≡ total + m = ap (λ (x : Bool). next_total x total m) p in
            let y : total + m < 2 ^ 64 = small_total mode total seen m (subst (λ (x : Bool). join_check x total seen m mode ≡ Ok tt) p j) in
            more.leaf_small p (omega arith);
        internal_total = λ p. more.internal_total p ∙ ap (λ (x : Bool). next_total x total m) p;
        distinct = λ p.
            apart_more seen m (numbers own more.entries) (fresh_block mode total seen m (subst (λ (x : Bool). join_check x total seen m mode ≡ Ok tt) p j))
            (subst (λ (s : List ℕ). Apart s (numbers own more.entries)) (ap (λ (x : Bool). next_blocks x seen m) p) (more.distinct p));
      }

walk_from : (leaf : Bool) (mode : Validation) (own : Own) (n : ℕ) (rest : List ℕ) (left : ℕ) (previous : List ℕ) (total : ℕ) (seen : List ℕ) (answer : ℕ)
    → Bytes rest → left ≤ length rest → walk leaf mode own n rest left previous total seen ≡ Ok answer → From leaf own rest left n previous total seen answer
unfolding walk
walk_from leaf mode own zero rest left previous total seen answer b l e =
    let a = answered (eqb left 0 otherwise violation_of mode reason.payload_has_unconsumed_bytes ∷ []) (Ok total) answer e in
    let v : Ok total ≡ Ok answer = a.1 in
    let t : total ≡ answer = cc in
    none_left leaf own rest left previous total seen answer (eqb-true left 0 a.0.0) t
walk_from leaf mode own (suc n) rest left previous total seen answer b l e =
    let size : ℕ = record_len rest in
    let m : ℕ = number_of (own_answer own rest) in
    let next-total : ℕ = next_total leaf total m in
    let next-seen : List ℕ = next_blocks leaf seen m in
    let a = answered (record_demands leaf mode own rest left previous total seen) (walk leaf mode own n (drop size rest) (left - size) (key_of rest) next-total next-seen) answer e in
    one_more leaf mode own rest left n previous total seen answer b l (formed rest left previous mode (passed_is (form_check rest left previous mode) a.0.0))
    (number_passed (own_answer own rest) a.0.1.0) (passed_is (join_check leaf total seen m mode) a.0.1.1.0)
    (walk_from leaf mode own n (drop size rest) (left - size) (key_of rest) next-total next-seen answer (bytes_drop rest size b) (rw length-drop (omega arith)) a.1)

pub walk_reads : (leaf : Bool) (mode : Validation) (own : Own) (rest : List ℕ) (payload_length count total : ℕ) → Bytes rest → records leaf mode own rest payload_length count ≡ Ok total → Walked leaf own rest payload_length count total
unfolding records
walk_reads leaf mode own rest payload_length count total b e =
    let a = answered (size_demands rest payload_length count mode) (walk leaf mode own count rest payload_length [] 0 []) total e in
    let l : payload_length ≤ length rest = leb-true payload_length (length rest) a.0.1.0 in
    let f = walk_from leaf mode own count rest payload_length [] 0 [] total b l a.1 in
    record {
      inside = l;
      read = record { entries = f.entries; many = f.many; are = f.are; increasing = f.increasing; fit = f.fit };
      obey = f.obey;
      leaf_total = λ p. omega (arith, f.leaf_total p);
      leaf_small = λ p. f.leaf_small p (omega arith);
      internal_total = f.internal_total;
      distinct = λ p. (f.distinct p).differ;
    }

-- ---- such a list is accepted

-- each record takes four bytes or more
laid_long : (es : List Entry) → 4 * length es ≤ length (end_to_end es)
unfolding flat_map
laid_long [] = omega arith
laid_long (e ∷ es) = omega (arith, laid_long es, stored_length e, length-append (stored e) (end_to_end es))

-- what is left of the payload starts with an entry
module _ (e : Entry) (es : List Entry) (rest : List ℕ) (left : ℕ) (l : left ≤ length rest) (are : end_to_end (e ∷ es) ≡ take left rest) (f : Fit e) where
  abbrev behind : List ℕ
  behind = end_to_end es ++ drop left rest

  front : rest ≡ stored e ++ behind
  unfolding flat_map
  front = sym (take-append-drop left rest) ∙ ap (λ (s : List ℕ). s ++ drop left rest) (sym are) ∙ append_assoc (stored e) (end_to_end es) (drop left rest)

  key_is : key_of rest ≡ e.key
  key_is = ap key_of front ∙ key_stored e behind f.size

  value_is : value_of rest ≡ e.value
  value_is = ap value_of front ∙ value_stored e behind f.size

  size_is : record_len rest ≡ length (stored e)
  size_is = omega (arith, ap key_len front, key_read e behind f.size, ap value_len front, value_read e behind f.size, stored_length e)

  -- all of it is left, and then the other entries
  left_is : left ≡ length (stored e) + length (end_to_end es)
  unfolding flat_map
  left_is = omega (arith, length-take left rest, ap length are, length-append (stored e) (end_to_end es))

  rest_are : end_to_end es ≡ take (left - record_len rest) (drop (record_len rest) rest)
  unfolding flat_map
  rest_are =
      let n : left - record_len rest ≡ length (end_to_end es) = omega (arith, left_is, size_is) in
      let d : drop (record_len rest) rest ≡ behind = ap₂ (λ (m : ℕ) (s : List ℕ). drop m s) size_is front ∙ drop-append_seam (stored e) behind in
      sym (ap₂ (λ (m : ℕ) (s : List ℕ). take m s) n d ∙ ahead)
    where
      ahead : take (length (end_to_end es)) behind ≡ end_to_end es
      ahead = take-append_seam (end_to_end es) (drop left rest)

  form_holds : (previous : List ℕ) (mode : Validation) → order previous e.key ≡ Less → form_check rest left previous mode ≡ Ok tt
  unfolding form_check
  form_holds previous mode o =
      let k : key_len rest ≡ length e.key = ap key_len front ∙ key_read e behind f.size in
      let v : value_len rest ≡ length e.value = ap value_len front ∙ value_read e behind f.size in
      all_pass (form_demands rest left previous mode) (
        le-leb 2 (length rest) (omega (arith, size_is, left_is)),
        (
          le-leb 4 (length rest) (omega (arith, size_is, left_is)),
          (
            and_both (leb 1 (key_len rest)) (leb (key_len rest) 1024) (le-leb 1 (key_len rest) (omega (arith, f.key_low))) (le-leb (key_len rest) 1024 (omega (arith, f.key_high))),
            (
              le-leb (record_len rest) 3072 (omega (arith, f.size)),
              (
                le-leb (record_len rest) left (omega (arith, size_is, left_is)),
                (
                  ap is_less (ap (order previous) key_is ∙ o),
                  tt,
                ),
              ),
            ),
          ),
        ),
      )

  -- the number of the record at the front is its entry's
  number_is : (own : Own) → own_answer own rest ≡ own e.key e.value
  number_is own = ap₂ own key_is value_is

join_leaf : (mode : Validation) (total : ℕ) (seen : List ℕ) (n : ℕ) → total + n < 2 ^ 64 → join_check true total seen n mode ≡ Ok tt
unfolding join_check
join_leaf mode total seen n h = all_pass (join_demands true total seen n mode) (le-leb (total + n) largest (omega arith), tt)

join_child : (mode : Validation) (total : ℕ) (seen : List ℕ) (n : ℕ) → is_one_of n seen ≡ false → join_check false total seen n mode ≡ Ok tt
unfolding join_check
join_child mode total seen n h = all_pass (join_demands false total seen n mode) (ap not h, tt)

-- what an accepted walk owes of the numbers from here on
record Owed (leaf : Bool) (own : Own) (es : List Entry) (total : ℕ) (seen : List ℕ) (answer : ℕ) : Type 0 where
  leaf_total : leaf ≡ true → answer ≡ total + sum ◌+◌ 0 (numbers own es)
  leaf_small : leaf ≡ true → answer < 2 ^ 64
  internal_total : leaf ≡ false → answer ≡ total
  distinct : leaf ≡ false → Apart seen (numbers own es)

owed_join : (leaf : Bool) (mode : Validation) (own : Own) (e : Entry) (es : List Entry) (total : ℕ) (seen : List ℕ) (answer : ℕ) → Owed leaf own (e ∷ es) total seen answer
    → join_check leaf total seen (number_of (own e.key e.value)) mode ≡ Ok tt
unfolding sum
owed_join true mode own e es total seen answer h = join_leaf mode total seen (number_of (own e.key e.value)) (omega (arith, h.leaf_total refl, h.leaf_small refl))
owed_join false mode own e es total seen answer h = join_child mode total seen (number_of (own e.key e.value)) ((h.distinct refl).new (number_of (own e.key e.value)) (here refl))

owed_on : (leaf : Bool) (own : Own) (e : Entry) (es : List Entry) (total : ℕ) (seen : List ℕ) (answer : ℕ) → Owed leaf own (e ∷ es) total seen answer
    → Owed leaf own es (next_total leaf total (number_of (own e.key e.value))) (next_blocks leaf seen (number_of (own e.key e.value))) answer
unfolding sum
owed_on true own e es total seen answer h = record {
  leaf_total = λ p. omega (arith, h.leaf_total refl);
  leaf_small = h.leaf_small;
  internal_total = λ p. absurd (true≢false p);
  distinct = λ p. absurd (true≢false p);
}
owed_on false own e es total seen answer h = record {
  leaf_total = λ p. absurd (false≢true p);
  leaf_small = h.leaf_small;
  internal_total = h.internal_total;
  distinct = λ p. apart_rest seen (number_of (own e.key e.value)) (numbers own es) (h.distinct refl);
}

owed_end : (leaf : Bool) (own : Own) (total : ℕ) (seen : List ℕ) (answer : ℕ) → Owed leaf own [] total seen answer → total ≡ answer
unfolding sum
owed_end true own total seen answer h = omega (arith, h.leaf_total refl)
owed_end false own total seen answer h = sym (h.internal_total refl)

walk_to : (leaf : Bool) (mode : Validation) (own : Own) (es : List Entry) (rest : List ℕ) (left : ℕ) (previous : List ℕ) (total : ℕ) (seen : List ℕ) (answer : ℕ)
    → left ≤ length rest → end_to_end es ≡ take left rest → Increasing previous es → ((e : Entry) → Among e es → Fit e) → ((e : Entry) → Among e es → number_check (own e.key e.value) ≡ Ok tt)
    → Owed leaf own es total seen answer → walk leaf mode own (length es) rest left previous total seen ≡ Ok answer
unfolding walk flat_map
walk_to leaf mode own [] rest left previous total seen answer l are inc fit obey owed =
    outcome_holds (eqb left 0 otherwise violation_of mode reason.payload_has_unconsumed_bytes ∷ []) (Ok total) (eq-eqb left 0 (omega (arith, length-take left rest, ap length are)), tt)
    ∙ ap Ok (owed_end leaf own total seen answer owed)
walk_to leaf mode own (e ∷ es) rest left previous total seen answer l are inc fit obey owed =
    let o : own_answer own rest ≡ own e.key e.value = number_is e es rest left l are (fit e (here refl)) own in
    let n : number_of (own_answer own rest) ≡ number_of (own e.key e.value) = ap number_of o in
    let f : form_check rest left previous mode ≡ Ok tt = form_holds e es rest left l are (fit e (here refl)) previous mode inc.0 in
    let j : join_check leaf total seen (number_of (own_answer own rest)) mode ≡ Ok tt = ap (λ (m : ℕ). join_check leaf total seen m mode) n ∙ owed_join leaf mode own e es total seen answer owed in
    let more : Owed leaf own es (next_total leaf total (number_of (own_answer own rest))) (next_blocks leaf seen (number_of (own_answer own rest))) answer =
    subst (λ (m : ℕ). Owed leaf own es (next_total leaf total m) (next_blocks leaf seen m) answer) (sym n) (owed_on leaf own e es total seen answer owed) in
    outcome_holds (record_demands leaf mode own rest left previous total seen)
    (walk leaf mode own (length es) (drop (record_len rest) rest) (left - record_len rest) (key_of rest) (next_total leaf total (number_of (own_answer own rest))) (next_blocks leaf seen (number_of (own_answer own rest))))
    (passed_test (form_check rest left previous mode) tt f, (number_test (own_answer own rest) (ap number_check o ∙ obey e (here refl)), (passed_test (join_check leaf total seen (number_of (own_answer own rest)) mode) tt j, tt)))
    ∙ walk_to leaf mode own es (drop (record_len rest) rest) (left - record_len rest) (key_of rest) (next_total leaf total (number_of (own_answer own rest))) (next_blocks leaf seen (number_of (own_answer own rest))) answer
    (rw length-drop (omega arith)) (rest_are e es rest left l are (fit e (here refl))) (subst (λ (k : List ℕ). Increasing k es) (sym (key_is e es rest left l are (fit e (here refl)))) inc.1)
    (λ x m. fit x (later m)) (λ x m. obey x (later m)) more

walk_accepts : (leaf : Bool) (mode : Validation) (own : Own) (rest : List ℕ) (payload_length count total : ℕ) → Walked leaf own rest payload_length count total → records leaf mode own rest payload_length count ≡ Ok total
walk_accepts leaf mode own rest payload_length count total w =
    let few : count ≤ payload_length / 4 = omega (arith, w.inside, w.read.many, laid_long w.read.entries, ap length w.read.are, length-take payload_length rest) in
    is_walk leaf mode own rest payload_length count few w.inside
    ∙ ap (λ (n : ℕ). walk leaf mode own n rest payload_length [] 0 []) (sym w.read.many)
    ∙ walk_to leaf mode own w.read.entries rest payload_length [] 0 [] total w.inside w.read.are w.read.increasing w.read.fit w.obey
    (record { leaf_total = λ p. omega (arith, w.leaf_total p); leaf_small = w.leaf_small; internal_total = w.internal_total; distinct = λ p. apart_start (numbers own w.read.entries) (w.distinct p) })

pub walked_exactly : WalkedExactly
walked_exactly leaf mode own rest payload_length count total b = (walk_reads leaf mode own rest payload_length count total b, walk_accepts leaf mode own rest payload_length count total)
