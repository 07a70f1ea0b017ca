-- The sentences, from the relation on paths, and what stands at an answered record's places.
use mathlib.Core.Path.{◌≡◌, refl, sym, ap, subst, ◌∙◌}
use mathlib.Core.Logic.{◌⊎◌, inl, inr}
use Prim.Native.Nat.{ℕ, suc, ◌≤◌, ◌<◌}
use native.Mathlib.Omega.{arith}
use Rattle.std.specs.Prelude.{Some, None, Ok, Err}
use Rattle.std.specs.declared.cmp.Ordering.TheVariants.{Greater}
use Rattle.error.specs.declared.Error.{Error}
use Rattle.error.specs.Answer.{class_of, check_class}
use Rattle.octets.specs.Order.{order}
use Rattle.page.specs.declared.Page.{Page}
use Rattle.search.specs.declared.Found.{Found}
use Rattle.search.specs.declared.Searched.{Searched}
use Rattle.search.specs.declared.Searches.{Searches}
use Rattle.search.specs.Search.{Sought, Under, page_of, Descent, sought, top, more, answered, search}
use Rattle.paths.specs.Paths.{read_of, key_in, Path, Answers, beyond, refused, outside, found, not_in_leaf, below_first, Beyond}
use Rattle.paths.specs.Exactly.{OwnClasses, OnPath, HoldsKey, LacksKey, IsRefused, HasKeyOutside, CountIs, SentencesHold}
use Rattle.paths.proofs.Down.{search_answers}

-- ---- a search with that answer and count
module _ (state : Searches) (r : Searched) (d : Descent) (e : r ≡ answered state d) where
  pub answer_is : r.answer ≡ d.0
  answer_is = ap (λ (x : Searched). x.answer) e

  pub count_is : CountIs state d.1 r.state.count
  unfolding more
  count_is = ap (λ (x : Searched). x.state.count) e

-- of the search's own count, so of each number that is that count
with_count : (s : Sought) (u : Under) (r : Searched) (n : ℕ) {A : Type 0} (P : Under → ℕ → ℕ → Type 0) → (A → OnPath s u (λ v m. P v m r.state.count)) → A × (r.state.count ≡ n) → OnPath s u (λ v m. P v m n)
with_count s u r n P f q = subst (λ (k : ℕ). OnPath s u (λ v m. P v m k)) q.1 (f q.0)

module _ (own : OwnClasses) (s : Sought) (u : Under) (state : Searches) (r : Searched) where
  -- ---- from an answer to the page on the path

  abbrev Given : Descent → Type 0
  Given d = r ≡ answered state d

  stands : {P : Under → ℕ → Type 0} (v : Under) (m : ℕ) → Path s u v m → P v m → OnPath s u P
  stands v m w h = record { page = v; above = m; path = w; holds = h }

  page_class : (v : Under) (e : Error) → read_of s v ≡ Err e → class_of e ≤ 6
  page_class v e q = own v.reference s.uuid s.kind v.parent_generation v.expected_level s.blocks (page_of s v) e q

  to_record : {d : Descent} → Answers s u d → Given d → (f : Found) → d.0 ≡ Ok (Some f) → OnPath s u (λ v m. HoldsKey s f v × CountIs state (suc m) r.state.count)
  to_record (beyond w h) g f q = absurd cc
  to_record (refused x w h c) g f q = absurd cc
  to_record (outside p k w a i o) g f q = absurd cc
  to_record (found {v} {m} p k w h z i e) g f q = stands v m w ((p, h, z, (k, i, e, cc)), count_is state r _ g)
  to_record (not_in_leaf p w h z i) g f q = absurd cc
  to_record (below_first p w h i e) g f q = absurd cc

  to_none : {d : Descent} → Answers s u d → Given d → d.0 ≡ Ok None → OnPath s u (λ v m. LacksKey s v × CountIs state (suc m) r.state.count)
  to_none (beyond w h) g q = absurd cc
  to_none (refused x w h c) g q = absurd cc
  to_none (outside p k w a i o) g q = absurd cc
  to_none (found p k w h z i e) g q = absurd cc
  to_none (not_in_leaf {v} {m} p w h z i) g q = stands v m w ((p, h, inl (z, i)), count_is state r _ g)
  to_none (below_first {v} {m} p w h i e) g q = stands v m w ((p, h, inr (i, e)), count_is state r _ g)

  to_7 : {d : Descent} → Answers s u d → Given d → check_class d.0 ≡ 7 → OnPath s u (λ v m. Beyond s v × CountIs state m r.state.count)
  to_7 (beyond {v} {m} w h) g q = stands v m w (h, count_is state r _ g)
  to_7 (refused {v} x w h c) g q = absurd (omega (arith, page_class v x c))
  to_7 (outside p k w a i o) g q = absurd (omega arith)
  to_7 (found p k w h z i e) g q = absurd (omega arith)
  to_7 (not_in_leaf p w h z i) g q = absurd (omega arith)
  to_7 (below_first p w h i e) g q = absurd (omega arith)

  to_8 : {d : Descent} → Answers s u d → Given d → check_class d.0 ≡ 8 → OnPath s u (λ v m. HasKeyOutside s v × CountIs state (suc m) r.state.count)
  to_8 (beyond w h) g q = absurd (omega arith)
  to_8 (refused {v} x w h c) g q = absurd (omega (arith, page_class v x c))
  to_8 (outside {v} {m} p k w a i o) g q = stands v m w ((p, a, (k, i, o)), count_is state r _ g)
  to_8 (found p k w h z i e) g q = absurd (omega arith)
  to_8 (not_in_leaf p w h z i) g q = absurd (omega arith)
  to_8 (below_first p w h i e) g q = absurd (omega arith)

  to_refusal : {d : Descent} → Answers s u d → Given d → (e : Error) → class_of e ≤ 6 → d.0 ≡ Err e → OnPath s u (λ v m. IsRefused s e v × CountIs state m r.state.count)
  to_refusal (beyond w h) g e l q = let c : 7 ≡ class_of e = ap check_class q in absurd (omega arith)
  to_refusal (refused {v} {m} x w h c) g e l q = stands v m w ((h, c ∙ cc), count_is state r _ g)
  to_refusal (outside p k w a i o) g e l q = let c : 8 ≡ class_of e = ap check_class q in absurd (omega arith)
  to_refusal (found p k w h z i f) g e l q = absurd cc
  to_refusal (not_in_leaf p w h z i) g e l q = absurd cc
  to_refusal (below_first p w h i f) g e l q = absurd cc

  -- ---- and back
  module _ (back : (d : Descent) → Answers s u d → r ≡ answered state d) where
    answers : (d : Descent) → Answers s u d → r.answer ≡ d.0
    answers d a = answer_is state r d (back d a)

    counts : (d : Descent) (n : ℕ) → Answers s u d → CountIs state d.1 n → r.state.count ≡ n
    counts d n a c = count_is state r d (back d a) ∙ sym c

    of_record : (f : Found) (n : ℕ) → OnPath s u (λ v m. HoldsKey s f v × CountIs state (suc m) n) → (r.answer ≡ Ok (Some f)) × (r.state.count ≡ n)
    of_record f n w =
        let h = w.holds.0 in
        let a = found h.0 h.3.0 w.path h.1 h.2 h.3.1 h.3.2 in
        (answers _ a ∙ ap (λ (x : Found). Ok (Some x)) (sym h.3.3), counts _ n a w.holds.1)

    of_none : (n : ℕ) → OnPath s u (λ v m. LacksKey s v × CountIs state (suc m) n) → (r.answer ≡ Ok None) × (r.state.count ≡ n)
    of_none n w = go w.holds.0.2
      where
        p : Page
        p = w.holds.0.0

        given : Answers s u (Ok None, suc w.above) → (r.answer ≡ Ok None) × (r.state.count ≡ n)
        given a = (answers _ a, counts _ n a w.holds.1)

        go : (p.level ≡ 0) × ((k : ℕ) → k < p.count → key_in s w.page p k ≡ s.key → ⊥) ⊎ (1 ≤ p.level) × (order (key_in s w.page p 0) s.key ≡ Greater) → (r.answer ≡ Ok None) × (r.state.count ≡ n)
        go (inl h) = given (not_in_leaf p w.path w.holds.0.1 h.0 h.1)
        go (inr h) = given (below_first p w.path w.holds.0.1 h.0 h.1)

    of_7 : (n : ℕ) → OnPath s u (λ v m. Beyond s v × CountIs state m n) → (check_class r.answer ≡ 7) × (r.state.count ≡ n)
    of_7 n w = let a = beyond w.path w.holds.0 in (ap check_class (answers _ a), counts _ n a w.holds.1)

    of_8 : (n : ℕ) → OnPath s u (λ v m. HasKeyOutside s v × CountIs state (suc m) n) → (check_class r.answer ≡ 8) × (r.state.count ≡ n)
    of_8 n w =
        let h = w.holds.0 in
        let a = outside h.0 h.2.0 w.path h.1 h.2.1 h.2.2 in
        (ap check_class (answers _ a), counts _ n a w.holds.1)

    of_refusal : (e : Error) (n : ℕ) → OnPath s u (λ v m. IsRefused s e v × CountIs state m n) → (r.answer ≡ Err e) × (r.state.count ≡ n)
    of_refusal e n w = let a = refused e w.path w.holds.0.0 w.holds.0.1 in (answers _ a, counts _ n a w.holds.1)

-- where a page refuses with its own classes
pub sentences_hold : OwnClasses → SentencesHold
sentences_hold own image root kind key state bytes =
    let s : Sought = sought image root kind key in
    let u : Under = top root kind in
    let r : Searched = search image root kind key state in
    let g = (search_answers image root kind key state r bytes).0 refl in
    let a : Answers s u g.0 = g.1 in
    let e : r ≡ answered state g.0 = g.2 in
    let is : g.0.0 ≡ r.answer = sym (answer_is state r g.0 e) in
    let back : (d : Descent) → Answers s u d → r ≡ answered state d = λ d b. (search_answers image root kind key state (answered state d) bytes).1 (d, b, refl) in
    record {
      record_exactly = λ f n. (with_count s u r n (λ v m c. HoldsKey s f v × CountIs state (suc m) c) (λ q. to_record own s u state r a e f (is ∙ q)), of_record own s u state r back f n);
      none_exactly = λ n. (with_count s u r n (λ v m c. LacksKey s v × CountIs state (suc m) c) (λ q. to_none own s u state r a e (is ∙ q)), of_none own s u state r back n);
      class_7_exactly = λ n. (with_count s u r n (λ v m c. Beyond s v × CountIs state m c) (λ q. to_7 own s u state r a e (ap check_class is ∙ q)), of_7 own s u state r back n);
      class_8_exactly = λ n. (with_count s u r n (λ v m c. HasKeyOutside s v × CountIs state (suc m) c) (λ q. to_8 own s u state r a e (ap check_class is ∙ q)), of_8 own s u state r back n);
      refusal_exactly = λ x n l. (with_count s u r n (λ v m c. IsRefused s x v × CountIs state m c) (λ q. to_refusal own s u state r a e x l (is ∙ q)), of_refusal own s u state r back x n);
    }
