-- The descent answers what the relation on paths says, and nothing else does.
use mathlib.Core.Path.{◌≡◌, refl, sym, ap, ◌∙◌}
use mathlib.Core.Bool.{Bool, true, false}
use Prim.Native.Nat.{ℕ, zero, suc, ◌+◌, ◌*◌, ◌≤◌, ◌<◌}
use native.Mathlib.Omega.{arith}
use native.Mathlib.Decide.{dec_le}
use borrow.Author.Tests.{eqb-true, eqb-false}
use lib.Dec.{eqb}
use lib.ListN.{length}
use Rattle.std.specs.Prelude.{Option, Some, None, Result, Ok, Err}
use Rattle.error.specs.declared.Error.{Error}
use Rattle.error.specs.declared.Error.TheVariants.{Added}
use Rattle.error.specs.declared.Class.TheVariants.{BeyondImage, OutOfBounds}
use Rattle.octets.specs.Below.{every}
use Rattle.octets.specs.Bytes.{Bytes}
use Rattle.octets.specs.Order.{order}
use Rattle.octets.proofs.Below.{every_at}
use Rattle.octets.proofs.OrderLaws.{greater_of}
use Rattle.page.specs.declared.Page.{Page}
use Rattle.search.specs.declared.Found.{Found}
use Rattle.search.specs.Search.{Sought, Under, in_bounds, page_of, records_of, read_page, with_key, floor_of, ends, goes, below, searched, Descent, counted, descend, sought, top, answered, search}
use Rattle.search.proofs.Visits.{read_beyond, read_inside}
use Rattle.paths.specs.Paths.{read_of, key_in, Accepted, Sound, IsFloorIn, below_in, place_in, Path, here, through, Answers, beyond, refused, outside, found, not_in_leaf, below_first, SearchAnswers, EightPages}
use Rattle.paths.proofs.Bounds.{every_out, in_bounds_is, out_of_bounds_is}
use Rattle.paths.proofs.Records.{KeyAt, with_key_is, FloorAt, floor_is}
use Rattle.paths.proofs.Pages.{known, at_outside, at_found, at_not_in_leaf, at_floor, at_below_first, floor_in}

-- so many pages are enough below a page that is asked for at that level
abbrev pub Enough : ℕ → Option ℕ → Type 0
Enough pages None = 8 ≤ pages
Enough pages (Some level) = suc level ≤ pages

enough_some : (x : Option ℕ) (pages : ℕ) → Enough pages x → 1 ≤ pages
enough_some None pages h = omega arith
enough_some (Some level) pages h = omega arith

-- a level that is accepted is the expected one, and at most 7
enough_level : (x : Option ℕ) (level pages : ℕ) → level ≤ 7 → ((n : ℕ) → x ≡ Some n → level ≡ n) → Enough pages x → suc level ≤ pages
enough_level None level pages l e h = omega arith
enough_level (Some n) level pages l e h = omega (arith, e n refl)

module _ (s : Sought) (bytes : Bytes s.image) where
  pub enough_for : (u : Under) (p : Page) (pages : ℕ) → Accepted s u p → Enough pages u.expected_level → suc p.level ≤ pages
  enough_for u p pages a h = let k = known s bytes u p a in enough_level u.expected_level p.level pages k.level k.expected h

  pub enough_below : (u : Under) (p : Page) (k pages : ℕ) → Accepted s u p → 1 ≤ p.level → Enough (suc pages) u.expected_level → Enough pages (below_in s u p k).expected_level
  unfolding below
  enough_below u p k pages a l h = omega (arith, enough_for u p (suc pages) a h)

  -- ---- one page down

  descended : (pages : ℕ) (u : Under) (n : ℕ) (r : Result Page Error) → read_page s u ≡ r → descend s (suc pages) u n ≡ counted s (λ v m. descend s pages v m) u n r
  unfolding descend
  descended pages u n r e = ap (counted s (λ v m. descend s pages v m) u n) e

  one_more : (n : ℕ) → n + 1 ≡ suc n
  one_more n = omega arith

  down_ends : (pages : ℕ) (u : Under) (p : Page) (n : ℕ) (answer : Result (Option Found) Error) → Accepted s u p → searched s u p ≡ ends answer → descend s (suc pages) u n ≡ (answer, n + 1)
  down_ends pages u p n answer a e = descended pages u n (Ok p) (read_inside s u a.inside ∙ a.taken) ∙ rw e refl

  down_goes : (pages : ℕ) (u v : Under) (p : Page) (n : ℕ) → Accepted s u p → searched s u p ≡ goes v → descend s (suc pages) u n ≡ descend s pages v (n + 1)
  down_goes pages u v p n a e = descended pages u n (Ok p) (read_inside s u a.inside ∙ a.taken) ∙ rw e refl

  -- ---- along a path

  record Reached (pages : ℕ) (u : Under) (n : ℕ) (v : Under) (m : ℕ) : Type 0 where
    left : ℕ
    enough : Enough (suc left) v.expected_level
    same : descend s pages u n ≡ descend s (suc left) v (n + m)

  along : {u v : Under} {m : ℕ} → Path s u v m → (pages n : ℕ) → Enough pages u.expected_level → Reached pages u n v m
  along {u} here zero n e = absurd (omega (arith, enough_some u.expected_level 0 e))
  along {u} here (suc pages) n e = record { left = pages; enough = e; same = let z : n ≡ n + 0 = omega arith in ap (descend s (suc pages) u) z }
  along {u} (through p k h i f w) zero n e = absurd (omega (arith, enough_some u.expected_level 0 e))
  along {u} {v} (through {m = m} p k h i f w) (suc pages) n e =
      let r = along w pages (n + 1) (enough_below u p k pages h.accepted i e) in
      let z : n + 1 + m ≡ n + suc m = omega arith in
      record { left = r.left; enough = r.enough; same = down_goes pages u (below_in s u p k) p n h.accepted (at_floor s bytes u p k h i f) ∙ r.same ∙ ap (descend s (suc r.left) v) z }

  -- the page that is reached ends it
  finish : {u v : Under} {m : ℕ} {pages n : ℕ} (p : Page) (answer : Result (Option Found) Error) → Reached pages u n v m → Accepted s v p → searched s v p ≡ ends answer → descend s pages u n ≡ (answer, n + suc m)
  finish {u} {v} {m} {pages} {n} p answer r a e =
      let z : n + m + 1 ≡ n + suc m = omega arith in
      r.same ∙ down_ends r.left v p (n + m) answer a e ∙ ap (λ (x : ℕ). (answer, x)) z

  stop : {u v : Under} {m : ℕ} {pages n : ℕ} (e : Error) → Reached pages u n v m → read_page s v ≡ Err e → descend s pages u n ≡ (Err e, n + m)
  stop {u} {v} {m} {pages} {n} e r q = r.same ∙ descended r.left v (n + m) (Err e) q

  -- an answer of the relation is what the descent gives
  pub is_given : {u : Under} {d : Descent} → Answers s u d → (pages n : ℕ) → Enough pages u.expected_level → descend s pages u n ≡ (d.0, n + d.1)
  is_given (beyond {v} w h) pages n e = stop (Added BeyondImage) (along w pages n e) (read_beyond s v h)
  is_given (refused {v} x w h c) pages n e = stop x (along w pages n e) (read_inside s v h ∙ c)
  is_given (outside {v} p k w a i o) pages n e = finish p _ (along w pages n e) a (at_outside s bytes v p k i o)
  is_given (found {v} p k w h z i q) pages n e = finish p _ (along w pages n e) h.accepted (at_found s bytes v p k h z i q)
  is_given (not_in_leaf {v} p w h z i) pages n e = finish p _ (along w pages n e) h.accepted (at_not_in_leaf s bytes v p h z i)
  is_given (below_first {v} p w h i q) pages n e = finish p _ (along w pages n e) h.accepted (at_below_first s bytes v p h i q)

  -- ---- there is an answer

  extend : {u : Under} {p : Page} {k : ℕ} {d : Descent} → Sound s u p → 1 ≤ p.level → IsFloorIn s u p k → Answers s (below_in s u p k) d → Answers s u (d.0, suc d.1)
  extend {u} {p} {k} h i f (beyond w b) = beyond (through p k h i f w) b
  extend {u} {p} {k} h i f (refused x w b c) = refused x (through p k h i f w) b c
  extend {u} {p} {k} h i f (outside q j w a b c) = outside q j (through p k h i f w) a b c
  extend {u} {p} {k} h i f (found q j w a b c e) = found q j (through p k h i f w) a b c e
  extend {u} {p} {k} h i f (not_in_leaf q w a b c) = not_in_leaf q (through p k h i f w) a b c
  extend {u} {p} {k} h i f (below_first q w a b c) = below_first q (through p k h i f w) a b c

  abbrev SomeAnswer : Under → Type 0
  SomeAnswer u = (d : Descent) × Answers s u d

  of_leaf : (u : Under) (p : Page) → Sound s u p → p.level ≡ 0 → SomeAnswer u
  of_leaf u p h z = go (with_key (records_of (page_of s u) p) s.key p.count) (with_key_is (records_of (page_of s u) p) s.key p.count)
    where
      go : (o : Option ℕ) → KeyAt (records_of (page_of s u) p) s.key p.count o → SomeAnswer u
      go (Some k) i = ((Ok (Some (place_in s u p k)), 1), found p k here h z i.0 i.1)
      go None i = ((Ok None, 1), not_in_leaf p here h z i)

  of_internal : (u : Under) (p : Page) → Sound s u p → 1 ≤ p.level → ((k : ℕ) → SomeAnswer (below_in s u p k)) → SomeAnswer u
  of_internal u p h l rest = go (floor_of (records_of (page_of s u) p) s.key p.count) (floor_is (records_of (page_of s u) p) s.key p.count)
    where
      first : 0 < p.count
      first = omega (arith, (known s bytes u p h.accepted).children l)

      go : (o : Option ℕ) → FloorAt (records_of (page_of s u) p) s.key p.count o → SomeAnswer u
      go (Some k) i = let d = rest k in ((d.0.0, suc d.0.1), extend h l (floor_in s bytes u p k i) d.1)
      go None i = ((Ok None, 1), below_first p here h l (greater_of (order (key_in s u p 0) s.key) (i 0 first)))

  of_sound : (u : Under) (p : Page) → Sound s u p → (1 ≤ p.level → (k : ℕ) → SomeAnswer (below_in s u p k)) → SomeAnswer u
  of_sound u p h rest = go (eqb p.level 0) refl
    where
      go : (b : Bool) → eqb p.level 0 ≡ b → SomeAnswer u
      go true e = of_leaf u p h (eqb-true p.level 0 e)
      go false e =
          let z : p.level ≡ 0 → ⊥ = eqb-false p.level 0 e in
          let l : 1 ≤ p.level = omega arith in
          of_internal u p h l (rest l)

  of_accepted : (u : Under) (p : Page) → Accepted s u p → (1 ≤ p.level → (k : ℕ) → SomeAnswer (below_in s u p k)) → SomeAnswer u
  of_accepted u p a rest = go (every test p.count) refl
    where
      test : ℕ → Bool
      test k = in_bounds u.lower u.upper (key_in s u p k)

      go : (b : Bool) → every test p.count ≡ b → SomeAnswer u
      go true e = of_sound u p (record { accepted = a; bounded = λ k l. in_bounds_is u (key_in s u p k) (every_at test p.count e k l) }) rest
      go false e = let r = every_out test p.count e in ((Err (Added OutOfBounds), 1), outside p r.0 here a r.1 (out_of_bounds_is u (key_in s u p r.0) r.2))

  pub some_answer : (pages : ℕ) (u : Under) → Enough pages u.expected_level → SomeAnswer u
  some_answer zero u e = absurd (omega (arith, enough_some u.expected_level 0 e))
  some_answer (suc pages) u e = go (dec_le ((u.reference.block + 1) * 4096) (length s.image)) (λ v f. some_answer pages v f)
    where
      go : Dec ((u.reference.block + 1) * 4096 ≤ length s.image) → ((v : Under) → Enough pages v.expected_level → SomeAnswer v) → SomeAnswer u
      go (no h) rest = ((Err (Added BeyondImage), 0), beyond here (omega arith))
      go (yes h) rest = by (read_of s u) refl
        where
          by : (r : Result Page Error) → read_of s u ≡ r → SomeAnswer u
          by (Ok p) q = let a : Accepted s u p = record { inside = h; taken = q } in of_accepted u p a (λ l k. rest (below_in s u p k) (enough_below u p k pages a l e))
          by (Err x) q = ((Err x, 0), refused x here h q)

  -- ---- the number of pages

  path_short : {u v : Under} {m : ℕ} → Path s u v m → (pages : ℕ) → Enough pages u.expected_level → suc m ≤ pages
  path_short {u} here pages e = enough_some u.expected_level pages e
  path_short {u} (through p k h i f w) zero e = absurd (omega (arith, enough_some u.expected_level 0 e))
  path_short {u} (through p k h i f w) (suc pages) e = omega (arith, path_short w pages (enough_below u p k pages h.accepted i e))

  pub few_pages : {u : Under} {d : Descent} → Answers s u d → (pages : ℕ) → Enough pages u.expected_level → d.1 ≤ pages
  few_pages (beyond w h) pages e = omega (arith, path_short w pages e)
  few_pages (refused x w h c) pages e = omega (arith, path_short w pages e)
  few_pages (outside p k w a i o) pages e = path_short w pages e
  few_pages (found p k w h z i q) pages e = path_short w pages e
  few_pages (not_in_leaf p w h z i) pages e = path_short w pages e
  few_pages (below_first p w h i q) pages e = path_short w pages e

pub search_answers : SearchAnswers
unfolding search
search_answers image root kind key state r bytes =
    let s : Sought = sought image root kind key in
    let u : Under = top root kind in
    let g = some_answer s bytes 8 u (omega arith) in
    let is : (d : Descent) → Answers s u d → search image root kind key state ≡ answered state d =
    λ d a. ap (answered state) (is_given s bytes a 8 0 (omega arith) ∙ ap (λ (m : ℕ). (d.0, m)) (omega arith)) in
    (λ e. (g.0, g.1, sym e ∙ is g.0 g.1), λ h. is h.0 h.1 ∙ sym h.2)

pub eight_pages : EightPages
eight_pages image root kind key d bytes a = omega (arith, few_pages (sought image root kind key) bytes a 8 (omega arith))
