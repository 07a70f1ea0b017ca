-- For keys that strictly increase, the bisection and the walk both find the last record whose key is not above the sought one, whatever the scratch.
use mathlib.Core.Path.{◌≡◌, refl, sym, ◌∙◌, ap, ap₂}
use mathlib.Core.Bool.{Bool, true, false, cond, true≢false}
use mathlib.Core.List.{List}
use Prim.Native.Nat.{ℕ, zero, suc, ◌+◌, ◌-◌, ◌/◌, ◌<◌, ◌≤◌}
use native.Mathlib.Decide.{dec_lt}
use native.Mathlib.Omega.{arith}
use native.Mathlib.Numerals.{add-one}
use lib.Dec.{ltb}
use lib.ListN.{length, get_or, drop}
use borrow.Author.Tests.{lt-ltb, le-ltb, ltb-true, ltb-false}
use Rattle.octets.specs.Order.{order, is_greater}
use Rattle.lookup.specs.Floor.{next_offset, written, unbroken, above_at, bisect, before, walk_floor, floor_at}
use Rattle.lookup.specs.Sorted.{offset_of, key_at, Sorted, key_above, IsFloor, FloorIsTheLast, WalkingIsHalving}
use Rattle.lookup.specs.declared.Floor.{Floor}
use Rattle.std.specs.Prelude.{Option, Some, None}
use Rattle.octets.proofs.OrderLaws.{above_trans, greater_of}
use Rattle.lookup.proofs.RecordLaws.{above_is}

-- ---- the first index at which a test holds, where it holds from there on
pub record Boundary (up : ℕ → Bool) (count b : ℕ) : Type 0 where
  pub within : b ≤ count
  pub below : (k : ℕ) → k < b → up k ≡ false
  pub from : (k : ℕ) → b ≤ k → k < count → up k ≡ true

module _ (part key : List ℕ) (count : ℕ) (sorted : Sorted part count) where
  -- the record k is above the key
  abbrev up : ℕ → Bool
  up k = above_at part key (offset_of part k)

  up_is : (k : ℕ) → k < count → up k ≡ key_above part key k
  up_is k l = above_is (drop (offset_of part k) part) key (sorted.whole k l)

  up_more : (i j : ℕ) → i < j → j < count → up i ≡ true → up j ≡ true
  up_more i j l m e =
      up_is j m ∙ ap is_greater (above_trans (key_at part i) (key_at part j) key (sorted.increasing i j l m) (greater_of (order (key_at part i) key) (sym (up_is i (omega arith)) ∙ e)))

  up_from : (i j : ℕ) → i ≤ j → j < count → up i ≡ true → up j ≡ true
  up_from i j l m e = go (ltb i j) refl
    where
      go : (b : Bool) → ltb i j ≡ b → up j ≡ true
      go true t = up_more i j (ltb-true i j t) m e
      go false t =
          let h : j ≤ i = ltb-false i j t in
          let f : i ≡ j = omega arith in
          ap up (sym f) ∙ e

  up_below : (i j : ℕ) → i ≤ j → j < count → up j ≡ false → up i ≡ false
  up_below i j l m e = go (up i) refl
    where
      go : (b : Bool) → up i ≡ b → up i ≡ false
      go true t =
          let f : ◌≡◌ {A = Bool} true false = sym (up_from i j l m t) ∙ e in
          let z : ◌≡◌ {A = ℕ} 0 1 = cc in
          absurd (omega arith)
      go false t = t

  module _ (offs : List ℕ) (are : (k : ℕ) → k < count → get_or offs k 0 ≡ offset_of part k) where
    bisect_bound : (fuel low high : ℕ) → high - low ≤ fuel → low ≤ high → high ≤ count
        → ((k : ℕ) → k < low → up k ≡ false) → ((k : ℕ) → high ≤ k → k < count → up k ≡ true) → Boundary up count (bisect part key offs fuel low high)
    unfolding bisect
    bisect_bound zero low high f l m lo hi = record { within = omega arith; below = lo; from = λ k p q. hi k (omega arith) q }
    bisect_bound (suc fuel) low high f l m lo hi = go (ltb low high) refl (bisect_bound fuel low ((low + high) / 2)) (bisect_bound fuel ((low + high) / 2 + 1) high)
      where
        mid : ℕ
        mid = (low + high) / 2

        go : (b : Bool) → ltb low high ≡ b
            → (mid - low ≤ fuel → low ≤ mid → mid ≤ count → ((k : ℕ) → k < low → up k ≡ false) → ((k : ℕ) → mid ≤ k → k < count → up k ≡ true) → Boundary up count (bisect part key offs fuel low mid))
            → (high - (mid + 1) ≤ fuel → mid + 1 ≤ high → high ≤ count → ((k : ℕ) → k < mid + 1 → up k ≡ false) → ((k : ℕ) → high ≤ k → k < count → up k ≡ true) → Boundary up count (bisect part key offs fuel (mid + 1) high))
            → Boundary up count (cond b (cond (above_at part key (get_or offs mid 0)) (bisect part key offs fuel low mid) (bisect part key offs fuel (mid + 1) high)) low)
        go true t down more = rw (are mid (omega (arith, ltb-true low high t))) (there (up mid) refl)
          where
            there : (b : Bool) → up mid ≡ b → Boundary up count (cond b (bisect part key offs fuel low mid) (bisect part key offs fuel (mid + 1) high))
            there true e = down (omega (arith, ltb-true low high t)) (omega (arith, ltb-true low high t)) (omega (arith, ltb-true low high t)) lo (λ k p q. up_from mid k p q e)
            there false e = more (omega (arith, ltb-true low high t)) (omega (arith, ltb-true low high t)) m (λ k p. up_below k mid (omega arith) (omega (arith, ltb-true low high t)) e) hi
        go false t down more = record { within = omega arith; below = lo; from = λ k p q. hi k (omega (arith, ltb-false low high t)) q }

    -- the record before a boundary answers
    answers : (b : ℕ) → Boundary up count b → IsFloor part count key (before offs b)
    answers b h = go (ltb 0 b) refl
      where
        go : (t : Bool) → ltb 0 b ≡ t → IsFloor part count key (cond t (Some (record { index = b - 1; offset = get_or offs (b - 1) 0 })) None)
        go true t =
            let p : 0 < b = ltb-true 0 b t in
            let w = h.within in
            (omega arith, are (b - 1) (omega arith), sym (up_is (b - 1) (omega arith)) ∙ h.below (b - 1) (omega arith), λ j l m. sym (up_is j m) ∙ h.from j (omega arith) m)
        go false t = λ j m. sym (up_is j m) ∙ h.from j (omega (arith, ltb-false 0 b t)) m

  -- ---- the offsets that are written
  offset_next : (j : ℕ) → next_offset part (offset_of part j) ≡ offset_of part (j + 1)
  unfolding offset_of
  offset_next j = rw (add-one j)

  pub unbroken_all : (n j : ℕ) → j + n ≤ count → unbroken part n (offset_of part j) ≡ true
  unfolding unbroken
  unbroken_all zero j l = refl
  unbroken_all (suc n) j l = rw (sorted.whole j (omega arith), offset_next j) (unbroken_all n (j + 1) (omega arith))

  written_at : (n j k : ℕ) → j + n ≤ count → k < n → get_or (written part n (offset_of part j)) k 0 ≡ offset_of part (j + k)
  unfolding written
  written_at zero j k l m = absurd (omega arith)
  written_at (suc n) j zero l m = ap (offset_of part) (omega arith)
  written_at (suc n) j (suc k) l m =
      let e : j + 1 + k ≡ j + suc k = omega arith in
      rw (sorted.whole j (omega arith), offset_next j) (written_at n (j + 1) k (omega arith) (omega arith) ∙ ap (offset_of part) e)

  -- ---- the walk
  -- the record before index j
  abbrev last : ℕ → Option Floor
  last j = cond (ltb 0 j) (Some (record { index = j - 1; offset = offset_of part (j - 1) })) None

  last_next : (j : ℕ) → Some (record { index = j; offset = offset_of part j }) ≡ last (j + 1)
  last_next j =
      let e : j + 1 - 1 ≡ j = omega arith in
      rw (lt-ltb 0 (j + 1) (omega arith), e)

  walk_bound : (n j : ℕ) → j + n ≡ count → ((k : ℕ) → k < j → up k ≡ false) → (b : ℕ) × Boundary up count b × (walk_floor part key n (offset_of part j) j (last j) ≡ last b)
  unfolding walk_floor
  walk_bound zero j e lo = (j, record { within = omega arith; below = lo; from = λ k p q. absurd (omega arith) }, refl)
  walk_bound (suc n) j e lo = go (up j) refl (walk_bound n (j + 1) (omega arith))
    where
      go : (b : Bool) → up j ≡ b
          → (((k : ℕ) → k < j + 1 → up k ≡ false) → (b : ℕ) × Boundary up count b × (walk_floor part key n (offset_of part (j + 1)) (j + 1) (last (j + 1)) ≡ last b))
          → (c : ℕ) × Boundary up count c × (cond b (last j) (walk_floor part key n (next_offset part (offset_of part j)) (j + 1) (Some (record { index = j; offset = offset_of part j }))) ≡ last c)
      go true t more = (j, record { within = omega arith; below = lo; from = λ k p q. up_from j k p q t }, refl)
      go false t more =
          let r = more (λ k p. up_below k j (omega arith) (omega arith) t) in
          (r.0, r.1, rw (offset_next j, last_next j) r.2)

  -- ---- the lookup, whatever the scratch
  answers_last : (b : ℕ) → Boundary up count b → IsFloor part count key (last b)
  answers_last b h = go (ltb 0 b) refl
    where
      go : (t : Bool) → ltb 0 b ≡ t → IsFloor part count key (cond t (Some (record { index = b - 1; offset = offset_of part (b - 1) })) None)
      go true t =
          let p : 0 < b = ltb-true 0 b t in
          let w = h.within in
          (omega arith, refl, sym (up_is (b - 1) (omega arith)) ∙ h.below (b - 1) (omega arith), λ j l m. sym (up_is j m) ∙ h.from j (omega arith) m)
      go false t = λ j m. sym (up_is j m) ∙ h.from j (omega (arith, ltb-false 0 b t)) m

  pub walk_answers : IsFloor part count key (walk_floor part key count 0 0 None)
  unfolding offset_of
  walk_answers =
      let r = walk_bound count 0 (omega arith) (λ k p. absurd (omega arith)) in
      rw r.2 (answers_last r.0 r.1)

  pub offsets_are : (k : ℕ) → k < count → get_or (written part count 0) k 0 ≡ offset_of part k
  unfolding offset_of
  offsets_are k l =
      let e : 0 + k ≡ k = omega arith in
      written_at count 0 k (omega arith) l ∙ ap (offset_of part) e

  pub bisect_answers : IsFloor part count key (before (written part count 0) (bisect part key (written part count 0) count 0 count))
  bisect_answers = answers (written part count 0) offsets_are _ (bisect_bound (written part count 0) offsets_are count 0 count (omega arith) (omega arith) (omega arith) (λ k p. absurd (omega arith)) (λ k p q. absurd (omega arith)))

  -- the theorem: for a part of at most 65,535 bytes and a scratch of any length
  pub floor_answers : (entries : ℕ) → length part ≤ 65535 → IsFloor part count key (floor_at part count key entries)
  unfolding floor_at offset_of
  floor_answers entries small = rw (le-ltb 65535 (length part) small, unbroken_all count 0 (omega arith)) (go (ltb entries count))
    where
      go : (t : Bool) → IsFloor part count key (cond t (walk_floor part key count 0 0 None) (before (written part count 0) (bisect part key (written part count 0) count 0 count)))
      go true = walk_answers
      go false = bisect_answers

-- ---- an answer that a lookup owes is the only one
pub answers_same : (part : List ℕ) (count : ℕ) (key : List ℕ) (f g : Option Floor) → IsFloor part count key f → IsFloor part count key g → f ≡ g
answers_same part count key (Some f) (Some g) a b = go (dec_lt f.index g.index) (dec_lt g.index f.index)
  where
    go : Dec (f.index < g.index) → Dec (g.index < f.index) → Some f ≡ Some g
    go (yes l) m = absurd (true≢false (sym (a.3 g.index l b.0) ∙ b.2))
    go (no l) (yes m) = absurd (true≢false (sym (b.3 f.index m a.0) ∙ a.2))
    go (no l) (no m) =
        let e : f.index ≡ g.index = omega arith in
        ap₂ (λ i o. Some (record { index = i; offset = o })) e (a.1 ∙ ap (offset_of part) e ∙ sym b.1)
answers_same part count key (Some f) None a b = absurd (true≢false (sym (b f.index a.0) ∙ a.2))
answers_same part count key None (Some g) a b = absurd (true≢false (sym (a g.index b.0) ∙ b.2))
answers_same part count key None None a b = refl

pub floor_is_the_last : FloorIsTheLast
floor_is_the_last part key count sorted entries small = floor_answers part key count sorted entries small

pub walking_is_halving : WalkingIsHalving
unfolding floor_at
walking_is_halving part key count sorted m n = go (dec_lt 65535 (length part))
  where
    none : (e : ℕ) → 65535 < length part → floor_at part count key e ≡ None
    none e l = rw (lt-ltb 65535 (length part) l)

    go : Dec (65535 < length part) → floor_at part count key m ≡ floor_at part count key n
    go (yes l) = none m l ∙ sym (none n l)
    go (no l) = answers_same part count key _ _ (floor_answers part key count sorted m (omega arith)) (floor_answers part key count sorted n (omega arith))
