-- The descent, a page at a time.
use mathlib.Core.Path.{◌≡◌, sym, ap, ◌∙◌}
use mathlib.Core.List.{List, []}
use Prim.Native.Nat.{ℕ, suc, ◌+◌, ◌-◌, ◌≤◌, ◌<◌, min}
use native.Mathlib.Omega.{arith}
use Rattle.std.specs.Prelude.{Option, None, Result, Ok, Err}
use Rattle.error.specs.declared.Error.{Error}
use Rattle.volume.specs.declared.TreeRef.{TreeRef}
use Rattle.volume.specs.declared.TreeKind.{TreeKind}
use Rattle.page.specs.declared.Page.{Page}
use Rattle.root.specs.declared.Root.{Root}
use Rattle.search.specs.declared.Found.{Found}
use Rattle.search.specs.declared.Searches.{Searches}
use Rattle.search.specs.declared.descent.Visit.{Visit}
use Rattle.search.specs.declared.descent.Visit.TheVariants.{Ends, Goes}
use Rattle.search.specs.declared.descent.Way.{Way}
use Rattle.search.specs.Search.{Sought, Under, ends, goes, Descent, read_page, searched, counted, descend, sought, tree_of, more, search}
use Rattle.search.specs.Inside.{visited, visit_of, under_of}

module _ (s : Sought) (u : Under) (n : ℕ) where
  pub descend_over : n ≤ 8 → 8 ≤ n → (Ok None, 8) ≡ descend s (8 - n) u n
  unfolding descend
  descend_over l m =
      let e : n ≡ 8 = omega arith in
      rw e

  module _ (l : n < 8) (v : Result Visit Error) (is : visit_of s.image v ≡ visited s u (read_page s u)) where
    abbrev down : Under → ℕ → Descent
    down w m = descend s (8 - (n + 1)) w m

    step : counted s down u n (read_page s u) ≡ descend s (8 - n) u n
    unfolding descend
    step =
        let e : 8 - n ≡ suc (8 - (n + 1)) = omega arith in
        rw e

    pub descend_refused : (e : Error) → v ≡ Err e → (Err e, n) ≡ descend s (8 - n) u n
    descend_refused e f = go (read_page s u) (ap (visit_of s.image) (sym f) ∙ is) ∙ step
      where
        go : (r : Result Page Error) → Err e ≡ visited s u r → (Err e, n) ≡ counted s down u n r
        go (Ok p) q = absurd cc
        go (Err x) q = let z : e ≡ x = cc in ap (λ (y : Error). (Err y, n)) z

    pub descend_ends : (a : Result (Option Found) Error) → v ≡ Ok (Ends a) → (a, n + 1) ≡ descend s (8 - n) u n
    descend_ends a f = go (read_page s u) (ap (visit_of s.image) (sym f) ∙ is) ∙ step
      where
        go : (r : Result Page Error) → Ok (ends a) ≡ visited s u r → (a, n + 1) ≡ counted s down u n r
        go (Ok p) q = let z : ends a ≡ searched s u p = cc in rw (← z)
        go (Err x) q = absurd cc

    pub descend_goes : (w : Way) → v ≡ Ok (Goes w) → descend s (8 - (n + 1)) (under_of s.image w) (n + 1) ≡ descend s (8 - n) u n
    descend_goes w f = go (read_page s u) (ap (visit_of s.image) (sym f) ∙ is) ∙ step
      where
        go : (r : Result Page Error) → Ok (goes (under_of s.image w)) ≡ visited s u r → down (under_of s.image w) (n + 1) ≡ counted s down u n r
        go (Ok p) q = let z : goes (under_of s.image w) ≡ searched s u p = cc in rw (← z)
        go (Err x) q = absurd cc

-- the descent of a whole search, and the state after it
module _ (image : List ℕ) (root : Root) (kind : TreeKind) (key : List ℕ) (state : Searches) (t : TreeRef) (of : t ≡ tree_of root kind) (d : Descent)
    (is : d ≡ descend (sought image root kind key) 8 (record { reference = t; parent_generation = root.generation; expected_level = None; lower = []; upper = None }) 0)
    (n : ℕ) (count : n ≡ min (state.count + d.1) 18446744073709551615) where
  pub search_is : record { answer = d.0; state = record { count = n } } ≡ search image root kind key state
  unfolding search more
  search_is = rw (count, is, of)
