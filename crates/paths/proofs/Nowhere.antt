-- None means nowhere: bounds go up a way, so a way to a leaf with the key is the path.
use mathlib.Core.Path.{◌≡◌, refl, sym, ap, ◌∙◌, subst}
use Prim.Native.Nat.{ℕ, suc, ◌+◌, ◌<◌}
use native.Mathlib.Omega.{arith}
use native.Mathlib.Decide.{dec_lt}
use Rattle.std.specs.Prelude.{Some, Ok}
use Rattle.std.specs.declared.cmp.Ordering.TheVariants.{Greater}
use Rattle.octets.specs.Bytes.{Bytes}
use Rattle.octets.specs.Order.{order}
use Rattle.octets.proofs.OrderLaws.{order_flip, above_trans}
use Rattle.page.specs.declared.Page.{Page}
use Rattle.search.specs.declared.Searched.{Searched}
use Rattle.search.specs.Search.{Sought, Under, sought, answered}
use Rattle.paths.specs.Paths.{key_in, InBounds, Sound, IsFloorIn, below_in, place_in, Path, AnyWay, found, NoneMeansNowhere, NoneIsNowhere}
use Rattle.paths.specs.Paths as paths
use Rattle.paths.proofs.Pages.{known}
use Rattle.paths.proofs.Steps.{bounds_below}
use Rattle.paths.proofs.Down.{search_answers}

module _ (s : Sought) (bytes : Bytes s.image) where
  -- a record below which the key is in bounds is the floor record
  is_floor : (u : Under) (p : Page) (k : ℕ) → Sound s u p → k < p.count → InBounds (below_in s u p k) s.key → IsFloorIn s u p k
  is_floor u p k h l e = record { there = l; not_above = ((bounds_below s bytes u p k h l s.key).0 e).0; later = λ j m n. go j m n (dec_lt (k + 1) j) }
    where
      next : k + 1 < p.count → order (key_in s u p (k + 1)) s.key ≡ Greater
      next m = order_flip s.key (key_in s u p (k + 1)) (((bounds_below s bytes u p k h l s.key).0 e).1 m)

      go : (j : ℕ) → k < j → j < p.count → Dec (k + 1 < j) → order (key_in s u p j) s.key ≡ Greater
      go j m n (yes i) = above_trans (key_in s u p (k + 1)) (key_in s u p j) s.key ((known s bytes u p h.accepted).sorted.increasing (k + 1) j i n) (next (omega arith))
      go j m n (no i) = let z : k + 1 ≡ j = omega arith in ap (λ (i : ℕ). order (key_in s u p i) s.key) (sym z) ∙ next (omega arith)

  -- the way is the path
  way_path : {u v : Under} {m : ℕ} → AnyWay s u v m → InBounds v s.key → Path s u v m × InBounds u s.key
  way_path paths.AnyWay.here e = (paths.Path.here, e)
  way_path {u} (paths.AnyWay.through p k h i l w) e =
      let r = way_path w e in
      (paths.Path.through p k h i (is_floor u p k h l r.1) r.0, ((bounds_below s bytes u p k h l s.key).0 r.1).2)

pub none_means_nowhere : NoneMeansNowhere
none_means_nowhere image root kind key state v m p k bytes w h z l e =
    let s : Sought = sought image root kind key in
    let inside : InBounds v key = subst (InBounds v) e (h.bounded k l) in
    let path = way_path s bytes w inside in
    (search_answers image root kind key state (answered state (Ok (Some (place_in s v p k)), suc m)) bytes).1 (_, found p k path.0 h z l e, refl)

pub none_is_nowhere : NoneIsNowhere
none_is_nowhere image root kind key state v m p k bytes none w h z l e =
    none (place_in (sought image root kind key) v p k) (ap (λ (r : Searched). r.answer) (none_means_nowhere image root kind key state v m p k bytes w h z l e))
