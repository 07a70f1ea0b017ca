-- The tests of keys, and what they say.
use mathlib.Core.Path.{◌≡◌, refl, sym, ap, ap₂, ◌∙◌}
use mathlib.Core.Bool.{Bool, true, false, not, ◌&&◌, true≢false}
use mathlib.Core.List.{List, [], ◌∷◌}
use Prim.Native.Nat.{ℕ, zero, suc, ◌≤◌, ◌<◌}
use native.Mathlib.Omega.{arith}
use borrow.Author.Tests.{ltb-false}
use lib.Dec.{ltb}
use Rattle.std.specs.Prelude.{Option, Some, None}
use Rattle.std.specs.declared.cmp.Ordering.{Ordering}
use Rattle.std.specs.declared.cmp.Ordering.TheVariants.{Less, Equal, Greater}
use Rattle.std.proofs.lemmas.Bool.{false_from_ne_true, not_from_false}
use Rattle.error.proofs.Tests.{and_left, and_right, and_both}
use Rattle.octets.specs.Below.{every}
use Rattle.octets.specs.Order.{order, is_greater}
use Rattle.octets.proofs.OrderLaws.{order_flip, above_trans, order_mirror, less_of, greater_of}
use Rattle.search.specs.Search.{Under, below_upper, in_bounds}
use Rattle.paths.specs.Paths.{NotAbove, BelowUpper, InBounds}

-- a test that doesn't hold everywhere fails somewhere
pub every_out : (f : ℕ → Bool) (n : ℕ) → every f n ≡ false → (k : ℕ) × (k < n) × (f k ≡ false)
every_out f zero e = absurd (true≢false e)
every_out f (suc n) e = go (f n) refl e (every_out f n)
  where
    go : (b : Bool) → f n ≡ b → (b && every f n) ≡ false → (every f n ≡ false → (k : ℕ) × (k < n) × (f k ≡ false)) → (k : ℕ) × (k < suc n) × (f k ≡ false)
    go true p q rest = let r = rest q in (r.0, omega (arith, r.1), r.2)
    go false p q rest = (n, omega arith, p)

-- ---- one key above another

pub not_above_is : (a b : List ℕ) → is_greater (order a b) ≡ false → NotAbove a b
not_above_is a b e q = true≢false (sym (ap is_greater q) ∙ e)

pub is_not_above : (a b : List ℕ) → NotAbove a b → is_greater (order a b) ≡ false
is_not_above a b h = false_from_ne_true (is_greater (order a b)) (λ e. h (greater_of (order a b) e))

pub is_above : (a b : List ℕ) → order a b ≡ Greater → is_greater (order a b) ≡ true
is_above a b e = ap is_greater e

-- the same of two keys in the other order
pub less_above : (a b : List ℕ) → order a b ≡ Greater → order b a ≡ Less
less_above a b e = less_of (order b a) (sym (order_mirror b a) ∙ ap is_greater e)

-- keys that are neither below nor above are the same
pub equal_is : (a b : List ℕ) → order a b ≡ Equal → a ≡ b
unfolding order
equal_is [] [] e = refl
equal_is [] (y ∷ b) e = cc
equal_is (x ∷ a) [] e = cc
equal_is (x ∷ a) (y ∷ b) e = go (ltb x y) refl (ltb y x) refl (equal_is a b)
  where
    go : (p : Bool) → ltb x y ≡ p → (q : Bool) → ltb y x ≡ q → (order a b ≡ Equal → a ≡ b) → x ∷ a ≡ y ∷ b
    go true p q r rest = let f : Less ≡ Equal = rw p at e in cc
    go false p true r rest = let f : Greater ≡ Equal = rw (p, r) at e in cc
    go false p false r rest =
        let l : y ≤ x = ltb-false x y p in
        let m : x ≤ y = ltb-false y x r in
        let z : x ≡ y = omega arith in
        let f : order a b ≡ Equal = rw (p, r) at e in
        ap₂ ◌∷◌ z (rest f)

-- what isn't above b isn't above what b isn't above
pub low_trans : (a b c : List ℕ) → NotAbove a b → NotAbove b c → NotAbove a c
low_trans a b c p q e = go (order a b) refl
  where
    go : (x : Ordering) → order a b ≡ x → ⊥
    go Less f = q (above_trans a b c f e)
    go Equal f = q (ap (λ (z : List ℕ). order z c) (sym (equal_is a b f)) ∙ e)
    go Greater f = p f

-- ---- bounds

pub below_is : (upper : Option (List ℕ)) (key : List ℕ) → below_upper upper key ≡ true → BelowUpper upper key
below_is None key e = tt
below_is (Some bound) key e = less_above bound key (greater_of (order bound key) e)

pub is_below : (upper : Option (List ℕ)) (key : List ℕ) → BelowUpper upper key → below_upper upper key ≡ true
is_below None key h = refl
is_below (Some bound) key h = ap is_greater (order_flip key bound h)

pub in_bounds_is : (u : Under) (key : List ℕ) → in_bounds u.lower u.upper key ≡ true → InBounds u key
unfolding in_bounds
in_bounds_is u key e = (
  not_above_is u.lower key (not_true (is_greater (order u.lower key)) (and_left (not (is_greater (order u.lower key))) (below_upper u.upper key) e)),
  below_is u.upper key (and_right (not (is_greater (order u.lower key))) (below_upper u.upper key) e),
)
  where
    not_true : (b : Bool) → not b ≡ true → b ≡ false
    not_true true q = sym q
    not_true false q = refl

pub is_in_bounds : (u : Under) (key : List ℕ) → InBounds u key → in_bounds u.lower u.upper key ≡ true
unfolding in_bounds
is_in_bounds u key h = and_both (not (is_greater (order u.lower key))) (below_upper u.upper key) (not_from_false (is_greater (order u.lower key)) (is_not_above u.lower key h.0)) (is_below u.upper key h.1)

pub out_of_bounds_is : (u : Under) (key : List ℕ) → in_bounds u.lower u.upper key ≡ false → InBounds u key → ⊥
out_of_bounds_is u key e h = true≢false (sym (is_in_bounds u key h) ∙ e)

pub is_out_of_bounds : (u : Under) (key : List ℕ) → (InBounds u key → ⊥) → in_bounds u.lower u.upper key ≡ false
is_out_of_bounds u key h = false_from_ne_true (in_bounds u.lower u.upper key) (λ e. h (in_bounds_is u key e))
