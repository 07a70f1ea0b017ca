-- Keys that strictly increase are in bounds where the first and the last are.
use mathlib.Core.Path.{◌≡◌, refl, sym, ap, ◌∙◌}
use mathlib.Core.Bool.{Bool, true, false, and-false}
use mathlib.Core.List.{List, [], ◌∷◌}
use Prim.Native.Nat.{ℕ, zero, suc, ◌-◌, ◌<◌}
use native.Mathlib.Decide.{dec_lt}
use native.Mathlib.Omega.{arith}
use lib.ListN.{length}
use Rattle.std.specs.Prelude.{Option, Some, None}
use Rattle.octets.specs.Bytes.{part}
use Rattle.octets.specs.Order.{order, is_greater}
use Rattle.octets.proofs.Below.{every_all, every_false}
use Rattle.octets.proofs.OrderLaws.{order_flip, order_mirror, order_trans, less_of}
use Rattle.std.specs.declared.cmp.Ordering.TheVariants.{Less}
use Rattle.lookup.specs.Sorted.{key_at, Sorted}
use Rattle.search.specs.declared.Found.{Found}
use Rattle.search.specs.Search.{below_upper, in_bounds, keys_in_bounds, place_of}
use Rattle.search.specs.Inside.{Stands, key_bytes}
use Rattle.search.proofs.Places.{key_stands}

-- nothing is below the empty key
pub empty_below : (key : List ℕ) → false ≡ is_greater (order [] key)
unfolding order
empty_below [] = refl
empty_below (x ∷ key) = refl

-- what is above a key is above what is below it
above_more : (a b bound : List ℕ) → order a b ≡ Less → is_greater (order bound b) ≡ true → is_greater (order bound a) ≡ true
above_more a b bound e f =
    ap is_greater (order_flip a bound (order_trans a b bound e (less_of (order b bound) (sym (order_mirror b bound) ∙ f))))

module _ (payload : List ℕ) (count : ℕ) (sorted : Sorted payload count) (some : 0 < count) (lower : List ℕ) (upper : Option (List ℕ)) where
  bounds_low : is_greater (order lower (key_at payload 0)) ≡ true → keys_in_bounds payload count lower upper ≡ false
  unfolding in_bounds
  bounds_low e = every_false _ count 0 some (rw e)

  bounds_high : below_upper upper (key_at payload (count - 1)) ≡ false → keys_in_bounds payload count lower upper ≡ false
  unfolding in_bounds
  bounds_high e = every_false _ count (count - 1) (omega arith) (rw (e, and-false))

  from_first : is_greater (order lower (key_at payload 0)) ≡ false → (k : ℕ) → k < count → is_greater (order lower (key_at payload k)) ≡ false
  from_first e zero l = e
  from_first e (suc k) l = go (is_greater (order lower (key_at payload (suc k)))) refl
    where
      go : (b : Bool) → is_greater (order lower (key_at payload (suc k))) ≡ b → b ≡ false
      go true f = sym (above_more (key_at payload 0) (key_at payload (suc k)) lower (sorted.increasing 0 (suc k) (omega arith) l) f) ∙ e
      go false f = refl

  to_last : below_upper upper (key_at payload (count - 1)) ≡ true → (k : ℕ) → k < count → below_upper upper (key_at payload k) ≡ true
  to_last e k l = go upper e (dec_lt k (count - 1))
    where
      go : (u : Option (List ℕ)) → below_upper u (key_at payload (count - 1)) ≡ true → Dec (k < count - 1) → below_upper u (key_at payload k) ≡ true
      go None f d = refl
      go (Some bound) f (yes m) = above_more (key_at payload k) (key_at payload (count - 1)) bound (sorted.increasing k (count - 1) m (omega arith)) f
      go (Some bound) f (no m) =
          let p : k ≡ count - 1 = omega arith in
          ap (λ (j : ℕ). is_greater (order bound (key_at payload j))) p ∙ f

  bounds_both : is_greater (order lower (key_at payload 0)) ≡ false → below_upper upper (key_at payload (count - 1)) ≡ true → keys_in_bounds payload count lower upper ≡ true
  unfolding in_bounds
  bounds_both e f = every_all _ count (λ k l. rw (from_first e k l, to_last f k l))

-- the same by the places of the first record and the last one
module _ (image payload : List ℕ) (base : ℕ) (offsets : List ℕ) (s : Stands image payload base offsets) (some : length offsets ≡ 0 → ⊥) (lower : List ℕ) (upper : Option (List ℕ))
    (f : Found) (at : f ≡ place_of payload base 0) (first : List ℕ) (bytes : first ≡ part image f.key_start (f.key_end - f.key_start))
    (b : Bool) (is : b ≡ is_greater (order lower first)) where
  low_is : is_greater (order lower (key_at payload 0)) ≡ b
  low_is = ap (λ (k : List ℕ). is_greater (order lower k)) (sym (bytes ∙ ap (key_bytes image) at ∙ key_stands image payload base (length offsets) s.bytes s.sorted 0 (omega arith))) ∙ sym is

  pub out_below : b ≡ true → false ≡ keys_in_bounds payload (length offsets) lower upper
  out_below e = sym (bounds_low payload (length offsets) s.sorted (omega arith) lower upper (low_is ∙ e))

  pub all_by_last : b ≡ false → (g : Found) → g ≡ place_of payload base (length offsets - 1) → (last : List ℕ) → last ≡ part image g.key_start (g.key_end - g.key_start)
      → (t : Bool) → t ≡ below_upper upper last → t ≡ keys_in_bounds payload (length offsets) lower upper
  all_by_last e g p last r t q = go t refl
    where
      last_is : below_upper upper (key_at payload (length offsets - 1)) ≡ t
      last_is = ap (below_upper upper) (sym (r ∙ ap (key_bytes image) p ∙ key_stands image payload base (length offsets) s.bytes s.sorted (length offsets - 1) (omega arith))) ∙ sym q

      go : (x : Bool) → t ≡ x → x ≡ keys_in_bounds payload (length offsets) lower upper
      go true z = sym (bounds_both payload (length offsets) s.sorted (omega arith) lower upper (low_is ∙ e) (last_is ∙ z))
      go false z = sym (bounds_high payload (length offsets) s.sorted (omega arith) lower upper (last_is ∙ z))
