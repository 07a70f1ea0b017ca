-- What stands at the front of an input stands there whatever follows it.
use Prim.Native.Nat.{ℕ, ◌+◌, ◌≤◌}
use mathlib.Core.Path.{◌≡◌, refl, sym, ap, ◌∙◌}
use mathlib.Core.Bool.{Bool, true, false, cond}
use mathlib.Core.List.{List, [], ◌∷◌, ◌++◌}
use native.Mathlib.Omega.{arith}
use borrow.Author.Tests.{leb-true, le-leb, ne_eqb}
use lib.Dec.{leb}
use lib.ListN.{length, take, drop, length-append, length-drop}
use lib.Seq.{take-append-le, drop-append-le}
use Rattle.std.specs.Prelude.{Ok, Err, Option, Some, None}
use Rattle.octets.specs.Number.{little, field, u32_at}
use Rattle.shape.specs.declared.Fault.TheVariants.{Short, Outside}
use Rattle.shape.specs.declared.Item.{Item}
use Rattle.shape.specs.declared.Item.TheVariants.{Number, Text, Units}
use Rattle.shape.specs.Call.{Front, in_range, then_read, read_bytes, read_number, read_string, read_units, read_item, reads}
use Rattle.shape.specs.Calls.{items_in, known_front, front_by}
use Rattle.shape.specs.Within.{CallsStand}

-- the second answers as the first, unless that needs more bytes
Same : Front → Front → Type 0
Same f g = (f ≡ Err Short → ⊥) → g ≡ f

apart : (n : ℕ) → ◌≡◌ {A = Front} (Ok n) (Err Short) → ⊥
apart n p = let z : ◌≡◌ {A = ℕ} 0 1 = cc in omega arith

then_same : (f g : Front) (k l : ℕ → Front) → Same f g → ((m : ℕ) → f ≡ Ok m → Same (k m) (l m)) → Same (then_read f k) (then_read g l)
unfolding Same
then_same (Ok m) g k l s t = let e = s (λ p. apart m p) in λ p. rw e (t m refl p)
then_same (Err Short) g k l s t = λ p. absurd (p refl)
then_same (Err Outside) g k l s t = let e : g ≡ Err Outside = s (λ p. cc) in λ p. rw e

cond_same : (t : Bool) (f g h : Front) → Same f g → Same (cond t f h) (cond t g h)
unfolding Same
cond_same true f g h s = s
cond_same false f g h s = λ p. refl

module _ (input more : List ℕ) where
  longer : length input ≤ length (input ++ more)
  longer = omega (arith, length-append input more)

  field_same : (at width : ℕ) → at + width ≤ length input → field (input ++ more) at width ≡ field input at width
  unfolding field
  field_same at width h =
      ap little
      (ap (take width) (drop-append-le at input more (omega arith)) ∙ take-append-le width (drop at input) more (omega (arith, length-drop at input)))

  bytes_same : (at size : ℕ) → Same (read_bytes input at size) (read_bytes (input ++ more) at size)
  unfolding Same read_bytes
  bytes_same at size = go (leb (at + size) (length input)) refl
    where
      go : (t : Bool) → leb (at + size) (length input) ≡ t → Same (cond t (Ok (at + size)) (Err Short)) (cond (leb (at + size) (length (input ++ more))) (Ok (at + size)) (Err Short))
      go true e = λ p. rw (le-leb (at + size) (length (input ++ more)) (omega (arith, leb-true (at + size) (length input) e, longer)))
      go false e = λ p. absurd (p refl)

  bytes_in : (at size end : ℕ) → read_bytes input at size ≡ Ok end → at + size ≤ length input
  unfolding read_bytes
  bytes_in at size end p = go (leb (at + size) (length input)) refl p
    where
      go : (t : Bool) → leb (at + size) (length input) ≡ t → cond t (Ok (at + size)) (Err Short) ≡ Ok end → at + size ≤ length input
      go true e q = leb-true (at + size) (length input) e
      go false e q = absurd (apart end (sym q))

  first_ok : (f : Front) (k : ℕ → Front) (end : ℕ) → then_read f k ≡ Ok end → (m : ℕ) × (f ≡ Ok m)
  first_ok (Ok m) k end p = (m, refl)
  first_ok (Err e) k end p = let z : ◌≡◌ {A = ℕ} 0 1 = cc in absurd (omega arith)

  number_same : (least most at : ℕ) → Same (read_number least most input at) (read_number least most (input ++ more) at)
  unfolding read_number Same
  number_same least most at =
      then_same (read_bytes input at 8) (read_bytes (input ++ more) at 8) _ _ (bytes_same at 8) (λ m e p. rw (field_same at 8 (bytes_in at 8 m e)))

  string_same : (least most at : ℕ) → Same (read_string least most input at) (read_string least most (input ++ more) at)
  unfolding read_string
  string_same least most at =
      then_same (read_bytes input at 4) (read_bytes (input ++ more) at 4) _ _ (bytes_same at 4)
      (λ m e. rw (field_same at 4 (bytes_in at 4 m e)) (cond_same (in_range least most (u32_at input at)) _ _ (Err Outside) (bytes_same m (u32_at input at))))

  string_in : (least most at end : ℕ) → read_string least most input at ≡ Ok end → at + 4 ≤ length input
  unfolding read_string
  string_in least most at end p = let first = first_ok (read_bytes input at 4) _ end p in bytes_in at 4 first.0 first.1

  item_same : (i : Item) (at : ℕ) → Same (read_item i input at) (read_item i (input ++ more) at)
  unfolding read_units Same
  item_same (Number least most) at = number_same least most at
  item_same (Text least most) at = string_same least most at
  item_same (Units unit most) at =
      then_same (read_string 0 most input at) (read_string 0 most (input ++ more) at) _ _ (string_same 0 most at) (λ m e p. rw (field_same at 4 (string_in 0 most at m e)))

  reads_same : (items : List Item) (at : ℕ) → Same (reads items input at) (reads items (input ++ more) at)
  unfolding reads Same
  reads_same [] at = λ p. refl
  reads_same (i ∷ items) at = then_same (read_item i input at) (read_item i (input ++ more) at) _ _ (item_same i at) (λ m e. reads_same items m)

  known_same : (items : Option (List Item)) → Same (known_front items input) (known_front items (input ++ more))
  unfolding Same
  known_same None = λ p. refl
  known_same (Some items) = reads_same items 1

pub calls_stand : CallsStand
unfolding front_by Same
calls_stand rows [] more p = absurd (p refl)
calls_stand rows (x ∷ xs) more p =
    let e = ne_eqb (length (x ∷ xs)) 0 (λ e. omega arith) in
    let l = ne_eqb (length (x ∷ (xs ++ more))) 0 (λ e. omega arith) in
    rw (e, l) (known_same (x ∷ xs) more (items_in x rows) (λ q. p (rw e q)))
