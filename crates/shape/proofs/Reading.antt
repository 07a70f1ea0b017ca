-- Reading one part after the other.
use Prim.Native.Nat.{ℕ, suc, ◌+◌, ◌<◌, ◌≤◌}
use mathlib.Core.Path.{◌≡◌, refl, sym, ◌∙◌, ap}
use mathlib.Core.List.{List, [], ◌∷◌}
use lib.ListN.{length, get_or, drop, drop_of_length-le}
use lib.Seq.{drop-cons}
use native.Mathlib.Omega.{arith}
use borrow.Author.Tests.{ne_eqb}
use Rattle.std.specs.Prelude.{Ok, Err, Option, Some, None, slice_get, option_copied, ok_or}
use Rattle.std.specs.Borrow.{Bor}
use Rattle.std.proofs.lemmas.Option.{none-some, same_Some}
use Rattle.shape.specs.declared.Item.{Item}
use Rattle.shape.specs.declared.Fault.{Fault}
use Rattle.shape.specs.declared.Fault.TheVariants.{Short, Outside}
use Rattle.shape.specs.Call.{Front, read_item, reads}
use Rattle.shape.specs.Calls.{Taken, items_in, known_front, front_by}

here : (items : List Item) (i : ℕ) (d : Item) → i < length items → drop i items ≡ get_or items i d ∷ drop (i + 1) items
here items i d l = drop-cons items i d l ∙ ap (λ n. get_or items i d ∷ drop n items) (next i)
  where
    next : (i : ℕ) → suc i ≡ i + 1
    next i = omega arith

-- those behind one that is whole
pub items_on : {f : Front} {end : ℕ} (items : List Item) (i : ℕ) (d : Item) (input : List ℕ) (at : ℕ) → i < length items → f ≡ read_item (get_or items i d) input at → f ≡ Ok end → reads (drop i items) input at ≡ reads (drop (i + 1) items) input end
unfolding reads
items_on {f} {end} items i d input at l e w = rw (here items i d l, sym e, w)

-- one that isn't
pub items_off : {f : Front} {x : Fault} (items : List Item) (i : ℕ) (d : Item) (input : List ℕ) (at : ℕ) → i < length items → f ≡ read_item (get_or items i d) input at → f ≡ Err x → Err x ≡ reads (drop i items) input at
unfolding reads
items_off {f} {x} items i d input at l e w = rw (here items i d l, sym e, w)

-- none is left
pub items_end : (items : List Item) (i : ℕ) (input : List ℕ) (at : ℕ) → length items ≤ i → Ok at ≡ reads (drop i items) input at
unfolding reads
items_end items i input at l = rw (drop_of_length-le items l)

-- without a byte there is no call
pub no_call : (rows : List Taken) (input : List ℕ) → None ≡ slice_get input 0 → Err Short ≡ front_by rows input
unfolding front_by
no_call rows [] e = refl
no_call rows (x ∷ xs) e = absurd (none-some x e)

-- the first byte is the call's number
pub first_call : (rows : List Taken) (input : List ℕ) (call : ℕ) → Some call ≡ slice_get input 0 → front_by rows input ≡ known_front (items_in call rows) input
unfolding front_by
first_call rows [] call e = absurd (none-some call (sym e))
first_call rows (x ∷ xs) call e = rw (ne_eqb (length (x ∷ xs)) 0 (λ e. omega arith)) (ap (λ (n : ℕ). known_front (items_in n rows) (x ∷ xs)) (sym (same_Some call x e)))

-- a call without a row is unknown
pub unknown_call : (rows : List Taken) (got : Option (Bor (List Item))) (input : List ℕ) (call : ℕ) {x : Fault} → Some call ≡ slice_get input 0 → option_copied got ≡ items_in call rows → ok_or got Outside ≡ Err x → Err x ≡ front_by rows input
unknown_call rows (Some r) input call {x} f g h = absurd (let z : ◌≡◌ {A = ℕ} 0 1 = cc in omega arith)
unknown_call rows None input call {x} f g h =
    let same : x ≡ Outside = cc in
    rw (first_call rows input call f, sym g, same)

-- another is read
pub known_call : {got : Option (Bor (List Item))} {items : Bor (List Item)} {r : Front} (rows : List Taken) (input : List ℕ) (call : ℕ) → Some call ≡ slice_get input 0 → option_copied got ≡ items_in call rows → got ≡ Some items → r ≡ reads items.now input 1 → r ≡ front_by rows input
known_call {got} {items} {r} rows input call f g h e = rw (first_call rows input call f, sym g, h, e)
