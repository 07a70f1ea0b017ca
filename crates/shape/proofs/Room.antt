-- How many bytes a call takes at most.
use Prim.Native.Nat.{ℕ, ◌+◌, ◌%◌, ◌≤◌, ◌<◌}
use mathlib.Core.Path.{◌≡◌, refl, sym, ap}
use mathlib.Core.Bool.{Bool, true, false, cond}
use mathlib.Core.List.{List, [], ◌∷◌}
use native.Mathlib.Omega.{arith}
use borrow.Author.Tests.{leb-true, leb-false, ne_eqb}
use lib.Dec.{leb, eqb}
use lib.ListN.{length}
use Rattle.std.specs.Prelude.{Ok, Err, Option, Some, None, ◌&&◌}
use Rattle.octets.specs.Number.{u32_at, u64_at}
use Rattle.shape.specs.declared.Fault.{Fault}
use Rattle.shape.specs.declared.Fault.TheVariants.{Short, Outside}
use Rattle.shape.specs.declared.Item.{Item}
use Rattle.shape.specs.declared.Item.TheVariants.{Number, Text, Units}
use Rattle.shape.specs.Call.{Front, in_range, then_read, read_bytes, read_number, read_string, read_units, read_item, reads}
use Rattle.shape.specs.Calls.{Taken, items_in, known_front, front_by, calls}
use Rattle.shape.specs.Added.{added}
use Rattle.shape.specs.Within.{room_of, room, all_fit, CallsFit}

-- what is read from a place on takes so many bytes at most, whole or not
record Takes (at most size : ℕ) (f : Front) : Type 0 where
  whole : (m : ℕ) → f ≡ Ok m → m ≤ at + most
  short : f ≡ Err Short → size < at + most

no_fault : (n : ℕ) (e : Fault) → ◌≡◌ {A = Front} (Ok n) (Err e) → ⊥
no_fault n e p = let z : ◌≡◌ {A = ℕ} 0 1 = cc in omega arith

same_end : (m n : ℕ) → ◌≡◌ {A = Front} (Ok m) (Ok n) → m ≡ n
same_end m n p = cc

not_short : ◌≡◌ {A = Front} (Err Outside) (Err Short) → ⊥
not_short p = cc

more : {at most size : ℕ} {f : Front} (v : ℕ) → most ≤ v → Takes at most size f → Takes at v size f
more v l t = record { whole = λ m e. omega (arith, t.whole m e); short = λ e. omega (arith, t.short e) }

stays : (m size : ℕ) → Takes m 0 size (Ok m)
stays m size = record { whole = λ n e. omega (arith, same_end m n e); short = λ e. absurd (no_fault m Short e) }

outside : (at most size : ℕ) → Takes at most size (Err Outside)
outside at most size = record { whole = λ n e. absurd (no_fault n Outside (sym e)); short = λ e. absurd (not_short e) }

then_takes : (f : Front) (k : ℕ → Front) (at v w size : ℕ) → Takes at v size f → ((m : ℕ) → f ≡ Ok m → Takes m w size (k m)) → Takes at (v + w) size (then_read f k)
then_takes (Ok m) k at v w size s t =
    let first = s.whole m refl in
    let second = t m refl in
    record { whole = λ n e. omega (arith, second.whole n e); short = λ e. omega (arith, second.short e) }
then_takes (Err Short) k at v w size s t = let first = s.short refl in record { whole = λ n e. absurd (no_fault n Short (sym e)); short = λ e. omega arith }
then_takes (Err Outside) k at v w size s t = outside at (v + w) size

if_allowed : (t : Bool) (f : Front) (at most size : ℕ) → (t ≡ true → Takes at most size f) → Takes at most size (cond t f (Err Outside))
if_allowed true f at most size s = s refl
if_allowed false f at most size s = outside at most size

below_most : (t : Bool) (value most : ℕ) → (t && leb value most) ≡ true → value ≤ most
below_most true value most e = leb-true value most e
below_most false value most e = cc

module _ (input : List ℕ) where
  bytes_take : (at size : ℕ) → Takes at size (length input) (read_bytes input at size)
  unfolding read_bytes
  bytes_take at size = go (leb (at + size) (length input)) refl
    where
      go : (t : Bool) → leb (at + size) (length input) ≡ t → Takes at size (length input) (cond t (Ok (at + size)) (Err Short))
      go true e = record { whole = λ m p. omega (arith, same_end (at + size) m p); short = λ p. absurd (no_fault (at + size) Short p) }
      go false e = record { whole = λ m p. absurd (no_fault m Short (sym p)); short = λ p. leb-false (at + size) (length input) e }

  number_takes : (least most at : ℕ) → Takes at 8 (length input) (read_number least most input at)
  unfolding read_number
  number_takes least most at =
      more 8 (omega arith)
      (then_takes (read_bytes input at 8) _ at 8 0 (length input) (bytes_take at 8) (λ m e. if_allowed (in_range least most (u64_at input at)) (Ok m) m 0 (length input) (λ p. stays m (length input))))

  string_takes : (least most at : ℕ) → Takes at (4 + most) (length input) (read_string least most input at)
  unfolding read_string
  string_takes least most at =
      then_takes (read_bytes input at 4) _ at 4 most (length input) (bytes_take at 4)
      (λ m e. if_allowed (in_range least most (u32_at input at)) _ m most (length input) (λ p. more most (below_most (leb least (u32_at input at)) (u32_at input at) most p) (bytes_take m (u32_at input at))))

  item_takes : (i : Item) (at : ℕ) → Takes at (room_of i) (length input) (read_item i input at)
  unfolding read_units
  item_takes (Number least most) at = number_takes least most at
  item_takes (Text least most) at = string_takes least most at
  item_takes (Units unit most) at =
      more (4 + most) (omega arith)
      (then_takes (read_string 0 most input at) _ at (4 + most) 0 (length input) (string_takes 0 most at) (λ m e. if_allowed (eqb (u32_at input at % unit) 0) (Ok m) m 0 (length input) (λ p. stays m (length input))))

  reads_take : (items : List Item) (at : ℕ) → Takes at (room items) (length input) (reads items input at)
  unfolding reads
  reads_take [] at = stays at (length input)
  reads_take (i ∷ items) at = then_takes (read_item i input at) _ at (room_of i) (room items) (length input) (item_takes i at) (λ m e. reads_take items m)

fitting : (rows : List Taken) (call : ℕ) (items : List Item) → all_fit rows ≡ true → items_in call rows ≡ Some items → room items ≤ 262142
unfolding items_in
fitting [] call items f e = let z : ◌≡◌ {A = ℕ} 0 1 = cc in absurd (omega arith)
fitting (row ∷ rows) call items f e = go (eqb call row.number) (leb (room row.items) 262142) refl (fitting rows call items) f e
  where
    go : (t u : Bool) → leb (room row.items) 262142 ≡ u → (all_fit rows ≡ true → items_in call rows ≡ Some items → room items ≤ 262142) → (u && all_fit rows) ≡ true → cond t (Some row.items) (items_in call rows) ≡ Some items
        → room items ≤ 262142
    go true true i later f e = let same : row.items ≡ items = cc in omega (arith, ap room same, leb-true (room row.items) 262142 i)
    go false true i later f e = later f e
    go t false i later f e = cc

known_fits : (items : Option (List Item)) (input : List ℕ) → ((l : List Item) → items ≡ Some l → room l ≤ 262142) → known_front items input ≡ Err Short → length input < 262144
known_fits None input h e = absurd (not_short e)
known_fits (Some items) input h e = let t = (reads_take input items 1).short e in omega (arith, h items refl)

pub calls_fit : CallsFit
unfolding front_by
calls_fit rows [] f e = omega arith
calls_fit rows (x ∷ xs) f e =
    let n = ne_eqb (length (x ∷ xs)) 0 (λ p. omega arith) in
    known_fits (items_in x rows) (x ∷ xs) (λ items i. fitting rows x items f i) (rw n at e)

pub probe_fits : all_fit calls ≡ true
unfolding calls
probe_fits = refl

pub added_fits : all_fit added ≡ true
unfolding added
added_fits = refl
