-- A whole call lies within the input.
use Prim.Native.Nat.{ℕ, ◌+◌, ◌%◌, ◌≤◌, ◌<◌}
use mathlib.Core.Path.{◌≡◌, refl}
use mathlib.Core.Bool.{Bool, true, false, cond}
use mathlib.Core.List.{List, [], ◌∷◌}
use native.Mathlib.Omega.{arith}
use lib.Dec.{leb, eqb}
use lib.ListN.{length}
use borrow.Author.Tests.{leb-true, eqb-false}
use Rattle.octets.specs.Bytes.{byte_at}
use Rattle.octets.specs.Number.{u32_at, u64_at}
use Rattle.std.specs.Prelude.{Ok, Err, Option, Some, None}
use Rattle.shape.specs.declared.Fault.{Fault}
use Rattle.shape.specs.declared.Fault.TheVariants.{Short, Outside}
use Rattle.shape.specs.declared.Item.{Item}
use Rattle.shape.specs.declared.Item.TheVariants.{Number, Text, Units}
use Rattle.shape.specs.Call.{Front, in_range, then_read, read_bytes, read_number, read_string, read_units, read_item, reads}
use Rattle.shape.specs.Calls.{items_in, known_front, front_by}
use Rattle.shape.specs.Within.{CallsWithin}

-- a place lies behind another, and within so many bytes
record Behind (at size end : ℕ) : Type 0 where
  on : at ≤ end
  in_it : end ≤ size

apart : (e : Fault) (n : ℕ) → ◌≡◌ {A = Front} (Err e) (Ok n) → ⊥
apart e n p = let z : ◌≡◌ {A = ℕ} 0 1 = cc in omega arith

same_end : (m n : ℕ) → ◌≡◌ {A = Front} (Ok m) (Ok n) → m ≡ n
same_end m n p = cc

-- what is read behind a whole part
step : (f : Front) (g : ℕ → Front) (at size end : ℕ) → ((m : ℕ) → f ≡ Ok m → Behind at size m) → ((m : ℕ) → m ≤ size → g m ≡ Ok end → Behind m size end) → then_read f g ≡ Ok end → Behind at size end
step (Ok m) g at size end first second p =
    let a = first m refl in
    let b = second m a.in_it p in
    record { on = omega (arith, a.on, b.on); in_it = b.in_it }
step (Err e) g at size end first second p = absurd (apart e end p)

bytes_within : (input : List ℕ) (at size end : ℕ) → read_bytes input at size ≡ Ok end → Behind at (length input) end
unfolding read_bytes
bytes_within input at size end p = go (leb (at + size) (length input)) refl p
  where
    go : (t : Bool) → leb (at + size) (length input) ≡ t → cond t (Ok (at + size)) (Err Short) ≡ Ok end → Behind at (length input) end
    go true e q =
        let same = same_end (at + size) end q in
        let l = leb-true (at + size) (length input) e in
        record { on = omega (arith, same); in_it = omega (arith, same, l) }
    go false e q = absurd (apart Short end q)

allowed : (t : Bool) (f : Front) (end : ℕ) → cond t f (Err Outside) ≡ Ok end → f ≡ Ok end
allowed true f end p = p
allowed false f end p = absurd (apart Outside end p)

here : (m size end : ℕ) → m ≤ size → ◌≡◌ {A = Front} (Ok m) (Ok end) → Behind m size end
here m size end l p = let same = same_end m end p in record { on = omega (arith, same); in_it = omega (arith, same, l) }

string_within : (least most : ℕ) (input : List ℕ) (at end : ℕ) → read_string least most input at ≡ Ok end → Behind at (length input) end
unfolding read_string
string_within least most input at end p =
    step (read_bytes input at 4) (λ start. cond (in_range least most (u32_at input at)) (read_bytes input start (u32_at input at)) (Err Outside)) at (length input) end
    (λ m q. bytes_within input at 4 m q)
    (λ m l q. bytes_within input m (u32_at input at) end (allowed (in_range least most (u32_at input at)) (read_bytes input m (u32_at input at)) end q))
    p

item_within : (i : Item) (input : List ℕ) (at end : ℕ) → read_item i input at ≡ Ok end → Behind at (length input) end
unfolding read_number read_units
item_within (Text least most) input at end p = string_within least most input at end p
item_within (Units unit most) input at end p =
    step (read_string 0 most input at) (λ m. cond (eqb (u32_at input at % unit) 0) (Ok m) (Err Outside)) at (length input) end
    (λ m q. string_within 0 most input at m q)
    (λ m l q. here m (length input) end l (allowed (eqb (u32_at input at % unit) 0) (Ok m) end q))
    p
item_within (Number least most) input at end p =
    step (read_bytes input at 8) (λ m. cond (in_range least most (u64_at input at)) (Ok m) (Err Outside)) at (length input) end
    (λ m q. bytes_within input at 8 m q)
    (λ m l q. here m (length input) end l (allowed (in_range least most (u64_at input at)) (Ok m) end q))
    p

reads_within : (items : List Item) (input : List ℕ) (at end : ℕ) → at ≤ length input → reads items input at ≡ Ok end → Behind at (length input) end
unfolding reads
reads_within [] input at end l p = here at (length input) end l p
reads_within (i ∷ items) input at end l p =
    step (read_item i input at) (reads items input) at (length input) end (λ m q. item_within i input at m q) (λ m k q. reads_within items input m end k q) p

known_within : (items : Option (List Item)) (input : List ℕ) (end : ℕ) → 1 ≤ length input → known_front items input ≡ Ok end → Behind 1 (length input) end
known_within None input end l p = absurd (apart Outside end p)
known_within (Some items) input end l p = reads_within items input 1 end l p

pub calls_within : CallsWithin
unfolding front_by
calls_within rows input end = go (eqb (length input) 0) refl
  where
    some : (n : ℕ) → (n ≡ 0 → ⊥) → 1 ≤ n
    some n h = omega (arith, h)

    go : (t : Bool) → eqb (length input) 0 ≡ t → cond t (Err Short) (known_front (items_in (byte_at input 0) rows) input) ≡ Ok end → (0 < end) × (end ≤ length input)
    go true e p = absurd (apart Short end p)
    go false e p =
        let b = known_within (items_in (byte_at input 0) rows) input end (some (length input) (eqb-false (length input) 0 e)) p in
        (omega (arith, b.on), b.in_it)
