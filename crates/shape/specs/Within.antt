-- Where a call ends, plainly.
use Rattle.std.specs.Prelude.{ℕ, ◌+◌, ◌≤◌, ◌<◌, ◌≡◌, Bool, true, ◌&&◌, leb, List, [], ◌∷◌, ◌++◌, length, Ok, Err}
use Rattle.shape.specs.declared.Fault.TheVariants.{Short}
use Rattle.shape.specs.declared.Item.{Item}
use Rattle.shape.specs.declared.Item.TheVariants.{Number, Text, Units}
use Rattle.shape.specs.Calls.{Taken, front_by}

-- of any table: a whole call has a byte at least, and ends within the input: who goes on behind it reads on, and no further than there is input
abbrev pub CallsWithin : Type 0
CallsWithin = (rows : List Taken) (input : List ℕ) (end : ℕ) → front_by rows input ≡ Ok end → (0 < end) × (end ≤ length input)

-- of any table: what stands at the front of an input, a whole call or none, stands there whatever follows: more has to be read only where the input ends inside a call
abbrev pub CallsStand : Type 0
CallsStand = (rows : List Taken) (input more : List ℕ) → (front_by rows input ≡ Err Short → ⊥) → front_by rows (input ++ more) ≡ front_by rows input

-- the most bytes that a number or a string takes
abbrev pub room_of : Item → ℕ
room_of (Number least most) = 8
room_of (Text least most) = 4 + most
room_of (Units unit most) = 4 + most

-- that several take
abbrev pub room : List Item → ℕ
room [] = 0
room (i ∷ items) = room_of i + room items

-- each call of a table takes fewer than 262,144 bytes
abbrev pub all_fit : List Taken → Bool
all_fit [] = true
all_fit (row ∷ rows) = leb (room row.items) 262142 && all_fit rows

-- of such a table: an input that ends inside a call is as short
abbrev pub CallsFit : Type 0
CallsFit = (rows : List Taken) (input : List ℕ) → all_fit rows ≡ true → front_by rows input ≡ Err Short → length input < 262144
