-- The calls of docs/PROBE.md: the numbers and strings that each takes, in their order.
use Rattle.std.specs.Prelude.{ℕ, ◌+◌, ◌*◌, ◌^◌, ◌-◌, cond, List, [], ◌∷◌, ◌++◌, eqb, length, replicate, Option, Some, None, Err, Bool, true, false, count_by}
use Rattle.std.specs.Option.{option_map_or}
use Rattle.octets.specs.Bytes.{byte_at}
use Rattle.shape.specs.declared.Item.{Item}
use Rattle.shape.specs.declared.Item.TheVariants.{Number, Text, Units}
use Rattle.shape.specs.declared.Fault.TheVariants.{Short, Outside}
use Rattle.shape.specs.Call.{Front, reads}

-- any number of 64 bits
abbrev pub any_number : Item
any_number = Number 0 (2 ^ 64 - 1)

-- a register, nanoseconds: below 2^32
abbrev pub word_number : Item
word_number = Number 0 (2 ^ 32 - 1)

-- a reason, a scratch's fill
abbrev pub short_number : Item
short_number = Number 0 65535

-- a level, a page's kind, a label's length
abbrev pub byte_number : Item
byte_number = Number 0 255

-- present, has label, a mode
abbrev pub flag_number : Item
flag_number = Number 0 1

-- a tree kind
abbrev pub kind_number : Item
kind_number = Number 1 4

-- the count of zero bytes in call 4
abbrev pub zero_count : Item
zero_count = Number 0 1000000

-- the entries of a scratch
abbrev pub entry_count : Item
entry_count = Number 0 4096

-- a byte string
abbrev pub any_string : Item
any_string = Text 0 80000

-- a UUID
abbrev pub uuid_string : Item
uuid_string = Text 16 16

-- a label's bytes in call 41
abbrev pub label_string : Item
label_string = Text 255 255

-- a made-up root's numbers: present, has label, label length, and 14 more
abbrev pub root_numbers : List Item
root_numbers = flag_number ∷ flag_number ∷ byte_number ∷ replicate 14 any_number

-- a row of the table: a call's number, and what it takes
pub record Taken : Type 0 where
  pub number : ℕ
  pub items : List Item

infixl 70 ◌takes◌
-- a call's number and what it takes
abbrev pub ◌takes◌ : ℕ → List Item → Taken
call takes xs = record { number = call; items = xs }

-- what a call takes, by the row of its number; None where there is none
unfoldable pub items_in : ℕ → List Taken → Option (List Item)
items_in call [] = None
items_in call (row ∷ rows) = cond (eqb call row.number) (Some row.items) (items_in call rows)

-- the table
unfoldable pub calls : List Taken
calls =
    1 takes (word_number ∷ any_string ∷ [])
    ∷ 2 takes (any_string ∷ [])
    ∷ 3 takes (any_number ∷ any_number ∷ any_string ∷ [])
    ∷ 4 takes (word_number ∷ zero_count ∷ [])
    ∷ 5 takes (any_number ∷ any_number ∷ uuid_string ∷ any_string ∷ [])
    ∷ 6 takes (any_string ∷ [])
    ∷ 7 takes (any_string ∷ [])
    ∷ 8 takes (any_number ∷ short_number ∷ any_string ∷ [])
    ∷ 9 takes (any_number ∷ short_number ∷ any_string ∷ [])
    ∷ 10 takes (any_number ∷ short_number ∷ any_string ∷ [])
    ∷ 11 takes (any_string ∷ any_string ∷ [])
    ∷ 12 takes (any_number ∷ any_number ∷ [])
    ∷ 13 takes (any_number ∷ any_number ∷ [])
    ∷ 14 takes (any_number ∷ any_number ∷ [])
    ∷ 15 takes (any_number ∷ any_number ∷ [])
    ∷ 16 takes (any_number ∷ [])
    ∷ 17 takes (any_number ∷ any_number ∷ any_number ∷ flag_number ∷ [])
    ∷ 18 takes (any_number ∷ any_number ∷ kind_number ∷ any_number ∷ flag_number ∷ [])
    ∷ 19 takes (any_number ∷ any_number ∷ flag_number ∷ [])
    ∷ 20 takes (any_number ∷ word_number ∷ flag_number ∷ [])
    ∷ 21 takes (any_number ∷ flag_number ∷ [])
    ∷ 22 takes (flag_number ∷ any_string ∷ [])
    ∷ 23 takes (any_number ∷ flag_number ∷ any_string ∷ [])
    ∷ 24 takes (flag_number ∷ any_string ∷ [])
    ∷ 25 takes (any_number ∷ flag_number ∷ any_string ∷ any_string ∷ [])
    ∷ 26 takes (flag_number ∷ any_string ∷ any_string ∷ [])
    ∷ 27 takes (kind_number ∷ any_number ∷ any_number ∷ flag_number ∷ any_string ∷ any_string ∷ [])
    ∷ 28 takes (kind_number ∷ any_number ∷ any_number ∷ flag_number ∷ any_string ∷ any_string ∷ [])
    ∷ 29 takes (kind_number ∷ any_number ∷ any_number ∷ any_string ∷ any_string ∷ [])
    ∷ 30 takes (any_number ∷ any_string ∷ [])
    ∷ 31 takes (any_string ∷ [])
    ∷ 32 takes (any_string ∷ [])
    ∷ 33 takes (any_string ∷ [])
    ∷ 34 takes (any_number ∷ any_number ∷ any_string ∷ [])
    ∷ 35 takes (any_number ∷ any_number ∷ any_number ∷ any_number ∷ any_string ∷ any_string ∷ [])
    ∷ 36 takes (any_number ∷ any_number ∷ kind_number ∷ any_number ∷ byte_number ∷ any_number ∷ uuid_string ∷ any_string ∷ [])
    ∷ 37 takes (any_number ∷ any_number ∷ kind_number ∷ any_number ∷ byte_number ∷ uuid_string ∷ any_string ∷ [])
    ∷ 38 takes (any_string ∷ [])
    ∷ 39 takes (any_number ∷ entry_count ∷ short_number ∷ any_string ∷ any_string ∷ [])
    ∷ 40 takes (any_number ∷ any_string ∷ [])
    ∷ 41 takes (root_numbers ++ root_numbers ++ uuid_string ∷ label_string ∷ uuid_string ∷ label_string ∷ [])
    ∷ 42 takes (kind_number ∷ byte_number ∷ any_number ∷ any_number ∷ flag_number ∷ any_number ∷ any_number ∷ any_string ∷ [])
    ∷ 43 takes (any_number ∷ any_number ∷ kind_number ∷ any_number ∷ byte_number ∷ any_number ∷ entry_count ∷ uuid_string ∷ any_string ∷ any_string ∷ [])
    ∷ 44 takes (any_number ∷ any_number ∷ any_number ∷ any_number ∷ uuid_string ∷ any_string ∷ [])
    ∷ []

-- a call without a row is unknown
abbrev pub known_front : Option (List Item) → List ℕ → Front
known_front None input = Err Outside
known_front (Some items) input = reads items input 1

-- the call of a table at the front of the input, from the byte behind its number on
unfoldable pub front_by : List Taken → List ℕ → Front
front_by rows input = cond (eqb (length input) 0) (Err Short) (known_front (items_in (byte_at input 0) rows) input)

-- a call of probe
abbrev pub call_front : List ℕ → Front
call_front input = front_by calls input

-- whether it is a number
abbrev pub is_number : Item → Bool
is_number (Number least most) = true
is_number (Text least most) = false
is_number (Units unit most) = false

-- how many of them are numbers
abbrev pub numbers_among : List Item → ℕ
numbers_among items = count_by is_number items

-- where the strings of a table's call start: behind its own byte and eight bytes for each number
abbrev pub strings_by : List Taken → ℕ → ℕ
strings_by rows call = 1 + 8 * option_map_or numbers_among (items_in call rows) 0

-- of a call of probe
unfoldable pub strings_at : ℕ → ℕ
strings_at call = strings_by calls call
