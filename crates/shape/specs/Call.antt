-- A call on standard input (docs/PROBE.md, "Input"; docs/PROBE-ADDED.md): one byte, its number; then its numbers, each 8 bytes; then its strings, each a length of 4 bytes and the bytes; integers little-endian.
use Rattle.std.specs.Prelude.{ℕ, ◌+◌, ◌%◌, Bool, ◌&&◌, cond, List, [], ◌∷◌, eqb, leb, length, Result, Ok, Err}
use Rattle.octets.specs.Number.{u32_at, u64_at}
use Rattle.shape.specs.declared.Item.{Item}
use Rattle.shape.specs.declared.Item.TheVariants.{Number, Text, Units}
use Rattle.shape.specs.declared.Fault.{Fault}
use Rattle.shape.specs.declared.Fault.TheVariants.{Short, Outside}

-- what stands at the front of the input: a whole call, or a part of it, by where that ends; or why there is none
abbrev pub Front : Type 0
Front = Result ℕ Fault

-- within the limits, both included
abbrev pub in_range : ℕ → ℕ → ℕ → Bool
in_range least most value = leb least value && leb value most

-- so many bytes from a place on: the place behind them, if the input has them
unfoldable pub read_bytes : List ℕ → ℕ → ℕ → Front
read_bytes input at size = cond (leb (at + size) (length input)) (Ok (at + size)) (Err Short)

-- what follows is read where a part is whole; otherwise the part answers
abbrev pub then_read : Front → (ℕ → Front) → Front
then_read (Ok at) next = next at
then_read (Err e) next = Err e

-- a number: eight bytes, then its limits
unfoldable pub read_number : ℕ → ℕ → List ℕ → ℕ → Front
read_number least most input at = then_read (read_bytes input at 8) (λ end. cond (in_range least most (u64_at input at)) (Ok end) (Err Outside))

-- a string: the four bytes of its length, its limits, then as many bytes
unfoldable pub read_string : ℕ → ℕ → List ℕ → ℕ → Front
read_string least most input at =
    then_read (read_bytes input at 4) (λ start. cond (in_range least most (u32_at input at)) (read_bytes input start (u32_at input at)) (Err Outside))

-- a string of whole units, and not too many bytes (docs/PROBE-ADDED.md)
unfoldable pub read_units : ℕ → ℕ → List ℕ → ℕ → Front
read_units unit most input at = then_read (read_string 0 most input at) (λ end. cond (eqb (u32_at input at % unit) 0) (Ok end) (Err Outside))

-- a number or a string
abbrev pub read_item : Item → List ℕ → ℕ → Front
read_item (Number least most) = read_number least most
read_item (Text least most) = read_string least most
read_item (Units unit most) = read_units unit most

-- one after the other
unfoldable pub reads : List Item → List ℕ → ℕ → Front
reads [] input at = Ok at
reads (i ∷ items) input at = then_read (read_item i input at) (reads items input)
