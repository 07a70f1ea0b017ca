-- A payload read plainly (01, section 5): a list of keys and values.
use Rattle.std.specs.Prelude.{ℕ, ◌+◌, ◌^◌, ◌≤◌, ◌<◌, ◌≡◌, ◌↔◌, Bool, true, false, length, take}
use mathlib.Core.List.{List, [], ◌∷◌, ◌++◌, map, flat_map, sum, Nodup, Memᴰ as Among}
use Rattle.error.specs.declared.Validation.{Validation}
use Rattle.std.specs.Prelude.{Ok}
use Rattle.error.specs.Answer.{number_check, number_of}
use Rattle.octets.specs.Bytes.{Bytes}
use Rattle.octets.specs.Number.{little_bytes}
use Rattle.octets.specs.Order.{order}
use Rattle.std.specs.declared.cmp.Ordering.TheVariants.{Less}
use Rattle.walk.specs.Records.{Own, records}

-- 01, section 5: a record's key and value
pub record Entry : Type 0 where
  pub key : List ℕ
  pub value : List ℕ

-- an entry as it is stored (01, section 5): the two lengths in two bytes each, the key, the value
abbrev pub stored : Entry → List ℕ
stored e = little_bytes 2 (length e.key) ++ (little_bytes 2 (length e.value) ++ (e.key ++ e.value))

-- 01, section 5: entries laid end to end
abbrev pub end_to_end : List Entry → List ℕ
end_to_end es = flat_map stored es

-- 01, section 5: the keys strictly increase, the first being above a given one
abbrev pub Increasing : List ℕ → List Entry → Type 0
Increasing previous [] = Unit
Increasing previous (e ∷ es) = (order previous e.key ≡ Less) × Increasing e.key es

-- 01, section 5: the sizes of an entry, and that its key and its value are bytes
pub record Fit (e : Entry) : Type 0 where
  pub key_low : 1 ≤ length e.key
  pub key_high : length e.key ≤ 1024
  pub size : 4 + length e.key + length e.value ≤ 3072
  pub key_bytes : Bytes e.key
  pub value_bytes : Bytes e.value

-- an accepted walk's payload: so many entries laid end to end as the count says, each of the right sizes, with strictly increasing keys
pub record Read (payload : List ℕ) (count : ℕ) : Type 0 where
  pub entries : List Entry
  pub many : length entries ≡ count
  pub are : end_to_end entries ≡ payload
  pub increasing : Increasing [] entries
  pub fit : (e : Entry) → Among e entries → Fit e

-- the number of each entry, by a record's own rules: a count in a leaf, a child's block in an internal page
abbrev pub numbers : Own → List Entry → List ℕ
numbers own es = map (λ (e : Entry). number_of (own e.key e.value)) es

-- an accepted walk, plainly: such entries, each passing its own rules; a leaf's answer is the sum of their counts, below 2^64, an internal page's 0, and no two children have one block
pub record Walked (leaf : Bool) (own : Own) (rest : List ℕ) (payload_length count total : ℕ) : Type 0 where
  pub inside : payload_length ≤ length rest
  pub read : Read (take payload_length rest) count
  pub obey : (e : Entry) → Among e read.entries → number_check (own e.key e.value) ≡ Ok tt
  pub leaf_total : leaf ≡ true → total ≡ sum ◌+◌ 0 (numbers own read.entries)
  pub leaf_small : leaf ≡ true → total < 2 ^ 64
  pub internal_total : leaf ≡ false → total ≡ 0
  pub distinct : leaf ≡ false → Nodup (numbers own read.entries)

-- and accepted exactly when that holds, whatever the mode and the rules of one record
abbrev pub WalkedExactly : Type 0
WalkedExactly =
    (leaf : Bool) (mode : Validation) (own : Own) (rest : List ℕ) (payload_length count total : ℕ)
    → Bytes rest → (records leaf mode own rest payload_length count ≡ Ok total) ↔ Walked leaf own rest payload_length count total
