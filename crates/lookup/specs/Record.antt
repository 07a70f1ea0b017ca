-- A record (01, section 5): u16 key length, u16 value length, key, value.
use Rattle.std.specs.Prelude.{ℕ, ◌+◌, List, [], ◌∷◌, Bool, true, false, cond, leb, length, Option, Some, None}
use Rattle.octets.specs.Bytes.{part}
use Rattle.octets.specs.Number.{u16_at}
use Rattle.octets.specs.Order.{order, is_greater}
use Rattle.lookup.specs.declared.Lengths.{Lengths}

-- section 5: u16 at 0, the length of its key; bytes past the end count as 0
abbrev pub key_len : List ℕ → ℕ
key_len s = u16_at s 0

-- section 5: u16 at 2, the length of its value
abbrev pub value_len : List ℕ → ℕ
value_len s = u16_at s 2

-- 01, section 5: how many bytes it takes, the four of the two lengths among them
abbrev pub record_len : List ℕ → ℕ
record_len s = 4 + key_len s + value_len s

-- section 5: behind the two lengths, its key
abbrev pub key_of : List ℕ → List ℕ
key_of s = part s 4 (key_len s)

-- section 5: behind the key, its value
abbrev pub value_of : List ℕ → List ℕ
value_of s = part s (4 + key_len s) (value_len s)

-- the two lengths of the record at the start of s; none where it is broken: s doesn't hold all of it
unfoldable pub split_record : List ℕ → Option Lengths
split_record s = cond (leb (record_len s) (length s)) (Some (record { key_len = key_len s; value_len = value_len s })) None

-- 01, section 5: whether there is a record, the lengths of its key and value
unfoldable pub lengths_words : Option Lengths → List ℕ
lengths_words (Some l) = 1 ∷ l.key_len ∷ l.value_len ∷ []
lengths_words None = 0 ∷ 0 ∷ 0 ∷ []

-- a whole record, not a broken one
abbrev pub is_record : Option Lengths → Bool
is_record (Some l) = true
is_record None = false

-- how many bytes a whole record takes, 0 for a broken one
abbrev pub size_of : Option Lengths → ℕ
size_of (Some l) = 4 + l.key_len + l.value_len
size_of None = 0

-- how many bytes the record at the start of s takes, where its key is not above a sought one (01, section 7): a broken record counts as one above it
abbrev pub look_split : List ℕ → List ℕ → Option Lengths → Option ℕ
look_split s key (Some l) = cond (is_greater (order (part s 4 l.key_len) key)) None (Some (4 + l.key_len + l.value_len))
look_split s key None = None

-- section 7: the record that stands there, beside the sought key
unfoldable pub look_at : List ℕ → List ℕ → Option ℕ
look_at s key = look_split s key (split_record s)

-- section 7: it is above the sought key, or broken
abbrev pub is_above : Option ℕ → Bool
is_above (Some n) = false
is_above None = true
