-- What private functions promise. No public promise rests on these.
use Rattle.std.specs.Prelude.{ℕ, ◌+◌, List, drop, Option, Some, None}
use Rattle.lookup.specs.Record.{split_record}
use Rattle.lookup.specs.declared.Lengths.{Lengths}

-- where the record that was read at a place ends, or that it is broken
abbrev pub end_split : ℕ → Option Lengths → Option ℕ
end_split at (Some l) = Some (at + (4 + l.key_len + l.value_len))
end_split at None = None

-- the same of the record that stands at a place of s
unfoldable pub record_end : List ℕ → ℕ → Option ℕ
record_end s at = end_split at (split_record (drop at s))
