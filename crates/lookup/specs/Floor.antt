-- The floor lookup (01, section 7): the last record whose key is not above the sought one, in a part with so many records.
use Rattle.std.specs.Prelude.{ℕ, zero, suc, ◌+◌, ◌-◌, ◌/◌, List, [], ◌∷◌, ◌++◌, Bool, true, ◌&&◌, cond, ltb, length, get_or, drop, Option, Some, None}
use Rattle.lookup.specs.Record.{split_record, is_record, size_of, look_at, is_above}
use Rattle.lookup.specs.declared.Answer.{Answer}
use Rattle.lookup.specs.declared.Floor.{Floor}
use Rattle.lookup.specs.declared.Lengths.{Lengths}
use Rattle.lookup.specs.declared.Step.{Step}

-- the offset of the record after the one at p
abbrev pub next_offset : List ℕ → ℕ → ℕ
next_offset part p = p + size_of (split_record (drop p part))

-- 01, section 7: what is written into the scratch for n records from the one at p on: their offsets; a broken record's is the last written
unfoldable pub written : List ℕ → ℕ → ℕ → List ℕ
written part zero p = []
written part (suc n) p = p ∷ cond (is_record (split_record (drop p part))) (written part n (next_offset part p)) []

-- none of the n records from the one at p on is broken
unfoldable pub unbroken : List ℕ → ℕ → ℕ → Bool
unbroken part zero p = true
unbroken part (suc n) p = is_record (split_record (drop p part)) && unbroken part n (next_offset part p)

-- the scratch once its first entries are ws; the rest is untouched
abbrev pub over : List ℕ → List ℕ → List ℕ
over ws scratch = ws ++ drop (length ws) scratch

-- 01, section 7: the record at p is above the sought key, or broken
abbrev pub above_at : List ℕ → List ℕ → ℕ → Bool
above_at part key p = is_above (look_at (drop p part) key)

-- halving takes (low + high) / 2 rounded down and ends at an index; `steps` bounds its turns, and high - low of them are enough
unfoldable pub bisect : List ℕ → List ℕ → List ℕ → ℕ → ℕ → ℕ → ℕ
bisect part key offs zero low high = low
bisect part key offs (suc steps) low high =
    cond (ltb low high)
    (cond (above_at part key (get_or offs ((low + high) / 2) 0)) (bisect part key offs steps low ((low + high) / 2)) (bisect part key offs steps ((low + high) / 2 + 1) high))
    low

-- the record before an index, none before the first
abbrev pub before : List ℕ → ℕ → Option Floor
before offs i = cond (ltb 0 i) (Some (record { index = i - 1; offset = get_or offs (i - 1) 0 })) None

-- the walk from the front: n records are left, the next is record i at p, and `found` is the answer so far. A broken record stops it as one above the sought key does
unfoldable pub walk_floor : List ℕ → List ℕ → ℕ → ℕ → ℕ → Option Floor → Option Floor
walk_floor part key zero p i found = found
walk_floor part key (suc n) p i found = cond (above_at part key p) found (walk_floor part key n (next_offset part p) (i + 1) (Some (record { index = i; offset = p })))

-- 01, section 7: the answer, lent a scratch of so many entries. A part above 65,535 bytes gives none; a scratch shorter than the count, the walk; records that break in the filling, none
unfoldable pub floor_at : List ℕ → ℕ → List ℕ → ℕ → Option Floor
floor_at part count key entries =
    cond (ltb 65535 (length part)) None
    (cond (ltb entries count) (walk_floor part key count 0 0 None)
    (cond (unbroken part count 0) (before (written part count 0) (bisect part key (written part count 0) count 0 count)) None))

-- 01, section 7: whether there is a record, its index, where it starts
unfoldable pub place_words : Option Floor → List ℕ
place_words (Some f) = 1 ∷ f.index ∷ f.offset ∷ []
place_words None = 0 ∷ 0 ∷ 0 ∷ []

-- 01, section 7: the scratch at the end: untouched in the first two cases, otherwise its first count entries become the records' offsets, or, where a record is broken, only those up to it
unfoldable pub scratch_of : List ℕ → ℕ → List ℕ → List ℕ
scratch_of part count scratch = cond (ltb 65535 (length part)) scratch (cond (ltb (length scratch) count) scratch (over (written part count 0) scratch))

-- 01, section 7: the answer: the record's index, how many records there are from it on, and where these start and end in the part; none where no record is found
abbrev pub answer_of : ℕ → ℕ → Option Floor → Option Answer
answer_of len count (Some f) = Some (record { index = f.index; remaining = count - f.index; from = f.offset; end = len })
answer_of len count None = None

-- 01, section 7: the lookup's answer on a part with so many records, lent a scratch of so many entries
abbrev pub floor_answer : List ℕ → ℕ → List ℕ → ℕ → Option Answer
floor_answer part count key entries = answer_of (length part) count (floor_at part count key entries)

-- 01, section 7: whether there is a record, its index, how many records there are from it on, where they start in the part
unfoldable pub floor_words : Option Answer → List ℕ
floor_words (Some a) = 1 ∷ a.index ∷ a.remaining ∷ a.from ∷ []
floor_words None = 0 ∷ 0 ∷ 0 ∷ 0 ∷ []

-- the step over a record; there is none over a broken one
abbrev pub step_split : ℕ → Option Lengths → Option Step
step_split n (Some l) = Some (record { key_start = 4; key_end = 4 + l.key_len; value_end = 4 + l.key_len + l.value_len; remaining = n - 1 })
step_split n None = None

-- `next` of `Records`: the first of n records that are left: where its key starts and ends, where its value ends, and how many are left after it; there is none where n is 0 or it is broken, and then nothing is passed
unfoldable pub next_record : List ℕ → ℕ → Option Step
next_record part n = cond (ltb 0 n) (step_split n (split_record part)) None

-- `next` of `Records`, of so many that are left: whether there is one, where its key starts and ends, where its value ends, how many are left after it; without one as many as before
unfoldable pub step_words : ℕ → Option Step → List ℕ
step_words left (Some s) = 1 ∷ s.key_start ∷ s.key_end ∷ s.value_end ∷ s.remaining ∷ []
step_words left None = 0 ∷ 0 ∷ 0 ∷ 0 ∷ left ∷ []
