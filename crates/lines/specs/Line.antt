-- The line of a call of probe (docs/PROBE.md, "Output"): the call's place, its fields, a line feed. Numbers in decimal, strings as `x` and lowercase hexadecimal, parted by single spaces.
use Rattle.std.specs.Prelude.{ℕ, ◌+◌, cond, List, [], ◌∷◌, ◌++◌, eqb, leb, length, drop, replicate, Result, Ok, Err}
use Rattle.error.specs.declared.Error.{Error}
use Rattle.error.specs.Answer.{class_of, reason_of}
use Rattle.octets.specs.Bytes.{byte_at, part}
use Rattle.octets.specs.Number.{u32_at}
use Rattle.group.specs.Group.{expand_group}
use Rattle.lookup.specs.Floor.{floor_answer, floor_words, scratch_of}
use Rattle.hand.specs.Hand.{scratch_in, handed_words}
use Rattle.root.specs.declared.Label.{Label}
use Rattle.root.specs.declared.Root.{Root}
use Rattle.root.specs.Label.{label_new}
use Rattle.root.specs.Root.{root_decode}
use Rattle.report.specs.Text.{decimal, number_fields, hex_field, entries_field}
use Rattle.root.specs.Words.{label_bytes, root_words}
use Rattle.calls.specs.declared.Numbers.{Numbers}
use Rattle.calls.specs.Told.{at_most}
use Rattle.calls.specs.Table.{page_asked, fields_of}
use Rattle.calls.specs.Given.{numbers_in, selected_fields, hand_asked}
use Rattle.shape.specs.Calls.{strings_at}

-- ---- strings

-- the string whose length stands at the front, four bytes
abbrev pub string_of : List ℕ → List ℕ
string_of rest = part rest 4 (u32_at rest 0)

-- what stands behind it
abbrev pub behind_string : List ℕ → List ℕ
behind_string rest = drop (4 + u32_at rest 0) rest

-- a call's strings stand behind its numbers
abbrev pub strings_in : List ℕ → List ℕ
strings_in input = drop (strings_at (byte_at input 0)) input

-- ---- the calls that tell strings

-- call 33: class, reason, length, the 255 bytes; beside a refusal no bytes
abbrev pub label_told : Result Label Error → List ℕ
label_told (Ok l) = number_fields (0 ∷ 0 ∷ l.len ∷ []) ++ hex_field l.bytes
label_told (Err e) = number_fields (class_of e ∷ reason_of e ∷ 0 ∷ []) ++ hex_field []

-- a root's UUID and its label's bytes; beside a refusal none of either
unfoldable pub named_told : Result Root Error → List ℕ
named_told (Ok r) = hex_field r.uuid ++ hex_field (label_bytes r.label)
named_told (Err e) = hex_field [] ++ hex_field []

-- call 34: its numbers, the UUID, the label's bytes
unfoldable pub root_told : Result Root Error → List ℕ
root_told d = number_fields (root_words d) ++ named_told d

-- what is told with a scratch of so many entries; nothing above 4,096, which no call within the limits has
abbrev pub lent : ℕ → List ℕ → List ℕ
lent entries text = cond (leb entries 4096) text []

-- call 39: the lookup's numbers, and the scratch as it is left
unfoldable pub floor_told : Numbers → List ℕ → List ℕ → List ℕ → List ℕ
floor_told n payload key scratch =
    number_fields (floor_words (floor_answer payload n.a key (length scratch))) ++ entries_field (scratch_of payload n.a scratch)

-- call 43: the view's and the lookup's numbers, and the scratch as it is left
unfoldable pub handed_told : Numbers → List ℕ → List ℕ → List ℕ → List ℕ → List ℕ
handed_told n uuid page key scratch =
    number_fields (handed_words (hand_asked n uuid page key (length scratch))) ++ entries_field (scratch_in (page_asked n uuid page) page scratch)

-- ---- the line

-- the fields of a call, by its number, its numbers and its first two strings
unfoldable pub answer_told : ℕ → Numbers → List ℕ → List ℕ → List ℕ
answer_told call n a b =
    cond (eqb call 32) (hex_field (expand_group a))
    (cond (eqb call 33) (label_told (label_new a))
    (cond (eqb call 34) (root_told (root_decode a n.a n.b))
    (cond (eqb call 39) (lent n.b (floor_told n a b (replicate n.b (at_most 65535 n.c))))
    (number_fields (fields_of call n a b)))))

-- by its bytes; call 43 has a third string, and a scratch of 65,535 in each entry
unfoldable pub call_told : List ℕ → List ℕ
call_told input =
    cond (eqb (byte_at input 0) 41) (number_fields (selected_fields input))
    (cond (eqb (byte_at input 0) 43)
    (lent (numbers_in input).g (handed_told (numbers_in input) (string_of (strings_in input)) (string_of (behind_string (strings_in input))) (string_of (behind_string (behind_string (strings_in input)))) (replicate (numbers_in input).g 65535)))
    (answer_told (byte_at input 0) (numbers_in input) (string_of (strings_in input)) (string_of (behind_string (strings_in input)))))

-- the line
unfoldable pub call_line : ℕ → List ℕ → List ℕ
call_line place input = decimal place ++ call_told input ++ (10 ∷ [])
