-- The lines of readback (01, "The program readback"). Each ends in a line feed.
use Rattle.std.specs.Prelude.{ℕ, cond, List, [], ◌∷◌, ◌++◌, eqb}
use Rattle.report.specs.Text.{decimal, number_field}

-- 01, readback: the line feed
abbrev pub newline : List ℕ
newline = 10 ∷ []

-- the first line: `readback 1`
abbrev pub head_line : List ℕ
head_line = 114 ∷ 101 ∷ 97 ∷ 100 ∷ 98 ∷ 97 ∷ 99 ∷ 107 ∷ 32 ∷ 49 ∷ newline

-- a body's number, class and reason
unfoldable pub answer : ℕ → ℕ → ℕ → List ℕ
answer number class reason = decimal number ++ number_field class ++ number_field reason

-- the label as its bytes, `-` for none
unfoldable pub label_field : List ℕ → List ℕ
label_field [] = 32 ∷ 45 ∷ []
label_field (b ∷ bs) = 32 ∷ b ∷ bs

-- behind an accepted root's answer its generation and label
unfoldable pub root_fields : ℕ → List ℕ → List ℕ
root_fields generation label = number_field generation ++ label_field label

-- behind an accepted page's answer its level, total and count
unfoldable pub page_fields : ℕ → ℕ → ℕ → List ℕ
page_fields level total count = number_field level ++ number_field total ++ number_field count

-- the line of a body: class 0 is accepted, and only then fields follow
unfoldable pub body_line : ℕ → ℕ → ℕ → List ℕ → List ℕ
body_line number class reason fields = answer number class reason ++ cond (eqb class 0) fields [] ++ newline

-- another kind or tree kind, or a short body (docs/PROBE.md: a call outside the limits, unknown or short): its number and `cut`
unfoldable pub cut_line : ℕ → List ℕ
cut_line number = decimal number ++ (32 ∷ 99 ∷ 117 ∷ 116 ∷ newline)

-- the last line: `end` and the number of bodies, or of calls
unfoldable pub end_line : ℕ → List ℕ
end_line count = (101 ∷ 110 ∷ 100 ∷ []) ++ number_field count ++ newline
