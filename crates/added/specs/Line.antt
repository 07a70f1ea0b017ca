-- The line of a call of probe_added (docs/PROBE-ADDED.md): the call's place, its fields, a line feed.
use Rattle.std.specs.Prelude.{ℕ, ◌+◌, ◌*◌, cond, List, [], ◌∷◌, ◌++◌, eqb, leb, drop}
use Rattle.octets.specs.Bytes.{byte_at}
use Rattle.volume.specs.References.{tree_kind_of}
use Rattle.root.specs.declared.Root.{Root}
use Rattle.search.specs.declared.Searched.{Searched}
use Rattle.search.specs.Search.{search}
use Rattle.search.specs.Words.{search_words}
use Rattle.report.specs.Text.{decimal, number_fields}
use Rattle.calls.specs.Given.{number_in, given_root}
use Rattle.shape.specs.Added.{added_strings_at}
use Rattle.lines.specs.Line.{string_of, behind_string}
use Rattle.added.specs.Image.{image_of}

-- a call's strings stand behind its numbers
abbrev pub strings_in : List ℕ → List ℕ
strings_in input = drop (added_strings_at (byte_at input 0)) input

-- the root of 16 numbers behind number i, whose UUID and label are the call's first two strings; number i stands where one of call 41 says whether it is present
abbrev pub root_behind : List ℕ → ℕ → Root
root_behind input i = given_root (drop (1 + 8 * i) input) (string_of (strings_in input)) (string_of (behind_string (strings_in input)))

-- call 60, in an image of that length: number 0 is the count, number 1 the kind, then the root; key and pages are the third string and the fourth
unfoldable pub search_asked : List ℕ → ℕ → Searched
search_asked input size =
    search (image_of size (string_of (behind_string (behind_string (behind_string (strings_in input))))))
    (root_behind input 1)
    (tree_kind_of (number_in input 1))
    (string_of (behind_string (behind_string (strings_in input))))
    (record { count = number_in input 0 })

-- its fields; nothing of an image above 640 blocks, which no call within the limits has
unfoldable pub searched_told : List ℕ → List ℕ
searched_told input = cond (leb (number_in input 18) 2621440) (number_fields (search_words (search_asked input (number_in input 18)))) []

-- the fields of a call, by its number; of another, none
unfoldable pub call_told : List ℕ → List ℕ
call_told input =
    cond (eqb (byte_at input 0) 60) (searched_told input)
    []

-- the line
unfoldable pub call_line : ℕ → List ℕ → List ℕ
call_line place input = decimal place ++ call_told input ++ (10 ∷ [])
