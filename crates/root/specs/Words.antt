-- Labels, roots and their choice in numbers (01, "Return classes" and section 3).
use Rattle.std.specs.Prelude.{ℕ, List, [], ◌∷◌, ◌++◌, replicate, is_some, Option, Some, None, Result, Ok, Err}
use Rattle.error.specs.declared.Error.{Error}
use Rattle.error.specs.Answer.{class_of, reason_of, flag}
use Rattle.root.specs.declared.Label.{Label}
use Rattle.root.specs.declared.Root.{Root}
use Rattle.root.specs.declared.Selected.{Selected}

-- section 3: a label's length, 0 for none
abbrev pub label_len : Option Label → ℕ
label_len (Some l) = l.len
label_len None = 0

-- section 3: its 255 bytes, zeros for none
abbrev pub label_bytes : Option Label → List ℕ
label_bytes (Some l) = l.bytes
label_bytes None = replicate 255 0

-- 01, "Return classes": class, reason, the label's length
unfoldable pub label_words : Result Label Error → List ℕ
label_words (Ok l) = 0 ∷ 0 ∷ l.len ∷ []
label_words (Err e) = class_of e ∷ reason_of e ∷ 0 ∷ []

-- section 3: whether there is a label, its length, and the root's numbers in the order in which it holds them
abbrev pub root_numbers : Root → List ℕ
root_numbers r =
    flag (is_some r.label) ∷ label_len r.label
    ∷ r.generation ∷ r.blocks
    ∷ r.catalog.block ∷ r.catalog.generation
    ∷ r.allocation.block ∷ r.allocation.generation
    ∷ r.cleanup.block ∷ r.cleanup.generation
    ∷ r.next_object ∷ r.free_blocks ∷ r.next_job
    ∷ r.workspace.block ∷ r.workspace.generation
    ∷ r.workspace_cursor ∷ []

-- 01, "Return classes": class, reason, and these 16 numbers
unfoldable pub root_words : Result Root Error → List ℕ
root_words (Ok r) = 0 ∷ 0 ∷ root_numbers r
root_words (Err e) = class_of e ∷ reason_of e ∷ replicate 16 0

-- section 3: the UUID's 16 bytes, then the label's 255; beside a refusal zeros
unfoldable pub root_text : Result Root Error → List ℕ
root_text (Ok r) = r.uuid ++ label_bytes r.label
root_text (Err e) = replicate 271 0

-- section 3, `supported_root`: class, reason, whether there is a root, and its numbers
unfoldable pub supported_words : Result (Option Root) Error → List ℕ
supported_words (Ok (Some r)) = 0 ∷ 0 ∷ 1 ∷ root_numbers r
supported_words (Ok None) = replicate 19 0
supported_words (Err e) = class_of e ∷ reason_of e ∷ replicate 17 0

-- section 3, `select_root`: class, reason, 1 for the first or 2 for the second, the chosen root's generation
unfoldable pub choice_words : Result Selected Error → List ℕ
choice_words (Ok s) = 0 ∷ 0 ∷ s.which ∷ s.root.generation ∷ []
choice_words (Err e) = class_of e ∷ reason_of e ∷ 0 ∷ 0 ∷ []
