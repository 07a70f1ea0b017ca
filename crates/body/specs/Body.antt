-- The bodies of readback (01, "The program readback"), integers little-endian, and the line of each.
use Rattle.std.specs.Prelude.{ℕ, Bool, List, [], drop, Option, Some, None, Result, Ok, Err}
use Rattle.error.specs.declared.Error.{Error}
use Rattle.error.specs.Answer.{class_of, reason_of}
use Rattle.octets.specs.Bytes.{byte_at, padded_to}
use Rattle.octets.specs.Number.{u64_at}
use Rattle.volume.specs.References.{is_tree_kind_value, tree_kind_of, ref_at}
use Rattle.root.specs.declared.Label.{Label}
use Rattle.root.specs.declared.Root.{Root}
use Rattle.root.specs.Root.{root_decode}
use Rattle.root.specs.Label.{text_of}
use Rattle.page.specs.declared.Page.{Page}
use Rattle.page.specs.Header.{expected_of}
use Rattle.page.specs.Page.{decode_page}
use Rattle.report.specs.Line.{root_fields, page_fields, body_line}

-- the answer on a body of kind 1: slot u64, blocks u64, block
abbrev pub root_in : List ℕ → Result Root Error
root_in body = root_decode (drop 16 body) (u64_at body 0) (u64_at body 8)

-- the text of a root's label, empty for none
abbrev pub label_shown : Option Label → List ℕ
label_shown (Some label) = text_of label
label_shown None = []

-- its line: number, class, reason, and if accepted, generation and label
abbrev pub decoded_line : ℕ → Result Root Error → List ℕ
decoded_line number (Ok r) = body_line number 0 0 (root_fields r.generation (label_shown r.label))
decoded_line number (Err e) = body_line number (class_of e) (reason_of e) []

-- 01, readback: the line of a root's body
unfoldable pub root_body_line : ℕ → List ℕ → List ℕ
root_body_line number body = decoded_line number (root_in body)

-- the answer on a body of kind 2: block u64, generation u64, UUID, tree kind, parent generation u64, expected level (255 = not given), blocks u64, page
abbrev pub page_in : List ℕ → Result Page Error
page_in body =
    decode_page (ref_at body 0) (padded_to 16 (drop 16 body)) (tree_kind_of (byte_at body 32)) (u64_at body 33) (expected_of (byte_at body 41)) (u64_at body 42)
    (drop 50 body)

-- its line: number, class, reason, and if accepted, level, total and count
abbrev pub answered_line : ℕ → Result Page Error → List ℕ
answered_line number (Ok p) = body_line number 0 0 (page_fields p.level p.data_blocks p.count)
answered_line number (Err e) = body_line number (class_of e) (reason_of e) []

-- 01, readback: the line of a page's body
unfoldable pub page_body_line : ℕ → List ℕ → List ℕ
page_body_line number body = answered_line number (page_in body)

-- tree kind 1 to 4; another is cut
abbrev pub names_a_tree : List ℕ → Bool
names_a_tree body = is_tree_kind_value (byte_at body 32)
