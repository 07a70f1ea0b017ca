-- Volume labels (01, section 3).
use Rattle.std.specs.Prelude.{ℕ, Bool, not, ◌&&◌, List, [], ◌∷◌, leb, length, take, Result, Ok}
use Rattle.error.specs.declared.Error.{Error}
use Rattle.error.specs.declared.Error.TheVariants.{InvalidInput}
use Rattle.error.specs.Demand.{Demand, ◌otherwise◌, outcome}
use Rattle.error.specs.Reason as reason
use Rattle.octets.specs.Bytes.{padded_to, same_bytes}
use Rattle.utf8.specs.Inside.{utf8, plain}
use Rattle.root.specs.declared.Label.{Label}

-- section 3: the text `.`
abbrev pub dot : List ℕ
dot = 0x2E ∷ []

-- section 3: the text `..`
abbrev pub dots : List ℕ
dots = 0x2E ∷ 0x2E ∷ []

-- 01, section 3: UTF-8, 1 to 255 bytes, not `.` or `..`, without `/` and without U+0000..U+001F and U+007F..U+009F
unfoldable pub is_label : List ℕ → Bool
is_label text =
    utf8 text
    && leb 1 (length text)
    && leb (length text) 255
    && not (same_bytes text dot)
    && not (same_bytes text dots)
    && plain text

-- the text of a label: as many bytes as its length says
abbrev pub text_of : Label → List ℕ
text_of label = take label.len label.bytes

-- 01, section 3: a `Label` holds zeros beyond its length
unfoldable pub label_of : List ℕ → Label
label_of text = record { len = length text; bytes = padded_to 255 text }

-- section 3: what is asked of a label that `Label::new` is given
abbrev pub label_demands : List ℕ → List Demand
label_demands text = is_label text otherwise InvalidInput reason.invalid_volume_label ∷ []

-- `Label::new` (01, "What to write where"), by section 3's rule
unfoldable pub label_new : List ℕ → Result Label Error
label_new text = outcome (label_demands text) (Ok (label_of text))
