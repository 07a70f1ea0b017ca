-- Beside a refusal the other words are 0.
use mathlib.Core.Path.{◌≡◌, refl}
use mathlib.Core.List.{List}
use mathlib.Core.Bool.{true}
use Prim.Native.Nat.{ℕ}
use Rattle.std.specs.Prelude.{Option, Some, None, Result, Ok, Err}
use Rattle.error.specs.declared.Error.{Error}
use Rattle.error.specs.Answer.{Number, check_class, number_words}
use Rattle.octets.specs.Bytes.{all_zero}
use Rattle.page.specs.declared.Page.{Page}
use Rattle.root.specs.declared.Root.{Root}
use Rattle.root.specs.declared.Selected.{Selected}
use Rattle.group.specs.Slots.{slot_words}
use Rattle.page.specs.Page.{page_words}
use Rattle.root.specs.Words.{root_words, root_text, choice_words}
use Rattle.carryfs.specs.Words.{asked_page, Bare, BesideRefusals}

-- an accepted answer has class 0
accepted : {P : Type 0} → (◌≡◌ {A = ℕ} 0 0 → ⊥) → P
accepted h = absurd (h refl)

slot_bare : (s : Result (Option ℕ) Error) → Bare (slot_words s)
unfolding slot_words
slot_bare (Ok (Some w)) h = accepted h
slot_bare (Ok None) h = accepted h
slot_bare (Err e) h = refl

number_bare : (n : Number) → Bare (number_words n)
unfolding number_words
number_bare (Ok n) h = accepted h
number_bare (Err e) h = refl

root_bare : (d : Result Root Error) → Bare (root_words d)
unfolding root_words
root_bare (Ok r) h = accepted h
root_bare (Err e) h = refl

text_bare : (d : Result Root Error) → (check_class d ≡ 0 → ⊥) → all_zero (root_text d) ≡ true
unfolding root_text
text_bare (Ok r) h = accepted h
text_bare (Err e) h = refl

choice_bare : (s : Result Selected Error) → Bare (choice_words s)
unfolding choice_words
choice_bare (Ok s) h = accepted h
choice_bare (Err e) h = refl

page_bare : (p : Result Page Error) → Bare (page_words p)
unfolding page_words
page_bare (Ok p) h = accepted h
page_bare (Err e) h = refl

asked_bare : (bytes : List ℕ) (block generation : ℕ) (uuid : List ℕ) (kind parent level blocks : ℕ) → Bare (asked_page bytes block generation uuid kind parent level blocks)
unfolding asked_page
asked_bare bytes block generation uuid kind parent level blocks = page_bare _

pub beside_refusals : BesideRefusals
beside_refusals = record { slot = slot_bare; number = number_bare; root = root_bare; text = text_bare; choice = choice_bare; page = page_bare; asked = asked_bare }
