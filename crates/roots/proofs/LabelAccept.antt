-- A label is accepted exactly when the conditions of specs/Accept hold.
use mathlib.Core.Path.{◌≡◌, sym, ap, ◌∙◌}
use mathlib.Core.Bool.{true, not, false≢true}
use mathlib.Core.List.{List}
use Prim.Native.Nat.{ℕ}
use borrow.Author.Tests.{le-leb, leb-true, not-true}
use lib.ListN.{length}
use Rattle.error.proofs.Exactly.{given_exactly}
use Rattle.octets.specs.Bytes.{same_bytes}
use Rattle.octets.proofs.Same.{same_is, same_self}
use Rattle.volume.proofs.Accept.{never_holds}
use Rattle.utf8.proofs.Grammar.{utf8_is_grammar}
use Rattle.utf8.proofs.Plain.{plain_is_characters}
use Rattle.root.specs.Label.{dot, dots, is_label, label_of, label_demands, label_new}
use Rattle.root.proofs.Text.{tests_hold, holds_tests}
use Rattle.roots.specs.Accept.{LabelHolds, LabelExactly}

-- ---- the test and the conditions

pub label_accepted : (s : List ℕ) → is_label s ≡ true → LabelHolds s
label_accepted s e =
    let t = tests_hold s e in
    record {
      utf8_is = (utf8_is_grammar s).0 t.text;
      least = leb-true 1 (length s) t.some;
      most = leb-true (length s) 255 t.few;
      no_dot = λ d. false≢true (sym (not-true (same_bytes s dot) t.no_dot) ∙ ap (λ (x : List ℕ). same_bytes x dot) d ∙ same_self dot);
      no_dots = λ d. false≢true (sym (not-true (same_bytes s dots) t.no_dots) ∙ ap (λ (x : List ℕ). same_bytes x dots) d ∙ same_self dots);
      characters = (plain_is_characters s).0 t.plain_is;
    }

differs : (s x : List ℕ) → (s ≡ x → ⊥) → not (same_bytes s x) ≡ true
differs s x n = never_holds (same_bytes s x) (λ e. n (same_is s x e))

pub accepted_label : (s : List ℕ) → LabelHolds s → is_label s ≡ true
accepted_label s a =
    holds_tests s (
    record {
      text = (utf8_is_grammar s).1 a.utf8_is;
      some = le-leb 1 (length s) a.least;
      few = le-leb (length s) 255 a.most;
      no_dot = differs s dot a.no_dot;
      no_dots = differs s dots a.no_dots;
      plain_is = (plain_is_characters s).1 a.characters;
    }
    )

pub label_exactly : LabelExactly
unfolding label_new
label_exactly s l =
    let given = given_exactly (label_demands s) (label_of s) l in
    (λ e. let h = given.0 e in (label_accepted s h.0.0, h.1), λ h. given.1 ((accepted_label s h.0, tt), h.1))
