-- A call's bytes (docs/PROBE.md): its number, then its numbers, eight bytes each, then its strings, each behind its length of four bytes; integers little-endian. And the numbers that call 41 tells, and what call 43 asks.
use Rattle.std.specs.Prelude.{ℕ, ◌+◌, ◌*◌, cond, List, [], ◌∷◌, eqb, drop, Option, Some, None, Result, Ok, Err}
use Rattle.error.specs.declared.Error.{Error}
use Rattle.error.specs.Answer.{class_of, reason_of}
use Rattle.octets.specs.Bytes.{padded_to}
use Rattle.octets.specs.Number.{u64_at}
use Rattle.volume.specs.References.{ref_at, tree_kind_of}
use Rattle.page.specs.Header.{expected_of}
use Rattle.root.specs.declared.Label.{Label}
use Rattle.root.specs.declared.Root.{Root}
use Rattle.root.specs.declared.Selected.{Selected}
use Rattle.root.specs.Select.{select_root}
use Rattle.hand.specs.declared.Handed.{Handed}
use Rattle.hand.specs.Hand.{hand_out}
use Rattle.calls.specs.declared.Numbers.{Numbers}
use Rattle.calls.specs.Told.{at_most, reference_to}

-- number i of a call
abbrev pub number_in : List ℕ → ℕ → ℕ
number_in input i = u64_at input (1 + 8 * i)

-- the first seven; of those that a call doesn't take nothing is said
abbrev pub numbers_in : List ℕ → Numbers
numbers_in input = record {
  a = number_in input 0;
  b = number_in input 1;
  c = number_in input 2;
  d = number_in input 3;
  e = number_in input 4;
  f = number_in input 5;
  g = number_in input 6;
}

-- ---- call 41: a root made up of 17 numbers and two strings

-- its label: number 2 is the length
abbrev pub given_label : List ℕ → List ℕ → Label
given_label stored text = record { len = at_most 255 (u64_at stored 16); bytes = padded_to 255 text }

-- the root: label where number 1 is 1, generation and blocks (3 and 4), catalog, allocation, cleanup (two each), next object, free blocks, next job, workspace (two), cursor
unfoldable pub given_root : List ℕ → List ℕ → List ℕ → Root
given_root stored uuid text = record {
  label = cond (eqb (u64_at stored 8) 1) (Some (given_label stored text)) None;
  uuid = padded_to 16 uuid;
  generation = u64_at stored 24;
  blocks = u64_at stored 32;
  catalog = ref_at stored 40;
  allocation = ref_at stored 56;
  cleanup = ref_at stored 72;
  next_object = u64_at stored 88;
  free_blocks = u64_at stored 96;
  next_job = u64_at stored 104;
  workspace = ref_at stored 112;
  workspace_cursor = u64_at stored 128;
}

-- the root, present where number 0 is 1
unfoldable pub given_maybe : List ℕ → List ℕ → List ℕ → Option Root
given_maybe stored uuid text = cond (eqb (u64_at stored 0) 1) (Some (given_root stored uuid text)) None

-- class, reason, 1 for the first or 2 for the second
abbrev pub which_fields : Result Selected Error → List ℕ
which_fields (Ok s) = 0 ∷ 0 ∷ s.which ∷ []
which_fields (Err e) = class_of e ∷ reason_of e ∷ 0 ∷ []

-- the numbers of the roots start at bytes 1 and 137; behind them, from byte 273 on, stand UUID and label of the first, each behind its length (at 277 and 297), then those of the second (at 556 and 576)
unfoldable pub selected_fields : List ℕ → List ℕ
selected_fields input =
    which_fields (select_root (given_maybe (drop 1 input) (drop 277 input) (drop 297 input)) (given_maybe (drop 137 input) (drop 556 input) (drop 576 input)))

-- ---- call 43: a lookup on a page's view

-- the page that the call asks for, the lookup on its view, and the first record
unfoldable pub hand_asked : Numbers → List ℕ → List ℕ → List ℕ → ℕ → Result Handed Error
hand_asked n uuid page key entries =
    hand_out (reference_to n.a n.b) (padded_to 16 uuid) (tree_kind_of n.c) n.d (expected_of (at_most 255 n.e)) n.f page key entries
