-- Beside a refusal the other fields are 0.
use Prim.Native.Nat.{ℕ}
use mathlib.Core.Path.{◌≡◌, refl}
use mathlib.Core.List.{List}
use Rattle.volume.specs.References.{tree_kind_of}
use Rattle.group.specs.Group.{checksum_slot}
use Rattle.std.specs.Prelude.{Result, Ok, Err}
use Rattle.error.specs.declared.Error.{Error}
use Rattle.error.specs.Answer.{Check, check_words}
use Rattle.volume.specs.declared.TreeRef.{TreeRef}
use Rattle.record.specs.Internal.{validate_internal_record, child_words}
use Rattle.page.specs.declared.Page.{Page}
use Rattle.root.specs.declared.Selected.{Selected}
use Rattle.carryfs.specs.Words.{Bare}
use Rattle.carryfs.proofs.Bare.{beside_refusals}
use Rattle.calls.specs.declared.Numbers.{Numbers}
use Rattle.calls.specs.Told.{fields_in, mode_of, draft_fields}
use Rattle.calls.specs.Table.{word_rows, octet_rows, block_rows, inode_rows, entry_rows, record_rows, root_rows, page_rows, piece_rows, fields_of}
use Rattle.calls.specs.Given.{which_fields, selected_fields}
use Rattle.calls.specs.Refusals.{OfEach, classed, FieldsBesideRefusals}

-- an accepted answer has class 0
accepted : {P : Type 0} → (◌≡◌ {A = ℕ} 0 0 → ⊥) → P
accepted h = absurd (h refl)

check_bare : (c : Check) → Bare (check_words c)
unfolding check_words
check_bare (Ok passed) h = refl
check_bare (Err e) h = refl

child_bare : (c : Result TreeRef Error) → Bare (child_words c)
unfolding child_words
child_bare (Ok r) h = accepted h
child_bare (Err e) h = refl

draft_bare : (p : Result Page Error) → Bare (draft_fields p)
draft_bare (Ok p) h = accepted h
draft_bare (Err e) h = refl

which_bare : (s : Result Selected Error) → Bare (which_fields s)
which_bare (Ok s) h = accepted h
which_bare (Err e) h = refl

selected_bare : (call : List ℕ) → Bare (selected_fields call)
unfolding selected_fields
selected_bare call = which_bare _

listed_bare : (n : Numbers) (a b : List ℕ) → OfEach (λ call. Bare (fields_of call n a b)) classed
unfolding fields_of fields_in word_rows octet_rows block_rows inode_rows entry_rows record_rows root_rows page_rows piece_rows
listed_bare n a b =
    let number = beside_refusals.number in (
      number _,
      (
        number _,
        (
          number _,
          (
            number _,
            (
              number _,
              (
                check_bare _,
                (
                  check_bare _,
                  (
                    check_bare _,
                    (
                      check_bare _,
                      (
                        check_bare _,
                        (
                          check_bare _,
                          (
                            check_bare _,
                            (
                              check_bare _,
                              (
                                number _,
                                (
                                  check_bare _,
                                  (
                                    number _,
                                    (
                                      child_bare (validate_internal_record (tree_kind_of n.a) a b n.b n.c (mode_of n.d)),
                                      (
                                        number _,
                                        (
                                          beside_refusals.slot (checksum_slot a n.a),
                                          (
                                            beside_refusals.choice _,
                                            (beside_refusals.page _, (beside_refusals.page _, (draft_bare _, (number _, (number _, tt))))),
                                          ),
                                        ),
                                      ),
                                    ),
                                  ),
                                ),
                              ),
                            ),
                          ),
                        ),
                      ),
                    ),
                  ),
                ),
              ),
            ),
          ),
        ),
      ),
    )

pub refusals : FieldsBesideRefusals
refusals = record { listed = listed_bare; selected = selected_bare }
