-- The [P] cases of 01, section 2, hold of the definitions.
use mathlib.Core.Path.{◌≡◌, refl}
use mathlib.Core.Bool.{true, false, ◌&&◌, not, and-false}
use Prim.Native.Nat.{suc, ◌<◌}
use native.Mathlib.Decide.{dec_lt}
use native.Mathlib.Omega.{arith}
use borrow.Author.Tests.{le-leb, lt-leb, lt-ltb, le-ltb, eq-eqb, ne_eqb}
use lib.Dec.{leb, ltb, eqb}
use Rattle.error.specs.Demand.{outcome, all_true}
use Rattle.volume.specs.Blocks.{is_nonreserved_block, is_bank_root, is_bank_block, is_root_slot}
use Rattle.volume.specs.References.{validate_blocks, validate_tree_ref, validate_workspace_ref, validate_root_slot}
use Rattle.volume.specs.Cases.{cases, NoneAt1024, RefusedAt1024, Only512At1025, Accepted512At1025, CasesHold}

computed : all_true cases ≡ true
unfolding cases outcome is_bank_root is_bank_block is_root_slot validate_blocks validate_workspace_ref validate_root_slot
computed = refl

none : NoneAt1024
unfolding is_nonreserved_block
none block = go (dec_lt block 512)
  where
    go : Dec (block < 512) → (leb 512 block && true && ltb block 512) ≡ false
    go (yes h) = rw (lt-leb 512 block h)
    go (no h) = rw (le-leb 512 block (omega arith), le-ltb block 512 (omega arith))

one : Only512At1025
unfolding is_nonreserved_block
one block = go (dec_lt block 512) (dec_lt block 513)
  where
    go : Dec (block < 512) → Dec (block < 513) → (leb 512 block && true && ltb block 513) ≡ eqb block 512
    go (yes h) d = rw (lt-leb 512 block h, ne_eqb block 512 (omega arith))
    go (no h) (yes l) = rw (le-leb 512 block (omega arith), lt-ltb block 513 l, eq-eqb block 512 (omega arith))
    go (no h) (no l) = rw (le-leb 512 block (omega arith), le-ltb block 513 (omega arith), ne_eqb block 512 (omega arith))

-- whether a reference passes goes by the test of its block
refused : RefusedAt1024
unfolding validate_tree_ref validate_blocks outcome
refused reference mode = rw (none reference.block, and-false (not (eqb reference.generation 0)))

accepted : Accepted512At1025
unfolding validate_tree_ref validate_blocks outcome
accepted block generation mode = rw (one block, ne_eqb (suc generation) 0 (λ e. omega arith))

pub cases_hold : CasesHold
cases_hold = record { computed = computed; none = none; refused = refused; one = one; accepted = accepted }
