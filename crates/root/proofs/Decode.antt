-- What the checks before the fields tell of the block: its length, and a label that is not too long.
use mathlib.Core.Path.{◌≡◌}
use mathlib.Core.List.{List}
use Prim.Native.Nat.{ℕ, ◌≤◌}
use borrow.Author.Tests.{eqb-true, leb-true}
use lib.ListN.{length}
use Rattle.std.specs.Prelude.{Ok}
use Rattle.error.proofs.Exactly.{all_hold, passed_is}
use Rattle.octets.specs.Number.{u16_at}
use Rattle.root.specs.Root.{label_length, place_demands, check_place, label_field_demands, check_label, block_demands, check_block}

pub block_size : (s : List ℕ) (slot blocks : ℕ) → check_block s slot blocks ≡ Ok tt → length s ≡ 4096
unfolding check_block check_place
block_size s slot blocks e =
    let place = all_hold (place_demands s slot blocks) (passed_is (check_place s slot blocks) (all_hold (block_demands s slot blocks) e).0) in
    eqb-true (length s) 4096 place.0

pub block_label : (s : List ℕ) (slot blocks : ℕ) → check_block s slot blocks ≡ Ok tt → u16_at s 184 ≤ 255
unfolding check_block check_label
block_label s slot blocks e =
    let label = all_hold (label_field_demands s) (passed_is (check_label s) (all_hold (block_demands s slot blocks) e).1.1.0) in
    leb-true (label_length s) 255 label.0
