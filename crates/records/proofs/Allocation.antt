-- Allocation groups are accepted exactly when the conditions of specs/Record hold.
use mathlib.Core.Path.{◌≡◌, refl, sym, ap, ◌∙◌}
use mathlib.Core.Bool.{Bool, true, false, cond}
use mathlib.Core.Logic.{◌↔◌, ◌⊎◌, inl, inr, ⊎_elim}
use mathlib.Core.List.{List, [], ◌∷◌}
use Prim.Native.Nat.{ℕ, ◌+◌, ◌-◌, ◌*◌, ◌%◌, ◌^◌, ◌≤◌, ◌<◌, min, max}
use native.Mathlib.Omega.{arith}
use borrow.Author.Tests.{le-leb, leb-true, lt-ltb, ltb-true, eq-eqb, eqb-true}
use lib.Dec.{ltb}
use lib.ListN.{length}
use Rattle.std.specs.Prelude.{Ok, Err}
use Rattle.error.specs.declared.Validation.{Validation}
use Rattle.error.specs.Answer.{number_of}
use Rattle.error.specs.Demand.{is_passed, ◌otherwise◌, outcome}
use Rattle.error.specs.declared.Error.TheVariants.{Corrupt}
use Rattle.error.specs.Reason as reason
use Rattle.error.proofs.Exactly.{all_hold, all_pass, passed_is, passed_test, outcome_holds}
use Rattle.error.proofs.Tests.{and_left, and_right, and_both}
use Rattle.octets.specs.Below.{every}
use Rattle.octets.specs.Bytes.{bit_set}
use Rattle.octets.specs.Number.{big_at}
use Rattle.octets.proofs.Below.{every_at, every_all}
use Rattle.volume.specs.Groups.{groups_of, allocation_group_count, group_start, group_end}
use Rattle.volume.specs.Numbers.{largest, sum_fits}
use Rattle.record.specs.Allocation.{group_index_demands, validate_group_index, block_taken, taken_between, reserved_taken, allocation_group_demands, validate_allocation_group}
use Rattle.volume.proofs.Accept.{groups_exactly}
use Rattle.records.specs.Record.{ReservedTaken, AllocationHolds}

-- ---- the number of a group

module _ (blocks : ℕ) where
  -- where the groups can be counted, their count is that of the plain conditions
  counted_is : blocks + 16383 < 2 ^ 64 → allocation_group_count blocks ≡ Ok (groups_of blocks)
  unfolding allocation_group_count
  counted_is l = outcome_holds (sum_fits blocks 16383 otherwise Corrupt reason.allocation_group_range ∷ []) (Ok (groups_of blocks)) (le-leb (blocks + 16383) largest (omega arith), tt)

  counted : is_passed (allocation_group_count blocks) ≡ true → blocks + 16383 < 2 ^ 64
  unfolding allocation_group_count outcome
  counted e = let l : blocks + 16383 ≤ largest = leb-true (blocks + 16383) largest (go (sum_fits blocks 16383) e) in omega arith
    where
      go : (b : Bool) → is_passed (cond b (Ok (groups_of blocks)) (Err (Corrupt reason.allocation_group_range))) ≡ true → b ≡ true
      go true e = refl
      go false e = e

module _ (group blocks uncounted outside : ℕ) (mode : Validation) where
  pub index_holds : validate_group_index group blocks uncounted outside mode ≡ Ok tt → (blocks + 16383 < 2 ^ 64) × (group < groups_of blocks)
  unfolding validate_group_index
  index_holds e =
      let h = all_hold (group_index_demands group blocks uncounted outside mode) e in
      let c = counted blocks h.0 in
      (c, ltb-true group (groups_of blocks) (ap (λ r. ltb group (number_of r)) (sym (counted_is blocks c)) ∙ h.1.0))

  pub index_passes : blocks + 16383 < 2 ^ 64 → group < groups_of blocks → validate_group_index group blocks uncounted outside mode ≡ Ok tt
  unfolding validate_group_index
  index_passes c n =
      let g = counted_is blocks c in
      all_pass (group_index_demands group blocks uncounted outside mode) (
        passed_test (allocation_group_count blocks) (groups_of blocks) g,
        (ap (λ r. ltb group (number_of r)) g ∙ lt-ltb group (groups_of blocks) n, tt),
      )

-- ---- a range of blocks is taken exactly when each block in it is

taken_exactly : (value : List ℕ) (start end : ℕ) → (taken_between value start end ≡ true) ↔ ((block : ℕ) → start ≤ block → block < end → block_taken value block ≡ true)
unfolding taken_between
taken_exactly value start end = (there, back)
  where
    there : every (λ (i : ℕ). block_taken value (start + i)) (end - start) ≡ true → (block : ℕ) → start ≤ block → block < end → block_taken value block ≡ true
    there e block a b =
        let z : start + (block - start) ≡ block = omega arith in
        ap (block_taken value) (sym z) ∙ every_at (λ (i : ℕ). block_taken value (start + i)) (end - start) e (block - start) (omega arith)

    back : ((block : ℕ) → start ≤ block → block < end → block_taken value block ≡ true) → every (λ (i : ℕ). block_taken value (start + i)) (end - start) ≡ true
    back h = every_all (λ (i : ℕ). block_taken value (start + i)) (end - start) (λ i l. h (start + i) (omega arith) (omega arith))

-- ---- the reserved blocks of a group

module _ (value : List ℕ) (g blocks : ℕ) (counts : blocks + 16383 < 2 ^ 64) (below : g < groups_of blocks) where
  -- the group's first block is one of the volume's, so that 64 bits hold the ranges
  starts : 16384 * g < blocks
  unfolding groups_of
  starts = omega (arith, below)

  start_is : group_start g ≡ 16384 * g
  start_is = omega (arith, starts, counts)

  end_is : group_end g ≡ 16384 * (g + 1)
  end_is = omega (arith, starts, counts)

  bit_is : (block : ℕ) → 16384 * g ≤ block → block < 16384 * (g + 1) → block % 16384 ≡ block - 16384 * g
  bit_is block a b = omega arith

  taken_holds : reserved_taken value g blocks ≡ true → ReservedTaken value g blocks
  unfolding reserved_taken
  taken_holds e block a b (inl l) =
      ap (bit_set value) (sym (bit_is block a b))
      ∙ (taken_exactly value (group_start g) (min (group_end g) 512)).0 (and_left _ _ e) block (omega (arith, start_is)) (omega (arith, end_is))
  taken_holds e block a b (inr l) =
      ap (bit_set value) (sym (bit_is block a b))
      ∙ (taken_exactly value (max (blocks - 512) (group_start g)) (group_end g)).0 (and_right _ _ e) block (omega (arith, start_is)) (omega (arith, end_is))

  taken_passes : ReservedTaken value g blocks → reserved_taken value g blocks ≡ true
  unfolding reserved_taken
  taken_passes h =
      and_both _ _
      ((taken_exactly value (group_start g) (min (group_end g) 512)).1 low)
      ((taken_exactly value (max (blocks - 512) (group_start g)) (group_end g)).1 high)
    where
      taken : (block : ℕ) → 16384 * g ≤ block → block < 16384 * (g + 1) → (block < 512) ⊎ (blocks ≤ block + 512) → block_taken value block ≡ true
      taken block a b r = ap (bit_set value) (bit_is block a b) ∙ h block a b (⊎_elim (λ x. inl (omega (arith, x))) (λ x. inr (omega (arith, x))) r)

      low : (block : ℕ) → group_start g ≤ block → block < min (group_end g) 512 → block_taken value block ≡ true
      low block a b = taken block (omega (arith, start_is)) (omega (arith, end_is)) (inl (omega arith))

      high : (block : ℕ) → max (blocks - 512) (group_start g) ≤ block → block < group_end g → block_taken value block ≡ true
      high block a b = taken block (omega (arith, start_is)) (omega (arith, end_is)) (inr (omega arith))

-- ---- a group

module _ (key value : List ℕ) (blocks : ℕ) (mode : Validation) where
  holds : validate_allocation_group key value blocks mode ≡ Ok tt → AllocationHolds key value blocks
  unfolding validate_allocation_group
  holds e =
      let h = all_hold (allocation_group_demands key value blocks mode) e in
      let i = index_holds (big_at key 0) blocks reason.allocation_group_index reason.allocation_group_index_out_of_range mode (passed_is _ h.1.0) in
      record {
        key_holds = record { key_size = eqb-true (length key) 8 (and_left _ _ h.0); sum = i.0; number = (groups_exactly (big_at key 0) blocks).0 i.1 };
        value_size = eqb-true (length value) 2048 (and_right _ _ h.0);
        reserved = taken_holds value (big_at key 0) blocks i.0 i.1 h.1.1.0;
      }

  passes : AllocationHolds key value blocks → validate_allocation_group key value blocks mode ≡ Ok tt
  unfolding validate_allocation_group
  passes h =
      let k = h.key_holds in
      all_pass (allocation_group_demands key value blocks mode) (
        and_both _ _ (eq-eqb (length key) 8 k.key_size) (eq-eqb (length value) 2048 h.value_size),
        (
          passed_test _ tt (index_passes (big_at key 0) blocks reason.allocation_group_index reason.allocation_group_index_out_of_range mode k.sum ((groups_exactly (big_at key 0) blocks).1 k.number)),
          (taken_passes value (big_at key 0) blocks k.sum ((groups_exactly (big_at key 0) blocks).1 k.number) h.reserved, tt),
        ),
      )

  pub allocation_group : (validate_allocation_group key value blocks mode ≡ Ok tt) ↔ AllocationHolds key value blocks
  allocation_group = (holds, passes)
