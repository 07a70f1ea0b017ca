-- An inode is accepted exactly when its conditions hold.
use mathlib.Core.Path.{◌≡◌, refl, sym, ap, ◌∙◌}
use mathlib.Core.Bool.{Bool, true, false, ◌&&◌, false≢true}
use mathlib.Core.Logic.{◌↔◌, ◌⊎◌, inl, inr, ⊎_elim}
use mathlib.Core.List.{List}
use Prim.Native.Nat.{ℕ, ◌+◌, ◌-◌, ◌^◌, ◌≤◌}
use native.Mathlib.Decide.{ℕ_discrete, dec_le}
use native.Mathlib.Omega.{arith}
use borrow.Author.Tests.{le-leb, leb-true, eq-eqb, eqb-true}
use lib.Dec.{eqb}
use lib.ListN.{length, drop, replicate}
use Rattle.std.specs.Prelude.{Ok}
use Rattle.std.proofs.lemmas.Bool.{or_cases}
use Rattle.error.specs.declared.Validation.{Validation}
use Rattle.error.specs.Demand.{is_passed, AllHold}
use Rattle.error.proofs.Exactly.{all_hold, all_pass, passed_is, passed_test}
use Rattle.error.proofs.Tests.{and_left, and_right, and_both, or_first, or_second}
use Rattle.octets.specs.Bytes.{byte_at, part, bit, all_zero}
use Rattle.octets.specs.Number.{u64_at}
use Rattle.octets.proofs.Join.{part_length}
use Rattle.octets.proofs.Zero.{zeros_are, zeros_zero}
use Rattle.volume.proofs.Accept.{is_some}
use Rattle.catalog.specs.Keys.{validate_owner_id}
use Rattle.catalog.specs.Times.{validate_timestamp}
use Rattle.catalog.specs.Inode.{ends_right, flags_allowed, fields_in_range, fields_of_type, flags_and_reserved, target_check, inode_demands, validate_inode}
use Rattle.records.specs.Catalog.{FileHolds, DirectoryHolds, SymlinkHolds, StoredTimeHolds, InodeHolds}
use Rattle.records.proofs.Keys.{owner_exactly}
use Rattle.records.proofs.Times.{stored_exactly}
use Rattle.records.proofs.Targets.{target_exactly}

-- ---- flags

without_kind : (f : ℕ) → f ≤ 7 → bit f 1 ≡ 0 → bit f 2 ≡ 0 → f ≤ 1
without_kind f few one two = omega arith

plain_flags : (t f : ℕ) → eqb t 3 ≡ false → flags_allowed t f ≡ true → f ≤ 1
plain_flags t f n e =
    let both : (eqb (bit f 1) 0 && eqb (bit f 2) 0) ≡ true = ⊎_elim (λ h. h) (λ h. absurd (false≢true (sym n ∙ h))) (or_cases _ _ (and_right _ _ (and_left _ _ e))) in
    without_kind f (leb-true f 7 (and_left _ _ (and_left _ _ e))) (eqb-true (bit f 1) 0 (and_left _ _ both)) (eqb-true (bit f 2) 0 (and_right _ _ both))

flags_plain : (t f : ℕ) → f ≤ 1 → flags_allowed t f ≡ true
flags_plain t f h =
    let one = eq-eqb (bit f 1) 0 (omega arith) in
    let two = eq-eqb (bit f 2) 0 (omega arith) in
    and_both _ _ (and_both _ _ (le-leb f 7 (omega arith)) (or_first _ _ (and_both _ _ one two))) (or_first _ _ two)

link_flags : (f : ℕ) → flags_allowed 3 f ≡ true → (f ≤ 3) ⊎ (6 ≤ f) × (f ≤ 7)
link_flags f e =
    let few = leb-true f 7 (and_left _ _ (and_left _ _ e)) in
    go few (dec_le f 3) (or_cases _ _ (and_right _ _ e))
  where
    go : f ≤ 7 → Dec (f ≤ 3) → (eqb (bit f 2) 0 ≡ true) ⊎ (eqb (bit f 1) 1 ≡ true) → (f ≤ 3) ⊎ (6 ≤ f) × (f ≤ 7)
    go few (yes h) d = inl h
    go few (no h) (inl p) = let two = eqb-true (bit f 2) 0 p in absurd (omega arith)
    go few (no h) (inr p) = let one = eqb-true (bit f 1) 1 p in inr (omega arith, few)

flags_link : (f : ℕ) → (f ≤ 3) ⊎ (6 ≤ f) × (f ≤ 7) → flags_allowed 3 f ≡ true
flags_link f (inl h) = and_both _ _ (and_both _ _ (le-leb f 7 (omega arith)) (or_second _ _ refl)) (or_first _ _ (eq-eqb (bit f 2) 0 (omega arith)))
flags_link f (inr h) = and_both _ _ (and_both _ _ (le-leb f 7 h.1) (or_second _ _ refl)) (or_second _ _ (eq-eqb (bit f 1) 1 (omega arith)))

-- ---- what the type says

behind_128 : (size len : ℕ) → 128 ≤ len → size ≡ len - 128 → size + 128 ≡ len
behind_128 size len l e = omega arith

-- the tests that go by the type, all of them passed
record Typed (value : List ℕ) (mode : Validation) : Type 0 where
  long : 128 ≤ length value
  low : 1 ≤ byte_at value 0
  high : byte_at value 0 ≤ 3
  ends : ends_right (byte_at value 0) (length value) ≡ true
  flags : flags_allowed (byte_at value 0) (byte_at value 1) ≡ true
  fields : fields_of_type (byte_at value 0) (length value - 128) (u64_at value 16) (u64_at value 24) (u64_at value 32) ≡ true
  target : target_check value mode ≡ Ok tt

module _ (value : List ℕ) (mode : Validation) where
  file : byte_at value 0 ≡ 1 → Typed value mode → FileHolds value
  unfolding fields_of_type
  file k t =
      let e = rw k at t.ends in
      let f = rw k at t.fields in
      record { type = omega (arith, k); value_size = eqb-true (length value) 128 e; flags = plain_flags (byte_at value 0) (byte_at value 1) (rw k refl) t.flags; children_zero = eqb-true (u64_at value 32) 0 (and_left _ _ f) }

  directory : byte_at value 0 ≡ 2 → Typed value mode → DirectoryHolds value
  unfolding fields_of_type
  directory k t =
      let e = rw k at t.ends in
      let f = rw k at t.fields in
      let size : Bool = eqb (u64_at value 16) 0 in
      let allocated : Bool = eqb (u64_at value 24) 0 in
      let z = and_left (size && allocated) true (and_left (size && allocated && true) true f) in
      let s : u64_at value 16 ≡ 0 = eqb-true (u64_at value 16) 0 (and_left size allocated z) in
      record {
        type = omega (arith, k);
        value_size = eqb-true (length value) 128 e;
        flags = plain_flags (byte_at value 0) (byte_at value 1) (rw k refl) t.flags;
        size_zero = omega (arith, s);
        blocks_zero = eqb-true (u64_at value 24) 0 (and_right _ _ z);
      }

  symlink : byte_at value 0 ≡ 3 → Typed value mode → SymlinkHolds value
  unfolding fields_of_type target_check
  symlink k t =
      let f = rw k at t.fields in
      let g = rw k at t.flags in
      let c = rw k at t.target in
      let z = and_left _ _ f in
      record {
        type = omega (arith, k);
        value_size = behind_128 (u64_at value 16) (length value) t.long (eqb-true (u64_at value 16) (length value - 128) (and_right _ _ f));
        flags = ⊎_elim (λ (a : byte_at value 1 ≤ 3). inl (omega (arith, a))) (λ (b : (6 ≤ byte_at value 1) × (byte_at value 1 ≤ 7)). inr (omega (arith, b.0), omega (arith, b.1))) (link_flags (byte_at value 1) g);
        blocks_zero = eqb-true (u64_at value 24) 0 (and_left _ _ z);
        children_zero = eqb-true (u64_at value 32) 0 (and_right _ _ z);
        target = (target_exactly (drop 128 value) mode).0 c;
      }

  of_type : Typed value mode → FileHolds value ⊎ (DirectoryHolds value ⊎ SymlinkHolds value)
  of_type t = go (ℕ_discrete (byte_at value 0) 1) (ℕ_discrete (byte_at value 0) 2)
    where
      go : Dec (byte_at value 0 ≡ 1) → Dec (byte_at value 0 ≡ 2) → FileHolds value ⊎ (DirectoryHolds value ⊎ SymlinkHolds value)
      go (yes k) d = inl (file k t)
      go (no n) (yes k) = inr (inl (directory k t))
      go (no n) (no m) = inr (inr (symlink (omega (arith, t.low, t.high)) t))

  typed : FileHolds value ⊎ (DirectoryHolds value ⊎ SymlinkHolds value) → Typed value mode
  unfolding fields_of_type target_check
  typed (inl h) =
      let k : byte_at value 0 ≡ 1 = omega (arith, h.type) in
      record {
        long = omega (arith, h.value_size);
        low = omega (arith, k);
        high = omega (arith, k);
        ends = or_second _ _ (eq-eqb (length value) 128 h.value_size);
        flags = flags_plain (byte_at value 0) (byte_at value 1) h.flags;
        fields = rw (k, h.children_zero) refl;
        target = rw k refl;
      }
  typed (inr (inl h)) =
      let k : byte_at value 0 ≡ 2 = omega (arith, h.type) in
      let s : u64_at value 16 ≡ 0 = omega (arith, h.size_zero) in
      record {
        long = omega (arith, h.value_size);
        low = omega (arith, k);
        high = omega (arith, k);
        ends = or_second _ _ (eq-eqb (length value) 128 h.value_size);
        flags = flags_plain (byte_at value 0) (byte_at value 1) h.flags;
        fields = rw (k, s, h.blocks_zero) refl;
        target = rw k refl;
      }
  typed (inr (inr h)) =
      let k : byte_at value 0 ≡ 3 = omega (arith, h.type) in
      let f : (byte_at value 1 ≤ 3) ⊎ (6 ≤ byte_at value 1) × (byte_at value 1 ≤ 7) = ⊎_elim (λ a. inl (omega (arith, a))) (λ b. inr (omega (arith, b.0), omega (arith, b.1))) h.flags in
      record {
        long = omega (arith, h.value_size);
        low = omega (arith, k);
        high = omega (arith, k);
        ends = or_first _ _ (eq-eqb (byte_at value 0) 3 k);
        flags = rw k (flags_link (byte_at value 1) f);
        fields = rw (k, h.blocks_zero, h.children_zero) (eq-eqb (u64_at value 16) (length value - 128) (omega (arith, h.value_size)));
        target = rw k ((target_exactly (drop 128 value) mode).1 h.target);
      }

-- ---- inodes

-- zeros among the first 128 bytes
zero_part : (value : List ℕ) (offset width : ℕ) → 128 ≤ length value → offset + width ≤ 128 → all_zero (part value offset width) ≡ true → part value offset width ≡ replicate width 0
zero_part value offset width l w e = zeros_are (part value offset width) width (part_length value offset width (omega arith)) e

module _ (value : List ℕ) (blocks : ℕ) (mode : Validation) where
  typed_of : AllHold (inode_demands value blocks mode) → Typed value mode
  unfolding flags_and_reserved
  typed_of h = record {
    long = leb-true 128 (length value) (and_left _ _ h.1.1.0);
    low = leb-true 1 (byte_at value 0) (and_left _ _ h.1.0);
    high = leb-true (byte_at value 0) 3 (and_right _ _ h.1.0);
    ends = and_right _ _ h.1.1.0;
    flags = and_left _ _ (and_left _ _ h.1.1.1.0);
    fields = h.1.1.1.1.1.1.0;
    target = passed_is (target_check value mode) h.1.1.1.1.1.1.1.0;
  }

  time_of : (offset : ℕ) → is_passed (validate_timestamp value offset mode) ≡ true → StoredTimeHolds value offset
  time_of offset e = (stored_exactly value offset mode).0 (passed_is (validate_timestamp value offset mode) e)

  holds : validate_inode value blocks mode ≡ Ok tt → InodeHolds value blocks
  unfolding validate_inode flags_and_reserved fields_in_range
  holds e =
      let h = all_hold (inode_demands value blocks mode) e in
      let t = typed_of h in
      let f = h.1.1.1 in
      let n = f.1.1 in
      let l = n.1.1.1 in
      record {
        of_type = of_type value mode t;
        zeros_2 = zero_part value 2 6 t.long (omega arith) (and_right _ _ (and_left _ _ f.0));
        parent = (owner_exactly (u64_at value 8) mode).0 (passed_is (validate_owner_id (u64_at value 8) mode) f.1.0);
        size_most = leb-true (u64_at value 16) (2 ^ 63 - 1) (and_left _ _ (and_left _ _ n.0));
        blocks_most = leb-true (u64_at value 24) blocks (and_right _ _ (and_left _ _ n.0));
        children_most = leb-true (u64_at value 32) (2 ^ 63 - 1) (and_right _ _ n.0);
        time_40 = time_of 40 l.0;
        time_56 = time_of 56 l.1.0;
        time_72 = time_of 72 l.1.1.0;
        zeros_88 = zero_part value 88 40 t.long (omega arith) (and_right _ _ f.0);
      }

  passes : InodeHolds value blocks → validate_inode value blocks mode ≡ Ok tt
  unfolding validate_inode flags_and_reserved fields_in_range
  passes h =
      let t = typed value mode h.of_type in
      let type = and_both _ _ (le-leb 1 (byte_at value 0) t.low) (le-leb (byte_at value 0) 3 t.high) in
      let zeros_2 : all_zero (part value 2 6) ≡ true = ap all_zero h.zeros_2 ∙ zeros_zero 6 in
      let zeros_88 : all_zero (part value 88 40) ≡ true = ap all_zero h.zeros_88 ∙ zeros_zero 40 in
      let range = and_both _ _ (and_both _ _ (le-leb (u64_at value 16) (2 ^ 63 - 1) h.size_most) (le-leb (u64_at value 24) blocks h.blocks_most)) (le-leb (u64_at value 32) (2 ^ 63 - 1) h.children_most) in
      let owner = passed_test _ tt ((owner_exactly (u64_at value 8) mode).1 h.parent) in
      let time = λ (offset : ℕ) (s : StoredTimeHolds value offset). passed_test _ tt ((stored_exactly value offset mode).1 s) in
      all_pass (inode_demands value blocks mode) (
        is_some (length value) (omega (arith, t.long)),
        (type, (and_both _ _ (le-leb 128 (length value) t.long) t.ends, (and_both _ _ (and_both _ _ t.flags zeros_2) zeros_88, (owner, (range, (t.fields, (passed_test _ tt t.target, (time 40 h.time_40, (time 56 h.time_56, (time 72 h.time_72, tt)))))))))),
      )

  pub inode_exactly : (validate_inode value blocks mode ≡ Ok tt) ↔ InodeHolds value blocks
  inode_exactly = (holds, passes)
