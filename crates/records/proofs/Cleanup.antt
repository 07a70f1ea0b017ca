-- Records of the cleanup tree are accepted exactly when the conditions of specs/Record hold.
use mathlib.Core.Path.{◌≡◌, refl}
use mathlib.Core.Bool.{Bool, true, false, cond}
use mathlib.Core.Logic.{◌↔◌, ◌⊎◌, inl, inr}
use mathlib.Core.List.{List}
use Prim.Native.Nat.{ℕ, ◌+◌, ◌≤◌}
use native.Mathlib.Omega.{arith}
use borrow.Author.Tests.{le-leb, leb-true, eq-eqb, eqb-true}
use lib.Dec.{eqb}
use lib.ListN.{length, replicate}
use Rattle.std.specs.Prelude.{Ok, Err}
use Rattle.error.specs.declared.Validation.{Validation}
use Rattle.error.specs.Answer.{Check, violation_of}
use Rattle.error.specs.Reason as reason
use Rattle.error.proofs.Exactly.{all_hold, all_pass, passed_is, passed_test}
use Rattle.error.proofs.Tests.{and_left, and_right, and_both, is_one_of_lem}
use Rattle.octets.specs.Bytes.{byte_at, part}
use Rattle.octets.specs.Number.{u32_at, u64_at, big_at}
use Rattle.octets.proofs.Join.{part_length}
use Rattle.octets.proofs.Zero.{zeros_are}
use Rattle.volume.proofs.Accept.{some_is, is_some, run_holds, holds_run, tree_ref_exactly}
use Rattle.volume.specs.Accept.{NonReservedRun}
use Rattle.volume.specs.Numbers.{largest, sum_fits}
use Rattle.volume.specs.References.{ref_at, validate_tree_ref}
use Rattle.catalog.specs.Keys.{validate_owner_id}
use Rattle.record.specs.Cleanup.{is_retirement_range, retirement_demands, validate_retirement, is_kind_range, detached_tree_demands, validate_detached_tree, orphan_marker_demands, validate_orphan_marker, cleanup_record, cleanup_demands, validate_cleanup_key_value}
use Rattle.records.specs.Record.{RetirementHolds, DetachedHolds, OrphanHolds, CleanupHolds}
use Rattle.records.proofs.Keys.{owner_exactly}

-- ---- a retired run

module _ (generation first count reserved blocks page_generation : ℕ) where
  range_holds : is_retirement_range generation first count reserved blocks page_generation ≡ true → (1 ≤ generation) × (generation ≤ page_generation) × NonReservedRun first count blocks × (reserved ≡ 0)
  unfolding is_retirement_range
  range_holds e =
      let four = and_left _ _ e in
      let three = and_left _ _ four in
      let two = and_left _ _ three in (
        some_is generation (and_left _ _ two),
        leb-true generation page_generation (and_right _ _ two),
        run_holds first count blocks (some_is count (and_right _ _ three)) (and_right _ _ e),
        eqb-true reserved 0 (and_right _ _ four),
      )

  range_passes : 1 ≤ generation → generation ≤ page_generation → NonReservedRun first count blocks → reserved ≡ 0 → is_retirement_range generation first count reserved blocks page_generation ≡ true
  unfolding is_retirement_range
  range_passes g n r z = rw (is_some generation g, le-leb generation page_generation n, is_some count r.count_least, eq-eqb reserved 0 z, holds_run first count blocks r)

module _ (key value : List ℕ) (blocks page_generation : ℕ) (mode : Validation) where
  retirement_holds : validate_retirement key value blocks page_generation mode ≡ Ok tt → RetirementHolds key value blocks page_generation
  unfolding validate_retirement
  retirement_holds e =
      let h = all_hold (retirement_demands key value blocks page_generation mode) e in
      let f : big_at key 9 + u32_at value 0 ≤ largest = leb-true (big_at key 9 + u32_at value 0) largest h.1.0 in
      let r = range_holds (big_at key 1) (big_at key 9) (u32_at value 0) (u32_at value 4) blocks page_generation h.1.1.0 in
      record {
        key_size = eqb-true (length key) 17 (and_left _ _ h.0);
        value_size = eqb-true (length value) 8 (and_right _ _ h.0);
        generation_least = r.0;
        not_newer = omega (arith, r.1);
        run = r.2;
        fits = omega arith;
        zero_4 = r.3;
      }

  retirement_passes : RetirementHolds key value blocks page_generation → validate_retirement key value blocks page_generation mode ≡ Ok tt
  unfolding validate_retirement
  retirement_passes h =
      let f : sum_fits (big_at key 9) (u32_at value 0) ≡ true = le-leb (big_at key 9 + u32_at value 0) largest (omega (arith, h.fits)) in
      all_pass (retirement_demands key value blocks page_generation mode) (
        and_both _ _ (eq-eqb (length key) 17 h.key_size) (eq-eqb (length value) 8 h.value_size),
        (f, (range_passes (big_at key 1) (big_at key 9) (u32_at value 0) (u32_at value 4) blocks page_generation h.generation_least (omega (arith, h.not_newer)) h.run h.zero_4, tt)),
      )

  pub retirement : (validate_retirement key value blocks page_generation mode ≡ Ok tt) ↔ RetirementHolds key value blocks page_generation
  retirement = (retirement_holds, retirement_passes)

-- ---- a detached tree's kinds

module _ (value : List ℕ) where
  abbrev low : ℕ
  low = byte_at value 8

  abbrev high : ℕ
  high = byte_at value 9

  kinds_hold : length value ≡ 32 → is_kind_range value ≡ true → (1 ≤ low) × (low ≤ high) × (high ≤ 4) × (part value 10 6 ≡ replicate 6 0)
  unfolding is_kind_range
  kinds_hold size e =
      let three = and_left _ _ e in
      let two = and_left _ _ three in (
        leb-true 1 low (and_left _ _ (and_left _ _ two)),
        leb-true low high (and_right _ _ three),
        leb-true high 4 (and_right _ _ (and_right _ _ two)),
        zeros_are (part value 10 6) 6 (part_length value 10 6 (omega (arith, size))) (and_right _ _ e),
      )

  kinds_pass : 1 ≤ low → low ≤ high → high ≤ 4 → part value 10 6 ≡ replicate 6 0 → is_kind_range value ≡ true
  unfolding is_kind_range
  kinds_pass l o h z = rw (le-leb 1 low l, le-leb low 4 (omega arith), le-leb 1 high (omega arith), le-leb high 4 h, le-leb low high o, z)

-- ---- a detached tree

module _ (key value : List ℕ) (blocks page_generation : ℕ) (mode : Validation) where
  detached_holds : validate_detached_tree key value blocks page_generation mode ≡ Ok tt → DetachedHolds key value blocks page_generation
  unfolding validate_detached_tree
  detached_holds e =
      let h = all_hold (detached_tree_demands key value blocks page_generation mode) e in
      let size : length value ≡ 32 = eqb-true (length value) 32 (and_right (eqb (length key) 9) (eqb (length value) 32) h.0) in
      let k = kinds_hold value size h.1.1.1.0 in
      record {
        key_size = eqb-true (length key) 9 (and_left _ _ h.0);
        value_size = size;
        job = (owner_exactly (big_at key 1) mode).0 (passed_is (validate_owner_id (big_at key 1) mode) h.1.0);
        owner = (owner_exactly (u64_at value 0) mode).0 (passed_is (validate_owner_id (u64_at value 0) mode) h.1.1.0);
        low = k.0;
        ordered = omega (arith, k.1, k.2);
        high = k.2;
        zeros = k.3;
        tree = (tree_ref_exactly (ref_at value 16) blocks mode).0 (passed_is (validate_tree_ref (ref_at value 16) blocks mode) h.1.1.1.1.0);
        not_newer = leb-true (u64_at value 24) page_generation h.1.1.1.1.1.0;
      }

  detached_passes : DetachedHolds key value blocks page_generation → validate_detached_tree key value blocks page_generation mode ≡ Ok tt
  unfolding validate_detached_tree
  detached_passes h =
      all_pass (detached_tree_demands key value blocks page_generation mode) (
        and_both _ _ (eq-eqb (length key) 9 h.key_size) (eq-eqb (length value) 32 h.value_size),
        (
          passed_test (validate_owner_id (big_at key 1) mode) tt ((owner_exactly (big_at key 1) mode).1 h.job),
          (
            passed_test (validate_owner_id (u64_at value 0) mode) tt ((owner_exactly (u64_at value 0) mode).1 h.owner),
            (
              kinds_pass value h.low (omega (arith, h.ordered)) h.high h.zeros,
              (
                passed_test (validate_tree_ref (ref_at value 16) blocks mode) tt ((tree_ref_exactly (ref_at value 16) blocks mode).1 h.tree),
                (le-leb (u64_at value 24) page_generation h.not_newer, tt),
              ),
            ),
          ),
        ),
      )

  pub detached_tree : (validate_detached_tree key value blocks page_generation mode ≡ Ok tt) ↔ DetachedHolds key value blocks page_generation
  detached_tree = (detached_holds, detached_passes)

-- ---- an orphan marker

module _ (key value : List ℕ) (mode : Validation) where
  orphan_holds : validate_orphan_marker key value mode ≡ Ok tt → OrphanHolds key value
  unfolding validate_orphan_marker
  orphan_holds e =
      let h = all_hold (orphan_marker_demands key value mode) e in
      let l : length value ≡ 0 = eqb-true (length value) 0 (and_right (eqb (length key) 9) (eqb (length value) 0) h.0) in
      record {
        key_size = eqb-true (length key) 9 (and_left _ _ h.0);
        value_size = omega (arith, l);
        object = (owner_exactly (big_at key 1) mode).0 (passed_is (validate_owner_id (big_at key 1) mode) h.1.0);
      }

  orphan_passes : OrphanHolds key value → validate_orphan_marker key value mode ≡ Ok tt
  unfolding validate_orphan_marker
  orphan_passes h =
      all_pass (orphan_marker_demands key value mode) (
        and_both _ _ (eq-eqb (length key) 9 h.key_size) (eq-eqb (length value) 0 (omega (arith, h.value_size))),
        (passed_test (validate_owner_id (big_at key 1) mode) tt ((owner_exactly (big_at key 1) mode).1 h.object), tt),
      )

  pub orphan_marker : (validate_orphan_marker key value mode ≡ Ok tt) ↔ OrphanHolds key value
  orphan_marker = (orphan_holds, orphan_passes)

-- ---- a record by its kind

module _ (key value : List ℕ) (blocks page_generation : ℕ) (mode : Validation) where
  abbrev asked : Bool → Bool → Bool → Check
  asked one two three =
      cond one (validate_retirement key value blocks page_generation mode)
      (cond two (validate_detached_tree key value blocks page_generation mode)
      (cond three (validate_orphan_marker key value mode)
      (Err (violation_of mode reason.unknown_cleanup_record_kind))))

  by_kind : (one two three : Bool) → eqb (byte_at key 0) 1 ≡ one → eqb (byte_at key 0) 2 ≡ two → eqb (byte_at key 0) 3 ≡ three → asked one two three ≡ Ok tt → CleanupHolds key value blocks page_generation
  by_kind true two three p q r e = CleanupHolds.retirement (eqb-true (byte_at key 0) 1 p) (retirement_holds key value blocks page_generation mode e)
  by_kind false true three p q r e = CleanupHolds.detached (eqb-true (byte_at key 0) 2 q) (detached_holds key value blocks page_generation mode e)
  by_kind false false true p q r e = CleanupHolds.orphan (eqb-true (byte_at key 0) 3 r) (orphan_holds key value mode e)
  by_kind false false false p q r e = let z : ◌≡◌ {A = ℕ} 0 1 = cc in absurd (omega arith)

  record_holds : cleanup_record key value blocks page_generation mode ≡ Ok tt → CleanupHolds key value blocks page_generation
  unfolding cleanup_record
  record_holds e = by_kind (eqb (byte_at key 0) 1) (eqb (byte_at key 0) 2) (eqb (byte_at key 0) 3) refl refl refl e

  cleanup_holds : validate_cleanup_key_value key value blocks page_generation mode ≡ Ok tt → CleanupHolds key value blocks page_generation
  unfolding validate_cleanup_key_value
  cleanup_holds e = record_holds (passed_is (cleanup_record key value blocks page_generation mode) (all_hold (cleanup_demands key value blocks page_generation mode) e).1.0)

-- its key has one of the two lengths
long : {key value : List ℕ} {blocks page_generation : ℕ} → CleanupHolds key value blocks page_generation → (length key ≡ 9) ⊎ (length key ≡ 17)
long (CleanupHolds.retirement p h) = inr h.key_size
long (CleanupHolds.detached p h) = inl h.key_size
long (CleanupHolds.orphan p h) = inl h.key_size

record_passes : {key value : List ℕ} {blocks page_generation : ℕ} → (mode : Validation) → CleanupHolds key value blocks page_generation → cleanup_record key value blocks page_generation mode ≡ Ok tt
unfolding cleanup_record
record_passes {key} {value} {blocks} {page_generation} mode (CleanupHolds.retirement p h) = rw p (retirement_passes key value blocks page_generation mode h)
record_passes {key} {value} {blocks} {page_generation} mode (CleanupHolds.detached p h) = rw p (detached_passes key value blocks page_generation mode h)
record_passes {key} {value} {blocks} {page_generation} mode (CleanupHolds.orphan p h) = rw p (orphan_passes key value mode h)

module _ (key value : List ℕ) (blocks page_generation : ℕ) (mode : Validation) where
  cleanup_passes : CleanupHolds key value blocks page_generation → validate_cleanup_key_value key value blocks page_generation mode ≡ Ok tt
  unfolding validate_cleanup_key_value
  cleanup_passes h =
      all_pass (cleanup_demands key value blocks page_generation mode)
      (is_one_of_lem (length key) 9 17 (long h), (passed_test (cleanup_record key value blocks page_generation mode) tt (record_passes mode h), tt))

  pub cleanup : (validate_cleanup_key_value key value blocks page_generation mode ≡ Ok tt) ↔ CleanupHolds key value blocks page_generation
  cleanup = (cleanup_holds key value blocks page_generation mode, cleanup_passes)
