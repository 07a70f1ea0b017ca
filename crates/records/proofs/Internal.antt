-- Internal records are accepted exactly when the conditions of specs/Record hold.
use mathlib.Core.Path.{◌≡◌, refl}
use mathlib.Core.Bool.{Bool, true, false, ◌&&◌, ◌||◌, cond}
use mathlib.Core.Logic.{◌↔◌, inl, inr}
use mathlib.Core.List.{List}
use Prim.Native.Nat.{ℕ, ◌≤◌}
use native.Mathlib.Omega.{arith}
use borrow.Author.Tests.{le-leb, leb-true, eq-eqb, eqb-true}
use lib.Dec.{eqb}
use lib.ListN.{length}
use Rattle.std.specs.Prelude.{Ok, Err}
use Rattle.error.specs.declared.Validation.{Validation}
use Rattle.error.specs.Answer.{Check, Number, number_check, violation_of}
use Rattle.error.specs.Reason as reason
use Rattle.error.proofs.Exactly.{all_hold, all_pass, passed_is, passed_test, given_exactly}
use Rattle.error.proofs.Tests.{and_left, and_right, and_both, one_of}
use Rattle.octets.specs.Bytes.{byte_at}
use Rattle.octets.specs.Number.{u64_at, big_at}
use Rattle.volume.specs.declared.TreeRef.{TreeRef}
use Rattle.volume.specs.declared.TreeKind.{TreeKind}
use Rattle.volume.specs.Accept.{NonReserved}
use Rattle.volume.specs.References.{ref_at, validate_page_ref}
use Rattle.volume.proofs.Accept.{some_is, is_some, nonreserved_exactly, page_ref_exactly}
use Rattle.catalog.specs.Keys.{validate_owner_id, validate_catalog_key}
use Rattle.record.specs.Internal.{allocation_key_demands, allocation_internal_key, retirement_key_demands, retirement_key, cleanup_internal_key, internal_key, internal_demands, validate_internal_record}
use Rattle.records.specs.Record.{GroupKeyHolds, CleanupKeyHolds, InternalKeyHolds, InternalHolds}
use Rattle.records.proofs.Keys.{owner_exactly, key_exactly}
use Rattle.volume.proofs.Accept.{groups_exactly}
use Rattle.records.proofs.Allocation.{index_holds, index_passes}
use Rattle.records.proofs.Workspace.{workspace_key}

-- ---- a key of the allocation tree

module _ (key : List ℕ) (blocks : ℕ) (mode : Validation) where
  group_key_holds : allocation_internal_key key blocks mode ≡ Ok tt → GroupKeyHolds key blocks
  unfolding allocation_internal_key
  group_key_holds e =
      let h = all_hold (allocation_key_demands key blocks mode) e in
      let i = index_holds (big_at key 0) blocks reason.allocation_internal_key reason.allocation_internal_key_range mode (passed_is _ h.1.0) in
      record { key_size = eqb-true (length key) 8 h.0; sum = i.0; number = (groups_exactly (big_at key 0) blocks).0 i.1 }

  group_key_passes : GroupKeyHolds key blocks → allocation_internal_key key blocks mode ≡ Ok tt
  unfolding allocation_internal_key
  group_key_passes h =
      all_pass (allocation_key_demands key blocks mode)
      (eq-eqb (length key) 8 h.key_size, (passed_test _ tt (index_passes (big_at key 0) blocks reason.allocation_internal_key reason.allocation_internal_key_range mode h.sum ((groups_exactly (big_at key 0) blocks).1 h.number)), tt))

-- ---- a retirement's key

module _ (generation first blocks page_generation : ℕ) (mode : Validation) where
  retirement_key_holds : retirement_key generation first blocks page_generation mode ≡ Ok tt → (1 ≤ generation) × (generation ≤ page_generation) × NonReserved first blocks
  unfolding retirement_key
  retirement_key_holds e =
      let h = all_hold (retirement_key_demands generation first blocks page_generation mode) e in (
        some_is generation (and_left _ _ h.0),
        leb-true generation page_generation (and_right _ _ h.0),
        (nonreserved_exactly first blocks).0 h.1.0,
      )

  retirement_key_passes : 1 ≤ generation → generation ≤ page_generation → NonReserved first blocks → retirement_key generation first blocks page_generation mode ≡ Ok tt
  unfolding retirement_key
  retirement_key_passes s n f =
      all_pass (retirement_key_demands generation first blocks page_generation mode)
      (and_both _ _ (is_some generation s) (le-leb generation page_generation n), ((nonreserved_exactly first blocks).1 f, tt))

-- ---- a check that gives a number, as a check alone

pub number_is : (r : Number) → number_check r ≡ Ok tt → (n : ℕ) × (r ≡ Ok n)
number_is (Ok n) e = (n, refl)
number_is (Err x) e = let z : ◌≡◌ {A = ℕ} 0 1 = cc in absurd (omega arith)

-- ---- a key of the cleanup tree

module _ (key : List ℕ) (blocks page_generation : ℕ) (mode : Validation) where
  abbrev one : Bool
  one = eqb (byte_at key 0) 1

  abbrev other : Bool
  other = eqb (byte_at key 0) 2 || eqb (byte_at key 0) 3

  abbrev asked : Bool → Bool → Check
  asked retired job_or_object =
      cond retired (retirement_key (big_at key 1) (big_at key 9) blocks page_generation mode)
      (cond job_or_object (validate_owner_id (big_at key 1) mode)
      (Err (violation_of mode reason.invalid_cleanup_internal_key)))

  cleanup_key_by : (a b : Bool) → (one && eqb (length key) 17) ≡ a → (other && eqb (length key) 9) ≡ b → asked a b ≡ Ok tt → CleanupKeyHolds key blocks page_generation
  cleanup_key_by true b p q e =
      let r = retirement_key_holds (big_at key 1) (big_at key 9) blocks page_generation mode e in
      CleanupKeyHolds.retirement (eqb-true (byte_at key 0) 1 (and_left _ _ p)) (eqb-true (length key) 17 (and_right _ _ p)) r.0 r.1 r.2
  cleanup_key_by false true p q e =
      CleanupKeyHolds.job_or_object (one_of (byte_at key 0) 2 3 (and_left _ _ q)) (eqb-true (length key) 9 (and_right _ _ q)) ((owner_exactly (big_at key 1) mode).0 e)
  cleanup_key_by false false p q e = let z : ◌≡◌ {A = ℕ} 0 1 = cc in absurd (omega arith)

  cleanup_key_holds : cleanup_internal_key key blocks page_generation mode ≡ Ok tt → CleanupKeyHolds key blocks page_generation
  unfolding cleanup_internal_key
  cleanup_key_holds e = cleanup_key_by (one && eqb (length key) 17) (other && eqb (length key) 9) refl refl e

cleanup_key_passes : {key : List ℕ} {blocks page_generation : ℕ} → (mode : Validation) → CleanupKeyHolds key blocks page_generation → cleanup_internal_key key blocks page_generation mode ≡ Ok tt
unfolding cleanup_internal_key
cleanup_key_passes {key} {blocks} {page_generation} mode (CleanupKeyHolds.retirement p l s n f) = rw (p, l) (retirement_key_passes (big_at key 1) (big_at key 9) blocks page_generation mode s n f)
cleanup_key_passes {key} {blocks} {page_generation} mode (CleanupKeyHolds.job_or_object (inl p) l o) = rw (p, l) ((owner_exactly (big_at key 1) mode).1 o)
cleanup_key_passes {key} {blocks} {page_generation} mode (CleanupKeyHolds.job_or_object (inr p) l o) = rw (p, l) ((owner_exactly (big_at key 1) mode).1 o)

-- ---- a key by its tree's kind

module _ (key : List ℕ) (blocks page_generation : ℕ) (mode : Validation) where
  key_holds : (kind : TreeKind) → internal_key kind key blocks page_generation mode ≡ Ok tt → InternalKeyHolds kind key blocks page_generation
  unfolding internal_key
  key_holds TreeKind.Catalog e = let n = number_is (validate_catalog_key key mode) e in ((key_exactly key mode n.0).0 n.1).0
  key_holds TreeKind.Allocation e = group_key_holds key blocks mode e
  key_holds TreeKind.Cleanup e = cleanup_key_holds key blocks page_generation mode e
  key_holds TreeKind.Workspace e = (workspace_key key blocks mode).0 e

  key_passes : (kind : TreeKind) → InternalKeyHolds kind key blocks page_generation → internal_key kind key blocks page_generation mode ≡ Ok tt
  unfolding internal_key
  key_passes TreeKind.Catalog h = rw ((key_exactly key mode (byte_at key 8)).1 (h, refl))
  key_passes TreeKind.Allocation h = group_key_passes key blocks mode h
  key_passes TreeKind.Cleanup h = cleanup_key_passes mode h
  key_passes TreeKind.Workspace h = (workspace_key key blocks mode).1 h

-- ---- an internal record

module _ (kind : TreeKind) (key value : List ℕ) (blocks page_generation : ℕ) (mode : Validation) (reference : TreeRef) where
  holds : validate_internal_record kind key value blocks page_generation mode ≡ Ok reference → InternalHolds kind key value blocks page_generation × (reference ≡ ref_at value 0)
  unfolding validate_internal_record
  holds e =
      let g = (given_exactly (internal_demands kind key value blocks page_generation mode) (ref_at value 0) reference).0 e in
      let h = g.0 in (
        record {
          key_holds = key_holds key blocks page_generation mode kind (passed_is (internal_key kind key blocks page_generation mode) h.0);
          value_size = eqb-true (length value) 16 h.1.0;
          child = (page_ref_exactly (ref_at value 0) blocks mode kind).0 (passed_is (validate_page_ref (ref_at value 0) kind blocks mode) h.1.1.0);
          not_newer = leb-true (u64_at value 8) page_generation h.1.1.1.0;
        },
        g.1,
      )

  passes : InternalHolds kind key value blocks page_generation × (reference ≡ ref_at value 0) → validate_internal_record kind key value blocks page_generation mode ≡ Ok reference
  unfolding validate_internal_record
  passes t =
      let h = t.0 in
      (given_exactly (internal_demands kind key value blocks page_generation mode) (ref_at value 0) reference).1 (
        (
          passed_test (internal_key kind key blocks page_generation mode) tt (key_passes key blocks page_generation mode kind h.key_holds),
          (
            eq-eqb (length value) 16 h.value_size,
            (
              passed_test (validate_page_ref (ref_at value 0) kind blocks mode) tt ((page_ref_exactly (ref_at value 0) blocks mode kind).1 h.child),
              (le-leb (u64_at value 8) page_generation h.not_newer, tt),
            ),
          ),
        ),
        t.1,
      )

  pub internal_record : (validate_internal_record kind key value blocks page_generation mode ≡ Ok reference) ↔ (InternalHolds kind key value blocks page_generation × (reference ≡ ref_at value 0))
  internal_record = (holds, passes)
