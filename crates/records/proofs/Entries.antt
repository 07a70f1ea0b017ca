-- Directory entries and extents are accepted exactly when their conditions hold.
use mathlib.Core.Path.{◌≡◌}
use mathlib.Core.Bool.{Bool, not, ◌&&◌}
use mathlib.Core.Logic.{◌↔◌}
use mathlib.Core.List.{List}
use Prim.Native.Nat.{ℕ, ◌+◌, ◌^◌, ◌≤◌}
use native.Mathlib.Omega.{arith}
use borrow.Author.Tests.{le-leb, leb-true, eq-eqb, eqb-true}
use lib.Dec.{eqb, leb}
use lib.ListN.{length, drop}
use Rattle.std.specs.Prelude.{Ok}
use Rattle.error.specs.declared.Validation.{Validation}
use Rattle.error.specs.Demand.{AllHold}
use Rattle.error.proofs.Exactly.{all_hold, all_pass, given_exactly, passed_is, passed_test}
use Rattle.error.proofs.Tests.{and_left, and_right, and_both}
use Rattle.octets.specs.Bytes.{byte_at}
use Rattle.octets.specs.Number.{u16_at, u32_at, u64_at, big_at}
use Rattle.utf8.specs.Inside.{utf8}
use Rattle.utf8.proofs.Grammar.{utf8_is_grammar}
use Rattle.volume.specs.Blocks.{is_nonreserved_run}
use Rattle.volume.specs.Numbers.{largest}
use Rattle.volume.proofs.Accept.{some_is, is_some, run_holds, holds_run}
use Rattle.catalog.specs.Keys.{validate_owner_id}
use Rattle.catalog.specs.Entry.{is_entry_name, directory_entry_demands, validate_directory_entry}
use Rattle.catalog.specs.Extent.{is_extent_range, extent_demands, validate_extent}
use Rattle.records.specs.Catalog.{EntryHolds, ExtentHolds}
use Rattle.records.proofs.Keys.{owner_exactly}

-- ---- directory entries

module _ (value : List ℕ) (mode : Validation) where
  entry_holds : validate_directory_entry value mode ≡ Ok tt → EntryHolds value
  unfolding validate_directory_entry is_entry_name
  entry_holds e =
      let h = all_hold (directory_entry_demands value mode) e in
      let n = h.1.1.1.1.0 in
      let some : Bool = leb 1 (u16_at value 10) in
      let few : Bool = leb (u16_at value 10) 255 in
      let ends : Bool = eqb (length value) (12 + u16_at value 10) in
      let s = and_left (some && few && ends) (utf8 (drop 12 value)) n in
      let r = and_left (some && few) ends s in
      let l : length value ≡ 12 + u16_at value 10 = eqb-true (length value) (12 + u16_at value 10) (and_right (some && few) ends s) in
      record {
        object = (owner_exactly (u64_at value 0) mode).0 (passed_is (validate_owner_id (u64_at value 0) mode) h.1.0);
        type_least = leb-true 1 (byte_at value 8) (and_left _ _ h.1.1.0);
        type_most = leb-true (byte_at value 8) 3 (and_right _ _ h.1.1.0);
        zero_9 = eqb-true (byte_at value 9) 0 h.1.1.1.0;
        name_some = leb-true 1 (u16_at value 10) (and_left _ _ r);
        name_most = leb-true (u16_at value 10) 255 (and_right _ _ r);
        value_size = omega (arith, l);
        name = (utf8_is_grammar (drop 12 value)).0 (and_right _ _ n);
      }

  holds_entry : EntryHolds value → validate_directory_entry value mode ≡ Ok tt
  unfolding validate_directory_entry is_entry_name
  holds_entry h =
      let o = (owner_exactly (u64_at value 0) mode).1 h.object in
      let t = and_both _ _ (le-leb 1 (byte_at value 8) h.type_least) (le-leb (byte_at value 8) 3 h.type_most) in
      let r = and_both _ _ (le-leb 1 (u16_at value 10) h.name_some) (le-leb (u16_at value 10) 255 h.name_most) in
      let n = and_both _ _ (and_both _ _ r (eq-eqb (length value) (12 + u16_at value 10) (omega (arith, h.value_size)))) ((utf8_is_grammar (drop 12 value)).1 h.name) in
      all_pass (directory_entry_demands value mode) (le-leb 12 (length value) (omega (arith, h.value_size)), (passed_test _ tt o, (t, (eq-eqb (byte_at value 9) 0 h.zero_9, (n, tt)))))

  pub entry_exactly : (validate_directory_entry value mode ≡ Ok tt) ↔ EntryHolds value
  entry_exactly = (entry_holds, holds_entry)

-- ---- extents

module _ (key value : List ℕ) (blocks : ℕ) (mode : Validation) where
  extent_holds : AllHold (extent_demands key value blocks mode) → ExtentHolds key value blocks
  unfolding is_extent_range
  extent_holds h =
      let r = h.1.1.1.1.0 in
      let some : Bool = not (eqb (u32_at value 8) 0) in
      let zero : Bool = eqb (u32_at value 12) 0 in
      let ends : Bool = leb (big_at key 9 + u32_at value 8) (2 ^ 51) in
      let l = and_left (some && zero && ends) (is_nonreserved_run (u64_at value 0) (u32_at value 8) blocks) r in
      let z = and_left (some && zero) ends l in
      let b : big_at key 9 + u32_at value 8 ≤ 2 ^ 51 = leb-true (big_at key 9 + u32_at value 8) (2 ^ 51) (and_right (some && zero) ends l) in
      let f = leb-true (u64_at value 0 + u32_at value 8) largest h.1.1.0 in
      record {
        key_long = leb-true 17 (length key) h.0;
        value_size = eqb-true (length value) 16 h.1.0;
        run = run_holds (u64_at value 0) (u32_at value 8) blocks (some_is (u32_at value 8) (and_left _ _ z)) (and_right _ _ r);
        fits = omega arith;
        logical = omega (arith, b);
        zero_12 = eqb-true (u32_at value 12) 0 (and_right _ _ z);
      }

  holds_extent : ExtentHolds key value blocks → AllHold (extent_demands key value blocks mode)
  unfolding is_extent_range
  holds_extent h =
      let z = and_both _ _ (is_some (u32_at value 8) h.run.count_least) (eq-eqb (u32_at value 12) 0 h.zero_12) in
      let r = and_both _ _ (and_both _ _ z (le-leb (big_at key 9 + u32_at value 8) (2 ^ 51) (omega (arith, h.logical)))) (holds_run (u64_at value 0) (u32_at value 8) blocks h.run) in
      let f = le-leb (u64_at value 0 + u32_at value 8) largest (omega (arith, h.fits)) in
      let g = le-leb (big_at key 9 + u32_at value 8) largest (omega (arith, h.logical)) in
      (le-leb 17 (length key) h.key_long, (eq-eqb (length value) 16 h.value_size, (f, (g, (r, tt)))))

  pub extent_exactly : (count : ℕ) → (validate_extent key value blocks mode ≡ Ok count) ↔ (ExtentHolds key value blocks × (count ≡ u32_at value 8))
  unfolding validate_extent
  extent_exactly count =
      let given = given_exactly (extent_demands key value blocks mode) (u32_at value 8) count in
      (λ e. let h = given.0 e in (extent_holds h.0, h.1), λ h. given.1 (holds_extent h.0, h.1))
