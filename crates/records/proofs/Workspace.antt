-- Keys and runs of the workspace are accepted exactly when the conditions of specs/Record hold.
use mathlib.Core.Path.{◌≡◌}
use mathlib.Core.Bool.{true, not}
use mathlib.Core.Logic.{◌↔◌}
use mathlib.Core.List.{List}
use Prim.Native.Nat.{ℕ, ◌+◌, ◌-◌, ◌≤◌}
use native.Mathlib.Omega.{arith}
use borrow.Author.Tests.{le-leb, leb-true, eq-eqb, eqb-true}
use lib.Dec.{eqb}
use lib.ListN.{length}
use Rattle.std.specs.Prelude.{Ok}
use Rattle.error.specs.declared.Validation.{Validation}
use Rattle.error.proofs.Exactly.{all_hold, all_pass, passed_is, passed_test}
use Rattle.error.proofs.Tests.{and_left, and_right, and_both}
use Rattle.octets.specs.Number.{u32_at, big_at}
use Rattle.volume.proofs.Accept.{some_is, is_some, nonreserved_exactly}
use Rattle.volume.specs.Accept.{NonReserved}
use Rattle.volume.specs.Numbers.{largest, sum_fits}
use Rattle.record.specs.Workspace.{workspace_key_demands, validate_workspace_key, workspace_run_demands, validate_workspace_run}
use Rattle.records.specs.Record.{RunKeyHolds, WorkspaceHolds}

module _ (key : List ℕ) (blocks : ℕ) (mode : Validation) where
  key_holds : validate_workspace_key key blocks mode ≡ Ok tt → RunKeyHolds key blocks
  unfolding validate_workspace_key
  key_holds e =
      let h = all_hold (workspace_key_demands key blocks mode) e in
      record { key_size = eqb-true (length key) 8 h.0; first = (nonreserved_exactly (big_at key 0) blocks).0 h.1.0 }

  key_passes : RunKeyHolds key blocks → validate_workspace_key key blocks mode ≡ Ok tt
  unfolding validate_workspace_key
  key_passes h = all_pass (workspace_key_demands key blocks mode) (eq-eqb (length key) 8 h.key_size, ((nonreserved_exactly (big_at key 0) blocks).1 h.first, tt))

  pub workspace_key : (validate_workspace_key key blocks mode ≡ Ok tt) ↔ RunKeyHolds key blocks
  workspace_key = (key_holds, key_passes)

module _ (key value : List ℕ) (blocks : ℕ) (mode : Validation) where
  abbrev first : ℕ
  first = big_at key 0

  abbrev count : ℕ
  count = u32_at value 0

  run_holds : validate_workspace_run key value blocks mode ≡ Ok tt → WorkspaceHolds key value blocks
  unfolding validate_workspace_run
  run_holds e =
      let h = all_hold (workspace_run_demands key value blocks mode) e in
      let k = key_holds key blocks mode (passed_is (validate_workspace_key key blocks mode) h.0) in
      let s : 1 ≤ count = some_is count (and_left _ _ h.1.1.0) in
      let f : first + (count - 1) ≤ largest = leb-true (first + (count - 1)) largest (and_right (not (eqb count 0)) (sum_fits first (count - 1)) h.1.1.0) in
      let l = (nonreserved_exactly (first + (count - 1)) blocks).0 h.1.1.1.0 in
      record {
        key_size = k.key_size;
        value_size = eqb-true (length value) 4 h.1.0;
        run = record { count_least = s; low = k.first.low; high = omega (arith, l.high) };
        fits = omega arith;
      }

  run_passes : WorkspaceHolds key value blocks → validate_workspace_run key value blocks mode ≡ Ok tt
  unfolding validate_workspace_run
  run_passes h =
      let f : NonReserved first blocks = record { low = h.run.low; high = omega (arith, h.run.count_least, h.run.high) } in
      let l : NonReserved (first + (count - 1)) blocks = record { low = omega (arith, h.run.low); high = omega (arith, h.run.count_least, h.run.high) } in
      let end : sum_fits first (count - 1) ≡ true = le-leb (first + (count - 1)) largest (omega (arith, h.run.count_least, h.fits)) in
      all_pass (workspace_run_demands key value blocks mode) (
        passed_test (validate_workspace_key key blocks mode) tt (key_passes key blocks mode (record { key_size = h.key_size; first = f })),
        (
          eq-eqb (length value) 4 h.value_size,
          (and_both _ _ (is_some count h.run.count_least) end, ((nonreserved_exactly (first + (count - 1)) blocks).1 l, tt)),
        ),
      )

  pub workspace_run : (validate_workspace_run key value blocks mode ≡ Ok tt) ↔ WorkspaceHolds key value blocks
  workspace_run = (run_holds, run_passes)
