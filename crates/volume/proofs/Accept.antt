-- Each check of volume accepts exactly when its conditions in specs/Accept hold.
use mathlib.Core.Path.{◌≡◌, refl, sym, ap, ◌∙◌}
use mathlib.Core.Bool.{Bool, true, not, ◌&&◌, ◌||◌, false≢true}
use mathlib.Core.Logic.{◌↔◌, ◌⊎◌, inl, inr}
use mathlib.Core.List.{List}
use Prim.Native.Nat.{ℕ, ◌+◌, ◌-◌, ◌*◌, ◌≤◌, ◌<◌}
use native.Mathlib.Omega.{arith}
use borrow.Author.Tests.{le-leb, leb-true, lt-ltb, ltb-true, ne_eqb, eqb-false, not-true}
use lib.Dec.{leb, ltb, eqb}
use lib.ListN.{length, replicate}
use Rattle.std.specs.Prelude.{Ok}
use Rattle.std.proofs.lemmas.Bool.{or_cases, false_from_ne_true}
use Rattle.error.specs.declared.Validation.{Validation}
use Rattle.error.proofs.Exactly.{all_hold, all_pass, passed_is, passed_test}
use Rattle.error.proofs.Tests.{and_left, and_right, and_both, or_first, or_second, one_of, is_one_of_lem, not_yes}
use Rattle.octets.specs.Bytes.{all_zero}
use Rattle.octets.proofs.Zero.{zeros_are, zeros_zero}
use Rattle.volume.specs.declared.TreeRef.{TreeRef}
use Rattle.volume.specs.declared.TreeKind.{TreeKind}
use Rattle.volume.specs.Blocks.{is_nonreserved_block, is_nonreserved_run, is_bank_root, is_bank_block, is_root_slot}
use Rattle.volume.specs.Groups.{groups_of}
use Rattle.volume.specs.References.{validate_blocks, tree_ref_demands, validate_tree_ref, workspace_ref_demands, validate_workspace_ref, validate_page_ref, root_slot_demands, validate_root_slot, validate_uuid}
use Rattle.volume.specs.Accept.{NonReserved, NonReservedRun, BankBlock, TreeRefHolds, PageRefHolds, RootSlotHolds, VolumeExactly}

-- ---- a test that never holds, and a number that isn't 0

pub never_holds : (t : Bool) → (t ≡ true → ⊥) → not t ≡ true
never_holds t n = not_yes t (false_from_ne_true t n)

pub some_is : (n : ℕ) → not (eqb n 0) ≡ true → 1 ≤ n
some_is n e = let z : n ≡ 0 → ⊥ = eqb-false n 0 (not-true (eqb n 0) e) in omega arith

pub is_some : (n : ℕ) → 1 ≤ n → not (eqb n 0) ≡ true
is_some n h = not_yes (eqb n 0) (ne_eqb n 0 (omega arith))

-- ---- blocks

pub blocks_exactly : (blocks : ℕ) (mode : Validation) → (validate_blocks blocks mode ≡ Ok tt) ↔ (1024 ≤ blocks)
unfolding validate_blocks
blocks_exactly blocks mode = (λ e. leb-true 1024 blocks (all_hold _ e).0, λ h. all_pass _ (le-leb 1024 blocks h, tt))

module _ (block blocks : ℕ) where
  nonreserved : is_nonreserved_block block blocks ≡ true → NonReserved block blocks
  unfolding is_nonreserved_block
  nonreserved e =
      let h : block < blocks - 512 = ltb-true block (blocks - 512) (and_right (leb 512 block && leb 1024 blocks) (ltb block (blocks - 512)) e) in
      record { low = leb-true 512 block (and_left _ _ (and_left _ _ e)); high = omega arith }

  is_nonreserved : NonReserved block blocks → is_nonreserved_block block blocks ≡ true
  unfolding is_nonreserved_block
  is_nonreserved h =
      rw (le-leb 512 block h.low, le-leb 1024 blocks (omega (arith, h.low, h.high)), lt-ltb block (blocks - 512) (omega (arith, h.high)))

  pub nonreserved_exactly : (is_nonreserved_block block blocks ≡ true) ↔ NonReserved block blocks
  nonreserved_exactly = (nonreserved, is_nonreserved)

module _ (first count blocks : ℕ) where
  pub run_holds : 1 ≤ count → is_nonreserved_run first count blocks ≡ true → NonReservedRun first count blocks
  unfolding is_nonreserved_run
  run_holds s e =
      let n = (nonreserved_exactly first blocks).0 (and_left (is_nonreserved_block first blocks) (leb (first + count) (blocks - 512)) e) in
      let h = leb-true (first + count) (blocks - 512) (and_right (is_nonreserved_block first blocks) (leb (first + count) (blocks - 512)) e) in
      record { count_least = s; low = n.low; high = omega (arith, n.high) }

  pub holds_run : NonReservedRun first count blocks → is_nonreserved_run first count blocks ≡ true
  unfolding is_nonreserved_run
  holds_run h =
      and_both _ _ ((nonreserved_exactly first blocks).1 (record { low = h.low; high = omega (arith, h.count_least, h.high) })) (le-leb (first + count) (blocks - 512) (omega (arith, h.high)))

module _ (block blocks : ℕ) where
  abbrev front : Bool
  front = leb 32 block && leb block 95

  abbrev back : Bool
  back = leb (blocks - 96) block && leb block (blocks - 33)

  bank : is_bank_block block blocks ≡ true → BankBlock block blocks
  unfolding is_bank_block
  bank e = record { geometry = leb-true 1024 blocks (and_left (leb 1024 blocks) (front || back) e); place = go (or_cases front back (and_right (leb 1024 blocks) (front || back) e)) }
    where
      go : (front ≡ true) ⊎ (back ≡ true) → (32 ≤ block) × (block ≤ 95) ⊎ (blocks - 96 ≤ block) × (block ≤ blocks - 33)
      go (inl p) = inl (leb-true 32 block (and_left _ _ p), leb-true block 95 (and_right _ _ p))
      go (inr p) = inr (leb-true (blocks - 96) block (and_left _ _ p), leb-true block (blocks - 33) (and_right _ _ p))

  is_bank : BankBlock block blocks → is_bank_block block blocks ≡ true
  unfolding is_bank_block
  is_bank h = and_both _ _ (le-leb 1024 blocks h.geometry) (go h.place)
    where
      go : (32 ≤ block) × (block ≤ 95) ⊎ (blocks - 96 ≤ block) × (block ≤ blocks - 33) → (front || back) ≡ true
      go (inl p) = or_first front back (and_both _ _ (le-leb 32 block p.0) (le-leb block 95 p.1))
      go (inr p) = or_second front back (and_both _ _ (le-leb (blocks - 96) block p.0) (le-leb block (blocks - 33) p.1))

  pub bank_exactly : (is_bank_block block blocks ≡ true) ↔ BankBlock block blocks
  bank_exactly = (bank, is_bank)

  -- the banks' roots, and each is the first block of its bank
  pub bank_root_exactly : (is_bank_root block blocks ≡ true) ↔ ((1024 ≤ blocks) × ((block ≡ 32) ⊎ (block ≡ blocks - 96)))
  unfolding is_bank_root
  bank_root_exactly = (
    λ e. (leb-true 1024 blocks (and_left _ _ e), one_of block 32 (blocks - 96) (and_right _ _ e)),
    λ h. and_both _ _ (le-leb 1024 blocks h.0) (is_one_of_lem block 32 (blocks - 96) h.1),
  )

  pub bank_root_is : 1024 ≤ blocks → (block ≡ 32) ⊎ (block ≡ blocks - 96) → BankBlock block blocks
  bank_root_is h (inl p) = record { geometry = h; place = inl (omega arith, omega arith) }
  bank_root_is h (inr p) = record { geometry = h; place = inr (omega arith, omega arith) }

-- ---- references

module _ (reference : TreeRef) (blocks : ℕ) (mode : Validation) where
  abbrev born : Bool
  born = not (eqb reference.generation 0)

  tree_holds : validate_tree_ref reference blocks mode ≡ Ok tt → TreeRefHolds reference blocks
  unfolding validate_tree_ref
  tree_holds e =
      let t = (all_hold (tree_ref_demands reference blocks mode) e).1.0 in
      record { generation = some_is reference.generation (and_left _ _ t); block = (nonreserved_exactly reference.block blocks).0 (and_right _ _ t) }

  holds_tree : TreeRefHolds reference blocks → validate_tree_ref reference blocks mode ≡ Ok tt
  unfolding validate_tree_ref
  holds_tree h =
      let b = (blocks_exactly blocks mode).1 (omega (arith, h.block.low, h.block.high)) in
      all_pass (tree_ref_demands reference blocks mode) (passed_test _ tt b, (and_both _ _ (is_some reference.generation h.generation) ((nonreserved_exactly reference.block blocks).1 h.block), tt))

  pub tree_ref_exactly : (validate_tree_ref reference blocks mode ≡ Ok tt) ↔ TreeRefHolds reference blocks
  tree_ref_exactly = (tree_holds, holds_tree)

  workspace_holds : validate_workspace_ref reference blocks mode ≡ Ok tt → PageRefHolds reference TreeKind.Workspace blocks
  unfolding validate_workspace_ref
  workspace_holds e =
      let t = (all_hold (workspace_ref_demands reference blocks mode) e).1.0 in
      record { generation = some_is reference.generation (and_left _ _ t); block = (bank_exactly reference.block blocks).0 (and_right _ _ t) }

  holds_workspace : PageRefHolds reference TreeKind.Workspace blocks → validate_workspace_ref reference blocks mode ≡ Ok tt
  unfolding validate_workspace_ref
  holds_workspace h =
      let b = (blocks_exactly blocks mode).1 h.block.geometry in
      all_pass (workspace_ref_demands reference blocks mode) (passed_test _ tt b, (and_both _ _ (is_some reference.generation h.generation) ((bank_exactly reference.block blocks).1 h.block), tt))

  pub workspace_ref_exactly : (validate_workspace_ref reference blocks mode ≡ Ok tt) ↔ PageRefHolds reference TreeKind.Workspace blocks
  workspace_ref_exactly = (workspace_holds, holds_workspace)

  -- outside the workspace a page's block lies as a tree's
  outside : (kind : TreeKind) → (PageRefHolds reference kind blocks → TreeRefHolds reference blocks) → (TreeRefHolds reference blocks → PageRefHolds reference kind blocks) → (validate_tree_ref reference blocks mode ≡ Ok tt) ↔ PageRefHolds reference kind blocks
  outside kind to from = (λ e. from (tree_holds e), λ h. holds_tree (to h))

  pub page_ref_exactly : (kind : TreeKind) → (validate_page_ref reference kind blocks mode ≡ Ok tt) ↔ PageRefHolds reference kind blocks
  page_ref_exactly TreeKind.Catalog = outside TreeKind.Catalog (λ h. record { generation = h.generation; block = h.block }) (λ h. record { generation = h.generation; block = h.block })
  page_ref_exactly TreeKind.Allocation = outside TreeKind.Allocation (λ h. record { generation = h.generation; block = h.block }) (λ h. record { generation = h.generation; block = h.block })
  page_ref_exactly TreeKind.Cleanup = outside TreeKind.Cleanup (λ h. record { generation = h.generation; block = h.block }) (λ h. record { generation = h.generation; block = h.block })
  page_ref_exactly TreeKind.Workspace = workspace_ref_exactly

-- ---- slots, UUIDs and groups

-- a slot that passes the test is one of the two, and the other way on a volume that is large enough
is_slot : (slot blocks : ℕ) → is_root_slot slot blocks ≡ true → (slot ≡ 256) ⊎ (slot ≡ blocks - 257)
unfolding is_root_slot
is_slot slot blocks e = one_of slot 256 (blocks - 257) (and_right (leb 1024 blocks) (eqb slot 256 || eqb slot (blocks - 257)) e)

slot_is : (slot blocks : ℕ) → RootSlotHolds slot blocks → is_root_slot slot blocks ≡ true
unfolding is_root_slot
slot_is slot blocks h = and_both (leb 1024 blocks) (eqb slot 256 || eqb slot (blocks - 257)) (le-leb 1024 blocks h.geometry) (is_one_of_lem slot 256 (blocks - 257) h.place)

module _ (slot blocks : ℕ) (mode : Validation) where
  slot_holds : validate_root_slot slot blocks mode ≡ Ok tt → RootSlotHolds slot blocks
  unfolding validate_root_slot
  slot_holds e =
      let h = all_hold (root_slot_demands slot blocks mode) e in
      record { geometry = (blocks_exactly blocks mode).0 (passed_is (validate_blocks blocks mode) h.0); place = is_slot slot blocks h.1.0 }

  holds_slot : RootSlotHolds slot blocks → validate_root_slot slot blocks mode ≡ Ok tt
  unfolding validate_root_slot
  holds_slot h = all_pass (root_slot_demands slot blocks mode) (passed_test _ tt ((blocks_exactly blocks mode).1 h.geometry), (slot_is slot blocks h, tt))

  pub root_slot_exactly : (validate_root_slot slot blocks mode ≡ Ok tt) ↔ RootSlotHolds slot blocks
  root_slot_exactly = (slot_holds, holds_slot)

pub uuid_exactly : (uuid : List ℕ) (mode : Validation) → (validate_uuid uuid mode ≡ Ok tt) ↔ (uuid ≡ replicate (length uuid) 0 → ⊥)
unfolding validate_uuid
uuid_exactly uuid mode = (
  λ e z. false≢true (sym (not-true (all_zero uuid) (all_hold _ e).0) ∙ ap all_zero z ∙ zeros_zero (length uuid)),
  λ n. all_pass _ (never_holds (all_zero uuid) (λ e. n (zeros_are uuid (length uuid) refl e)), tt),
)

pub groups_exactly : (group blocks : ℕ) → (group < groups_of blocks) ↔ (16384 * group < blocks)
unfolding groups_of
groups_exactly group blocks = (λ h. omega arith, λ h. omega arith)

pub volume_exactly : VolumeExactly
volume_exactly = record {
  blocks = blocks_exactly;
  nonreserved_block = nonreserved_exactly;
  bank_block = bank_exactly;
  bank_root = bank_root_exactly;
  tree_ref = tree_ref_exactly;
  page_ref = λ reference kind blocks mode. page_ref_exactly reference blocks mode kind;
  root_slot = root_slot_exactly;
  uuid = uuid_exactly;
  groups = groups_exactly;
}
