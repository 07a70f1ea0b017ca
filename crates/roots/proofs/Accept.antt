-- A root is accepted exactly when the conditions of specs/Accept hold.
use mathlib.Core.Path.{◌≡◌, refl, sym, ap, ◌∙◌}
use mathlib.Core.Bool.{Bool, true, false, not, ◌&&◌, cond}
use mathlib.Core.Logic.{◌⊎◌, inl, inr}
use mathlib.Core.List.{List}
use Prim.Native.Nat.{ℕ, ◌+◌, ◌-◌, ◌≤◌, ◌<◌}
use native.Mathlib.Decide.{dec_lt}
use native.Mathlib.Omega.{arith}
use borrow.Author.Tests.{le-leb, leb-true, lt-ltb, ltb-true, eq-eqb, ne_eqb, eqb-true, eqb-false, not-true}
use lib.Dec.{leb, eqb}
use lib.ListN.{length, replicate}
use Rattle.error.specs.declared.Validation.{Validation}
use Rattle.error.specs.declared.Validation.TheVariants.{Input, Disk}
use Rattle.std.specs.Prelude.{Ok}
use Rattle.error.specs.Demand.{is_passed, AllHold}
use Rattle.error.proofs.Exactly.{all_hold, all_pass, passed_is, passed_test, outcome_holds, given_exactly}
use Rattle.error.proofs.Tests.{and_left, and_right, and_both, not_yes}
use Rattle.octets.specs.Bytes.{part, all_zero, same_bytes, starts_with}
use Rattle.octets.specs.Number.{u32_at, u64_at}
use Rattle.octets.proofs.Join.{part_length}
use Rattle.octets.proofs.Same.{same_is, same_self}
use Rattle.octets.proofs.Zero.{zeros_are, zeros_zero}
use Rattle.crc.specs.Crc.{crc32c_with_zero}
use Rattle.utf8.proofs.Grammar.{utf8_is_grammar}
use Rattle.volume.specs.Blocks.{is_bank_root}
use Rattle.volume.specs.References.{ref_at, validate_root_slot, validate_uuid, validate_tree_ref, validate_workspace_ref}
use Rattle.volume.specs.Accept.{TreeRefHolds}
use Rattle.volume.proofs.Accept.{blocks_exactly, bank_root_exactly, bank_root_is, tree_ref_exactly, workspace_ref_exactly, root_slot_exactly, uuid_exactly, groups_exactly}
use Rattle.root.specs.declared.Root.{Root}
use Rattle.root.specs.Fields.{general_demands, check_general, refs_demands, check_refs, workspace_demands, check_workspace, trees_demands, check_trees, max_id, numbers_demands, check_numbers, field_demands, validate_root_fields}
use Rattle.volume.specs.Groups.{groups_of}
use Rattle.root.specs.Root.{magic, label_length, label_text, label_padding, root_of, place_demands, check_place, checksum_fits, are_sizes_right, envelope_demands, check_envelope, text_demands, check_text, label_field_demands, check_label, identity_demands, check_identity, block_demands, check_block, root_demands, root_decode}
use Rattle.roots.specs.Accept.{LabelHolds, TreeHolds, RootHolds, RootExactly}
use Rattle.roots.proofs.LabelAccept.{label_accepted, accepted_label}

-- ---- three tests joined

all_three : (a b c : Bool) → (a && b && c) ≡ true → (a ≡ true) × (b ≡ true) × (c ≡ true)
all_three a b c e = (and_left a b (and_left (a && b) c e), and_right a b (and_left (a && b) c e), and_right (a && b) c e)

three : (a b c : Bool) → a ≡ true → b ≡ true → c ≡ true → (a && b && c) ≡ true
three a b c p q r = rw (p, q, r)

differ : (a b : ℕ) → not (eqb a b) ≡ true → a ≡ b → ⊥
differ a b e = eqb-false a b (not-true (eqb a b) e)

differs : (a b : ℕ) → (a ≡ b → ⊥) → not (eqb a b) ≡ true
differs a b n = not_yes (eqb a b) (ne_eqb a b n)

-- three distinct non-reserved blocks leave room for three
pub three_fit : (a b c blocks : ℕ) → 512 ≤ a → a + 512 < blocks → 512 ≤ b → b + 512 < blocks → 512 ≤ c → c + 512 < blocks
    → (a ≡ b → ⊥) → (a ≡ c → ⊥) → (b ≡ c → ⊥) → 1027 ≤ blocks
three_fit a b c blocks la ha lb hb lc hc ab ac bc = go (dec_lt a b) (dec_lt a c) (dec_lt b c)
  where
    go : Dec (a < b) → Dec (a < c) → Dec (b < c) → 1027 ≤ blocks
    go (yes p) (yes q) (yes r) = omega arith
    go (yes p) (yes q) (no r) = omega arith
    go (yes p) (no q) (yes r) = omega arith
    go (yes p) (no q) (no r) = omega arith
    go (no p) (yes q) (yes r) = omega arith
    go (no p) (yes q) (no r) = omega arith
    go (no p) (no q) (yes r) = omega arith
    go (no p) (no q) (no r) = omega arith

-- a UUID's sixteen bytes, were they zeros
sixteen : (s : List ℕ) → length s ≡ 4096 → replicate {A = ℕ} (length (part s 24 16)) 0 ≡ replicate 16 0
sixteen s l = ap (λ (n : ℕ). replicate {A = ℕ} n 0) (part_length s 24 16 (omega arith))

-- ---- the call's answer, and its two groups of checks

module _ (s : List ℕ) (slot blocks : ℕ) where
  decode_holds : (r : Root) → root_decode s slot blocks ≡ Ok r → AllHold (root_demands s slot blocks) × (r ≡ root_of s)
  unfolding root_decode
  decode_holds r e = (given_exactly (root_demands s slot blocks) (root_of s) r).0 e

  -- where both pass, the root is the one that stands in the block
  decoded : check_block s slot blocks ≡ Ok tt → validate_root_fields (root_of s) slot blocks Disk ≡ Ok tt → root_decode s slot blocks ≡ Ok (root_of s)
  unfolding root_decode
  decoded p q = outcome_holds (root_demands s slot blocks) (Ok (root_of s)) (passed_test _ tt p, (passed_test _ tt q, tt))

-- ---- what passes meets the conditions

label_holds : (s : List ℕ) (n : ℕ) (b : Bool) → eqb n 0 ≡ b → is_passed (cond b (Ok tt) (check_text (label_text s))) ≡ true → (n ≡ 0) ⊎ LabelHolds (label_text s)
unfolding check_text
label_holds s n true p e = inl (eqb-true n 0 p)
label_holds s n false p e = inr (label_accepted (label_text s) (all_hold (text_demands (label_text s)) (passed_is (check_text (label_text s)) e)).1.0)

module _ (s : List ℕ) (slot blocks : ℕ) (p : check_block s slot blocks ≡ Ok tt) (q : validate_root_fields (root_of s) slot blocks Disk ≡ Ok tt) where
  block : AllHold (block_demands s slot blocks)
  unfolding check_block
  block = all_hold (block_demands s slot blocks) p

  place_is : AllHold (place_demands s slot blocks)
  unfolding check_place
  place_is = all_hold (place_demands s slot blocks) (passed_is (check_place s slot blocks) block.0)

  envelope : AllHold (envelope_demands s)
  unfolding check_envelope
  envelope = all_hold (envelope_demands s) (passed_is (check_envelope s) block.1.0)

  label_is : AllHold (label_field_demands s)
  unfolding check_label
  label_is = all_hold (label_field_demands s) (passed_is (check_label s) block.1.1.0)

  identity : AllHold (identity_demands s slot blocks)
  unfolding check_identity
  identity = all_hold (identity_demands s slot blocks) (passed_is (check_identity s slot blocks) block.1.1.1.0)

  fields : AllHold (field_demands (root_of s) slot blocks Disk)
  unfolding validate_root_fields
  fields = all_hold (field_demands (root_of s) slot blocks Disk) q

  general : AllHold (general_demands (root_of s) slot blocks Disk)
  unfolding check_general
  general = all_hold (general_demands (root_of s) slot blocks Disk) (passed_is (check_general (root_of s) slot blocks Disk) fields.0)

  refs : AllHold (refs_demands (root_of s) blocks Disk)
  unfolding check_refs
  refs = all_hold (refs_demands (root_of s) blocks Disk) (passed_is (check_refs (root_of s) blocks Disk) fields.1.0)

  workspace_is : AllHold (workspace_demands (root_of s) blocks Disk)
  unfolding check_workspace
  workspace_is = all_hold (workspace_demands (root_of s) blocks Disk) (passed_is (check_workspace (root_of s) blocks Disk) fields.1.1.0)

  trees : AllHold (trees_demands (root_of s) Disk)
  unfolding check_trees
  trees = all_hold (trees_demands (root_of s) Disk) (passed_is (check_trees (root_of s) Disk) fields.1.1.1.0)

  numbers : AllHold (numbers_demands (root_of s) blocks Disk)
  unfolding check_numbers
  numbers = all_hold (numbers_demands (root_of s) blocks Disk) (passed_is (check_numbers (root_of s) blocks Disk) fields.1.1.1.1.0)

  tree : (offset : ℕ) → is_passed (validate_tree_ref (ref_at s offset) blocks Disk) ≡ true → TreeRefHolds (ref_at s offset) blocks
  tree offset e = (tree_ref_exactly (ref_at s offset) blocks Disk).0 (passed_is (validate_tree_ref (ref_at s offset) blocks Disk) e)

  root_accepted : RootHolds s slot blocks
  unfolding root_of checksum_fits are_sizes_right label_text label_padding
  root_accepted =
      let n = label_length s in
      let size : length s ≡ 4096 = eqb-true (length s) 4096 place_is.0 in
      let few : n ≤ 255 = leb-true n 255 label_is.0 in
      let sizes = all_three (eqb (u32_at s 12) 4096) (eqb (u32_at s 16) 4096) (eqb (u32_at s 20) 65536) envelope.1.1.1.0 in
      let known = all_three (eqb (u64_at s 128) 0) (eqb (u32_at s 136) 2) (eqb (u32_at s 140) 0) identity.0 in
      let own = identity.1.0 in
      let kept = general.1.1.1.0 in
      let bank = workspace_is.1.0 in
      let c = tree 64 refs.0 in
      let a = tree 80 refs.1.0 in
      let l = tree 96 refs.1.1.0 in
      let far = all_three (not (eqb (u64_at s 64) (u64_at s 80))) (not (eqb (u64_at s 64) (u64_at s 96))) (not (eqb (u64_at s 80) (u64_at s 96))) trees.0 in
      let old = all_three (leb (u64_at s 72) (u64_at s 48)) (leb (u64_at s 88) (u64_at s 48)) (leb (u64_at s 104) (u64_at s 48)) trees.1.0 in
      let object = numbers.0 in
      let job = numbers.1.0 in
      let ca = differ (u64_at s 64) (u64_at s 80) far.0 in
      let cl = differ (u64_at s 64) (u64_at s 96) far.1 in
      let al = differ (u64_at s 80) (u64_at s 96) far.2 in
      let room = three_fit (u64_at s 64) (u64_at s 80) (u64_at s 96) blocks c.block.low c.block.high a.block.low a.block.high l.block.low l.block.high ca cl al in
      record {
        size = size;
        geometry = leb-true 1024 blocks place_is.1.0;
        place = ((root_slot_exactly slot blocks Input).0 (passed_is (validate_root_slot slot blocks Input) place_is.1.1.0)).place;
        checksum = sym (eqb-true (crc32c_with_zero s 4092 4096) (u32_at s 4092) envelope.0);
        magic_is = same_is (part s 0 8) magic envelope.1.0;
        revision = eqb-true (u32_at s 8) 1 envelope.1.1.0;
        record_bytes = eqb-true (u32_at s 12) 4096 sizes.0;
        allocation_bytes = eqb-true (u32_at s 16) 4096 sizes.1;
        unit_bytes = eqb-true (u32_at s 20) 65536 sizes.2;
        label_most = few;
        padding = zeros_are (label_padding s) (4092 - (186 + n)) (part_length s (186 + n) (4092 - (186 + n)) (omega arith)) label_is.1.0;
        label = label_holds s n (eqb n 0) refl label_is.1.1.0;
        features = eqb-true (u64_at s 128) 0 known.0;
        profile = eqb-true (u32_at s 136) 2 known.1;
        state = eqb-true (u32_at s 140) 0 known.2;
        reserve = eqb-true (u64_at s 144) 16384 identity.1.1.0;
        self_block = eqb-true (u64_at s 40) slot (and_left (eqb (u64_at s 40) slot) (eqb (u64_at s 56) blocks) own);
        own_blocks = eqb-true (u64_at s 56) blocks (and_right (eqb (u64_at s 40) slot) (eqb (u64_at s 56) blocks) own);
        uuid = λ z. (uuid_exactly (part s 24 16) Disk).0 (passed_is (validate_uuid (part s 24 16) Disk) general.1.1.0) (z ∙ sym (sixteen s size));
        generation = let z = differ (u64_at s 48) 0 (and_left (not (eqb (u64_at s 48) 0)) (eqb (u64_at s 56) blocks) kept) in omega arith;
        catalog = record { reference_holds = c; not_newer = leb-true (u64_at s 72) (u64_at s 48) old.0 };
        allocation = record { reference_holds = a; not_newer = leb-true (u64_at s 88) (u64_at s 48) old.1 };
        cleanup = record { reference_holds = l; not_newer = leb-true (u64_at s 104) (u64_at s 48) old.2 };
        catalog_allocation = ca;
        catalog_cleanup = cl;
        allocation_cleanup = al;
        workspace = ((bank_root_exactly (u64_at s 160) blocks).0 (and_left (is_bank_root (u64_at s 160) blocks) (leb (u64_at s 168) (u64_at s 48)) bank)).1;
        workspace_generation_least = ((workspace_ref_exactly (ref_at s 160) blocks Disk).0 (passed_is (validate_workspace_ref (ref_at s 160) blocks Disk) workspace_is.0)).generation;
        workspace_not_newer = leb-true (u64_at s 168) (u64_at s 48) (and_right (is_bank_root (u64_at s 160) blocks) (leb (u64_at s 168) (u64_at s 48)) bank);
        cursor = (groups_exactly (u64_at s 176) blocks).0 (ltb-true (u64_at s 176) (groups_of blocks) general.1.1.1.1.0);
        next_object_least = leb-true 2 (u64_at s 112) (and_left (leb 2 (u64_at s 112)) (leb (u64_at s 112) max_id) object);
        next_object_most = leb-true (u64_at s 112) max_id (and_right (leb 2 (u64_at s 112)) (leb (u64_at s 112) max_id) object);
        next_job_least = leb-true 1 (u64_at s 152) (and_left (leb 1 (u64_at s 152)) (leb (u64_at s 152) max_id) job);
        next_job_most = leb-true (u64_at s 152) max_id (and_right (leb 1 (u64_at s 152)) (leb (u64_at s 152) max_id) job);
        free = let f = leb-true (u64_at s 120) (blocks - 1027) numbers.1.1.0 in omega arith;
      }

-- ---- what meets the conditions passes

module _ (s : List ℕ) (slot blocks : ℕ) (r : RootHolds s slot blocks) where
  slot_passes : (mode : Validation) → validate_root_slot slot blocks mode ≡ Ok tt
  slot_passes mode = (root_slot_exactly slot blocks mode).1 (record { geometry = r.geometry; place = r.place })

  place_passes : check_place s slot blocks ≡ Ok tt
  unfolding check_place
  place_passes =
      all_pass (place_demands s slot blocks)
      (eq-eqb (length s) 4096 r.size, (le-leb 1024 blocks r.geometry, (passed_test (validate_root_slot slot blocks Input) tt (slot_passes Input), tt)))

  envelope_passes : check_envelope s ≡ Ok tt
  unfolding check_envelope checksum_fits are_sizes_right
  envelope_passes =
      let front : starts_with s magic ≡ true = ap (λ (x : List ℕ). same_bytes x magic) r.magic_is ∙ same_self magic in
      let sizes : are_sizes_right s ≡ true = three (eqb (u32_at s 12) 4096) (eqb (u32_at s 16) 4096) (eqb (u32_at s 20) 65536) (eq-eqb (u32_at s 12) 4096 r.record_bytes) (eq-eqb (u32_at s 16) 4096 r.allocation_bytes) (eq-eqb (u32_at s 20) 65536 r.unit_bytes) in
      all_pass (envelope_demands s)
      (eq-eqb (crc32c_with_zero s 4092 4096) (u32_at s 4092) (sym r.checksum), (front, (eq-eqb (u32_at s 8) 1 r.revision, (sizes, tt))))

  text_passes : (n : ℕ) (b : Bool) → eqb n 0 ≡ b → (n ≡ 0) ⊎ LabelHolds (label_text s) → is_passed (cond b (Ok tt) (check_text (label_text s))) ≡ true
  unfolding check_text
  text_passes n true p l = refl
  text_passes n false p (inl z) = absurd (eqb-false n 0 p z)
  text_passes n false p (inr l) =
      passed_test (check_text (label_text s)) tt (all_pass (text_demands (label_text s)) ((utf8_is_grammar (label_text s)).1 l.utf8_is, (accepted_label (label_text s) l, tt)))

  label_passes : check_label s ≡ Ok tt
  unfolding check_label label_text label_padding
  label_passes =
      let n = label_length s in
      let zeros : all_zero (label_padding s) ≡ true = ap all_zero r.padding ∙ zeros_zero (4092 - (186 + n)) in
      all_pass (label_field_demands s) (le-leb n 255 r.label_most, (zeros, (text_passes n (eqb n 0) refl r.label, tt)))

  identity_passes : check_identity s slot blocks ≡ Ok tt
  unfolding check_identity
  identity_passes =
      let known = three (eqb (u64_at s 128) 0) (eqb (u32_at s 136) 2) (eqb (u32_at s 140) 0) (eq-eqb (u64_at s 128) 0 r.features) (eq-eqb (u32_at s 136) 2 r.profile) (eq-eqb (u32_at s 140) 0 r.state) in
      let own = and_both (eqb (u64_at s 40) slot) (eqb (u64_at s 56) blocks) (eq-eqb (u64_at s 40) slot r.self_block) (eq-eqb (u64_at s 56) blocks r.own_blocks) in
      all_pass (identity_demands s slot blocks) (known, (own, (eq-eqb (u64_at s 144) 16384 r.reserve, tt)))

  block_passes : check_block s slot blocks ≡ Ok tt
  unfolding check_block
  block_passes =
      all_pass (block_demands s slot blocks)
      (passed_test _ tt place_passes, (passed_test _ tt envelope_passes, (passed_test _ tt label_passes, (passed_test _ tt identity_passes, tt))))

  general_passes : check_general (root_of s) slot blocks Disk ≡ Ok tt
  unfolding root_of check_general
  general_passes =
      let uuid : validate_uuid (part s 24 16) Disk ≡ Ok tt = (uuid_exactly (part s 24 16) Disk).1 (λ z. r.uuid (z ∙ sixteen s r.size)) in
      let kept = and_both (not (eqb (u64_at s 48) 0)) (eqb (u64_at s 56) blocks) (differs (u64_at s 48) 0 (omega (arith, r.generation))) (eq-eqb (u64_at s 56) blocks r.own_blocks) in
      all_pass (general_demands (root_of s) slot blocks Disk)
      (passed_test _ tt ((blocks_exactly blocks Disk).1 r.geometry), (passed_test _ tt (slot_passes Disk), (passed_test _ tt uuid, (kept, (lt-ltb (u64_at s 176) (groups_of blocks) ((groups_exactly (u64_at s 176) blocks).1 r.cursor), tt)))))

  tree_passes : (offset : ℕ) → TreeHolds (ref_at s offset) (u64_at s 48) blocks → validate_tree_ref (ref_at s offset) blocks Disk ≡ Ok tt
  tree_passes offset t = (tree_ref_exactly (ref_at s offset) blocks Disk).1 t.reference_holds

  refs_pass : check_refs (root_of s) blocks Disk ≡ Ok tt
  unfolding root_of check_refs
  refs_pass =
      all_pass (refs_demands (root_of s) blocks Disk)
      (passed_test _ tt (tree_passes 64 r.catalog), (passed_test _ tt (tree_passes 80 r.allocation), (passed_test _ tt (tree_passes 96 r.cleanup), tt)))

  workspace_passes : check_workspace (root_of s) blocks Disk ≡ Ok tt
  unfolding root_of check_workspace
  workspace_passes =
      let bank = and_both (is_bank_root (u64_at s 160) blocks) (leb (u64_at s 168) (u64_at s 48)) ((bank_root_exactly (u64_at s 160) blocks).1 (r.geometry, r.workspace)) (le-leb (u64_at s 168) (u64_at s 48) r.workspace_not_newer) in
      all_pass (workspace_demands (root_of s) blocks Disk)
      (passed_test _ tt ((workspace_ref_exactly (ref_at s 160) blocks Disk).1 (record { generation = r.workspace_generation_least; block = bank_root_is (u64_at s 160) blocks r.geometry r.workspace })), (bank, tt))

  trees_pass : check_trees (root_of s) Disk ≡ Ok tt
  unfolding root_of check_trees
  trees_pass =
      let far = three (not (eqb (u64_at s 64) (u64_at s 80))) (not (eqb (u64_at s 64) (u64_at s 96))) (not (eqb (u64_at s 80) (u64_at s 96))) (differs (u64_at s 64) (u64_at s 80) r.catalog_allocation) (differs (u64_at s 64) (u64_at s 96) r.catalog_cleanup) (differs (u64_at s 80) (u64_at s 96) r.allocation_cleanup) in
      let old = three (leb (u64_at s 72) (u64_at s 48)) (leb (u64_at s 88) (u64_at s 48)) (leb (u64_at s 104) (u64_at s 48)) (le-leb (u64_at s 72) (u64_at s 48) r.catalog.not_newer) (le-leb (u64_at s 88) (u64_at s 48) r.allocation.not_newer) (le-leb (u64_at s 104) (u64_at s 48) r.cleanup.not_newer) in
      all_pass (trees_demands (root_of s) Disk) (far, (old, tt))

  numbers_pass : check_numbers (root_of s) blocks Disk ≡ Ok tt
  unfolding root_of check_numbers
  numbers_pass =
      let object = and_both (leb 2 (u64_at s 112)) (leb (u64_at s 112) max_id) (le-leb 2 (u64_at s 112) r.next_object_least) (le-leb (u64_at s 112) max_id r.next_object_most) in
      let job = and_both (leb 1 (u64_at s 152)) (leb (u64_at s 152) max_id) (le-leb 1 (u64_at s 152) r.next_job_least) (le-leb (u64_at s 152) max_id r.next_job_most) in
      all_pass (numbers_demands (root_of s) blocks Disk) (object, (job, (le-leb (u64_at s 120) (blocks - 1027) (omega (arith, r.free)), tt)))

  fields_pass : validate_root_fields (root_of s) slot blocks Disk ≡ Ok tt
  unfolding validate_root_fields
  fields_pass =
      all_pass (field_demands (root_of s) slot blocks Disk)
      (passed_test _ tt general_passes, (passed_test _ tt refs_pass, (passed_test _ tt workspace_passes, (passed_test _ tt trees_pass, (passed_test _ tt numbers_pass, tt)))))

-- ---- the theorem

pub root_exactly : RootExactly
root_exactly s slot blocks root = (
  λ e.
      let h = decode_holds s slot blocks root e in
      (root_accepted s slot blocks (passed_is (check_block s slot blocks) h.0.0) (passed_is (validate_root_fields (root_of s) slot blocks Disk) h.0.1.0), h.1),
  λ h. decoded s slot blocks (block_passes s slot blocks h.0) (fields_pass s slot blocks h.0) ∙ ap Ok (sym h.1),
)
