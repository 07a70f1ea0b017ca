-- The first failing check answers, call by call: each is `first_answers` of its own list.
use Prim.Native.Nat.{ℕ, ◌+◌, ◌-◌}
use mathlib.Core.Path.{◌≡◌, refl}
use mathlib.Core.Bool.{Bool, true, false, cond}
use mathlib.Core.List.{List, [], ◌∷◌, ◌++◌}
use native.Mathlib.Omega.{arith}
use lib.Dec.{leb}
use Rattle.std.specs.Prelude.{Some, None, Ok}
use Rattle.error.specs.declared.Validation.TheVariants.{Input}
use Rattle.error.specs.Answer.{flag, number_words}
use Rattle.error.specs.Demand.{Demand, outcome, first_failing}
use Rattle.error.proofs.Words.{first_answers, first_check, first_number}
use Rattle.error.proofs.Exactly.{two_chains}
use Rattle.crc.specs.DataUnit.{data_unit_demands, data_unit_crc, length_demands, unit_new, unit_words, seen_demands, word_of, unit_finish}
use Rattle.volume.specs.declared.TreeKind.{TreeKind}
use Rattle.volume.specs.References.{blocks_demands, validate_blocks, tree_ref_demands, validate_tree_ref, root_slot_demands, validate_root_slot, uuid_demands, validate_uuid}
use Rattle.volume.specs.Groups.{group_count_demands, allocation_group_count}
use Rattle.group.specs.Group.{present, word, slot_demands, checksum_slot, group_demands, validate_checksum_group}
use Rattle.group.specs.Slots.{slot_words}
use Rattle.catalog.specs.Keys.{owner_demands, validate_owner_id, catalog_key_demands, validate_catalog_key}
use Rattle.catalog.specs.Times.{timestamp_range_demands, validate_timestamp_range}
use Rattle.catalog.specs.Inode.{symlink_target_demands, validate_symlink_target, inode_demands, validate_inode}
use Rattle.catalog.specs.Entry.{directory_entry_demands, validate_directory_entry}
use Rattle.catalog.specs.Extent.{extent_demands, validate_extent}
use Rattle.record.specs.Allocation.{allocation_group_demands, validate_allocation_group}
use Rattle.record.specs.Cleanup.{cleanup_demands, validate_cleanup_key_value}
use Rattle.record.specs.Workspace.{workspace_key_demands, validate_workspace_key, workspace_run_demands, validate_workspace_run}
use Rattle.record.specs.Internal.{child_ref, child_words, internal_demands, validate_internal_record}
use Rattle.record.specs.Leaf.{leaf_demands, leaf_blocks, validate_leaf_record, record_size_demands, leaf_record_blocks}
use Rattle.page.specs.Header.{level, count, payload_length, header_demands, validate_page_header}
use Rattle.page.specs.Page.{stated_page, page_demands, decode_page, page_words}
use Rattle.page.specs.Unchecked.{verified_demands, verified_page_view, draft_demands, draft_page_view}
use Rattle.root.specs.declared.Root.{Root}
use Rattle.root.specs.Label.{label_demands, label_of, label_new}
use Rattle.root.specs.Fields.{field_demands, validate_root_fields}
use Rattle.root.specs.Root.{root_of, root_demands, root_decode}
use Rattle.root.specs.Select.{selection, pair_demands, select_pair}
use Rattle.root.specs.Words.{label_words, root_numbers, root_words, choice_words}
use Rattle.claims.specs.Words.{FirstFailing}

-- a page that states its level, its count and its payload, with a total
page_first : (page : List ℕ) (t : ℕ) (ds : List Demand) → page_words (outcome ds (Ok (stated_page page t))) ≡ first_failing ds (level page ∷ t ∷ count page ∷ 80 ∷ payload_length page ∷ [])
unfolding page_words
page_first page t ds =
    let n : 80 + payload_length page - 80 ≡ payload_length page = omega arith in
    first_answers page_words (Ok (stated_page page t)) (level page ∷ t ∷ count page ∷ 80 ∷ payload_length page ∷ []) (λ e. refl) (rw n refl) ds

-- of two roots the one that is chosen, and its generation
pair_first : (a b : Root) → choice_words (select_pair a b) ≡ first_failing (pair_demands a b) (cond (leb b.generation a.generation) 1 2 ∷ cond (leb b.generation a.generation) a.generation b.generation ∷ [])
unfolding select_pair choice_words
pair_first a b = first_answers choice_words _ _ (λ e. refl) (go (leb b.generation a.generation)) (pair_demands a b)
  where
    go : (t : Bool) → choice_words (Ok (cond t (selection 1 a) (selection 2 b))) ≡ 0 ∷ 0 ∷ cond t 1 2 ∷ cond t a.generation b.generation ∷ []
    go true = refl
    go false = refl

-- a slot, by whether it is present
slot_first : (g : List ℕ) (s : ℕ) → slot_words (checksum_slot g s) ≡ first_failing (slot_demands g s) (flag (present g s) ∷ cond (present g s) (word g s) 0 ∷ [])
unfolding checksum_slot slot_words
slot_first g s = first_answers slot_words _ _ (λ e. refl) (go (present g s)) (slot_demands g s)
  where
    go : (t : Bool) → slot_words (Ok (cond t (Some (word g s)) None)) ≡ 0 ∷ 0 ∷ flag t ∷ cond t (word g s) 0 ∷ []
    go true = refl
    go false = refl

-- a record that is to be written: the demands on its size, then its own
size_first : (kind : TreeKind) (key value : List ℕ) (blocks generation : ℕ) → number_words (leaf_record_blocks kind key value blocks generation) ≡ first_failing (record_size_demands key value ++ leaf_demands kind key value blocks generation Input) (leaf_blocks kind key value ∷ [])
unfolding leaf_record_blocks validate_leaf_record
size_first kind key value blocks generation =
    rw (two_chains (record_size_demands key value) (leaf_demands kind key value blocks generation Input) (Ok (leaf_blocks kind key value))) (first_number _ _)

pub first_failing_answers : FirstFailing
unfolding data_unit_crc unit_new unit_words unit_finish validate_blocks validate_tree_ref validate_root_slot validate_uuid allocation_group_count label_new label_of label_words root_decode root_words validate_root_fields validate_page_header decode_page verified_page_view draft_page_view validate_owner_id validate_catalog_key validate_timestamp_range validate_symlink_target validate_inode validate_directory_entry validate_extent validate_allocation_group validate_cleanup_key_value validate_workspace_key validate_workspace_run validate_internal_record child_words validate_leaf_record validate_checksum_group
first_failing_answers = record {
  unit = λ u o n v. first_number _ (data_unit_demands v);
  begun = λ u o n v. first_answers unit_words _ (v ∷ []) (λ e. refl) refl (length_demands v);
  finished = λ s. first_number (word_of s) (seen_demands s);
  blocks = λ b m. first_check (blocks_demands b m);
  tree_ref = λ r b m. first_check (tree_ref_demands r b m);
  root_slot = λ s b m. first_check (root_slot_demands s b m);
  uuid = λ u m. first_check (uuid_demands u m);
  group_count = λ b. first_number _ (group_count_demands b);
  label = λ t. first_answers label_words (Ok (label_of t)) _ (λ e. refl) refl (label_demands t);
  root = λ s slot b. first_answers root_words (Ok (root_of s)) (root_numbers (root_of s)) (λ e. refl) refl (root_demands s slot b);
  root_fields = λ r slot b m. first_check (field_demands r slot b m);
  pair = pair_first;
  header = λ r u k g l b p. first_check (header_demands r u k g l b p);
  page = λ r u k g l b p. page_first p _ (page_demands r u k g l b p);
  verified = λ r u k g l p. page_first p _ (verified_demands r u k g l p);
  draft = λ p. page_first p 0 (draft_demands p);
  owner = λ o m. first_check (owner_demands o m);
  catalog_key = λ k m. first_number _ (catalog_key_demands k m);
  timestamp = λ s n m. first_check (timestamp_range_demands s n m);
  target = λ t m. first_check (symlink_target_demands t m);
  inode = λ v b m. first_check (inode_demands v b m);
  entry = λ v m. first_check (directory_entry_demands v m);
  extent = λ k v b m. first_number _ (extent_demands k v b m);
  allocation_group = λ k v b m. first_check (allocation_group_demands k v b m);
  cleanup = λ k v b g m. first_check (cleanup_demands k v b g m);
  workspace_key = λ k b m. first_check (workspace_key_demands k b m);
  workspace_run = λ k v b m. first_check (workspace_run_demands k v b m);
  internal_record = λ t k v b g m. first_answers child_words (Ok (child_ref v)) _ (λ e. refl) refl (internal_demands t k v b g m);
  leaf_record = λ t k v b g m. first_number _ (leaf_demands t k v b g m);
  leaf_blocks_of = size_first;
  group = λ k v m. first_check (group_demands k v m);
  slot = slot_first;
}
