-- "The first failing check in the Rust's order answers" (01, "Return classes"), in 01's numbers: each call whose answer is that of a list of
-- demands gives class and reason of the first that fails, with zeros in the place of its values, or 0, 0 and the values. Of the others the
-- integer readers have one refusal (`Demand1`), a page's reference goes by its tree's kind, the walk by its records, and of the choice `select_root` is here of two roots alone.
use Rattle.std.specs.Prelude.{ℕ, ◌≡◌, cond, leb, List, [], ◌∷◌, ◌++◌, length, ℤ, Option, Some}
use Rattle.error.specs.declared.Validation.{Validation}
use Rattle.error.specs.declared.Validation.TheVariants.{Input}
use Rattle.error.specs.declared.Error.{Error}
use Rattle.error.specs.Answer.{Check, Number, class_of, reason_of, flag, check_words, number_words}
use Rattle.error.specs.Demand.{first_failing}
use Rattle.crc.specs.Crc.{crc32c}
use Rattle.crc.specs.declared.DataUnitCrc.{DataUnitCrc}
use Rattle.crc.specs.DataUnit.{data_unit, data_unit_demands, data_unit_crc, length_demands, unit_new, unit_words, seen_demands, word_of, unit_finish}
use Rattle.volume.specs.declared.TreeRef.{TreeRef}
use Rattle.volume.specs.declared.TreeKind.{TreeKind}
use Rattle.volume.specs.References.{blocks_demands, validate_blocks, tree_ref_demands, validate_tree_ref, root_slot_demands, validate_root_slot, uuid_demands, validate_uuid}
use Rattle.volume.specs.Groups.{groups_of, group_count_demands, allocation_group_count}
use Rattle.group.specs.Group.{present, word, slot_demands, checksum_slot, group_demands, validate_checksum_group}
use Rattle.group.specs.Slots.{Slot, slot_words}
use Rattle.catalog.specs.Keys.{key_kind, owner_demands, validate_owner_id, catalog_key_demands, validate_catalog_key}
use Rattle.catalog.specs.Times.{timestamp_range_demands, validate_timestamp_range}
use Rattle.catalog.specs.Inode.{symlink_target_demands, validate_symlink_target, inode_demands, validate_inode}
use Rattle.catalog.specs.Entry.{directory_entry_demands, validate_directory_entry}
use Rattle.catalog.specs.Extent.{extent_count, extent_demands, validate_extent}
use Rattle.record.specs.Allocation.{allocation_group_demands, validate_allocation_group}
use Rattle.record.specs.Cleanup.{cleanup_demands, validate_cleanup_key_value}
use Rattle.record.specs.Workspace.{workspace_key_demands, validate_workspace_key, workspace_run_demands, validate_workspace_run}
use Rattle.record.specs.Internal.{Child, child_ref, child_words, internal_demands, validate_internal_record}
use Rattle.record.specs.Leaf.{leaf_demands, leaf_blocks, validate_leaf_record, record_size_demands, leaf_record_blocks}
use Rattle.page.specs.Header.{level, count, payload_length, total, header_demands, validate_page_header}
use Rattle.page.specs.Page.{page_demands, decode_page, page_words}
use Rattle.page.specs.Unchecked.{verified_demands, verified_page_view, draft_demands, draft_page_view}
use Rattle.root.specs.declared.Root.{Root}
use Rattle.root.specs.Label.{label_demands, label_new}
use Rattle.root.specs.Fields.{field_demands, validate_root_fields}
use Rattle.root.specs.Root.{root_of, root_demands, root_decode}
use Rattle.root.specs.Select.{pair_demands, select_root}
use Rattle.root.specs.Words.{label_words, root_numbers, root_words, choice_words}

-- call by call, by the sections of 01
pub record FirstFailing : Type 0 where
  -- crc.rs, `data_unit_crc` (READING-RULES 3.4): the checksum word of a data unit
  pub unit : (uuid : List ℕ) (object unit : ℕ) (valid : List ℕ) → number_words (data_unit_crc uuid object unit valid) ≡ first_failing (data_unit_demands valid) (crc32c (data_unit uuid object unit valid) ∷ [])
  -- the same in pieces: the length that is announced, and the word once as many bytes came
  pub begun : (uuid : List ℕ) (object unit valid : ℕ) → unit_words (unit_new uuid object unit valid) ≡ first_failing (length_demands valid) (valid ∷ [])
  pub finished : (sum : DataUnitCrc) → number_words (unit_finish sum) ≡ first_failing (seen_demands sum) (word_of sum ∷ [])
  -- section 2: blocks, references and slots; UUIDs, and how many groups there are
  pub blocks : (blocks : ℕ) (mode : Validation) → check_words (validate_blocks blocks mode) ≡ first_failing (blocks_demands blocks mode) []
  pub tree_ref : (reference : TreeRef) (blocks : ℕ) (mode : Validation) → check_words (validate_tree_ref reference blocks mode) ≡ first_failing (tree_ref_demands reference blocks mode) []
  pub root_slot : (slot blocks : ℕ) (mode : Validation) → check_words (validate_root_slot slot blocks mode) ≡ first_failing (root_slot_demands slot blocks mode) []
  pub uuid : (uuid : List ℕ) (mode : Validation) → check_words (validate_uuid uuid mode) ≡ first_failing (uuid_demands uuid mode) []
  pub group_count : (blocks : ℕ) → number_words (allocation_group_count blocks) ≡ first_failing (group_count_demands blocks) (groups_of blocks ∷ [])
  -- section 3: a label's length, a root's numbers, and which of two roots is chosen, with its generation
  pub label : (text : List ℕ) → label_words (label_new text) ≡ first_failing (label_demands text) (length text ∷ [])
  pub root : (s : List ℕ) (slot blocks : ℕ) → root_words (root_decode s slot blocks) ≡ first_failing (root_demands s slot blocks) (root_numbers (root_of s))
  pub root_fields : (r : Root) (slot blocks : ℕ) (mode : Validation) → check_words (validate_root_fields r slot blocks mode) ≡ first_failing (field_demands r slot blocks mode) []
  pub pair : (a b : Root) → choice_words (select_root (Some a) (Some b)) ≡ first_failing (pair_demands a b) (cond (leb b.generation a.generation) 1 2 ∷ cond (leb b.generation a.generation) a.generation b.generation ∷ [])
  -- section 4: a page's level, total and count, its payload from byte 80 on, and the payload's length; a draft's total is 0
  pub header : (reference : TreeRef) (uuid : List ℕ) (kind : TreeKind) (parent_generation : ℕ) (expected_level : Option ℕ) (blocks : ℕ) (page : List ℕ) → check_words (validate_page_header reference uuid kind parent_generation expected_level blocks page) ≡ first_failing (header_demands reference uuid kind parent_generation expected_level blocks page) []
  pub page : (reference : TreeRef) (uuid : List ℕ) (kind : TreeKind) (parent_generation : ℕ) (expected_level : Option ℕ) (blocks : ℕ) (page : List ℕ) → page_words (decode_page reference uuid kind parent_generation expected_level blocks page) ≡ first_failing (page_demands reference uuid kind parent_generation expected_level blocks page) (level page ∷ total page ∷ count page ∷ 80 ∷ payload_length page ∷ [])
  pub verified : (reference : TreeRef) (uuid : List ℕ) (kind : TreeKind) (parent_generation : ℕ) (expected_level : Option ℕ) (page : List ℕ) → page_words (verified_page_view reference uuid kind parent_generation expected_level page) ≡ first_failing (verified_demands reference uuid kind parent_generation expected_level page) (level page ∷ total page ∷ count page ∷ 80 ∷ payload_length page ∷ [])
  pub draft : (page : List ℕ) → page_words (draft_page_view page) ≡ first_failing (draft_demands page) (level page ∷ 0 ∷ count page ∷ 80 ∷ payload_length page ∷ [])
  -- section 5: owners, keys, times, targets and records of every kind: a key's kind, an extent's count, a leaf record's blocks, an internal record's child
  pub owner : (owner : ℕ) (mode : Validation) → check_words (validate_owner_id owner mode) ≡ first_failing (owner_demands owner mode) []
  pub catalog_key : (key : List ℕ) (mode : Validation) → number_words (validate_catalog_key key mode) ≡ first_failing (catalog_key_demands key mode) (key_kind key ∷ [])
  pub timestamp : (seconds : ℤ) (nanos : ℕ) (mode : Validation) → check_words (validate_timestamp_range seconds nanos mode) ≡ first_failing (timestamp_range_demands seconds nanos mode) []
  pub target : (target : List ℕ) (mode : Validation) → check_words (validate_symlink_target target mode) ≡ first_failing (symlink_target_demands target mode) []
  pub inode : (value : List ℕ) (blocks : ℕ) (mode : Validation) → check_words (validate_inode value blocks mode) ≡ first_failing (inode_demands value blocks mode) []
  pub entry : (value : List ℕ) (mode : Validation) → check_words (validate_directory_entry value mode) ≡ first_failing (directory_entry_demands value mode) []
  pub extent : (key value : List ℕ) (blocks : ℕ) (mode : Validation) → number_words (validate_extent key value blocks mode) ≡ first_failing (extent_demands key value blocks mode) (extent_count value ∷ [])
  pub allocation_group : (key value : List ℕ) (blocks : ℕ) (mode : Validation) → check_words (validate_allocation_group key value blocks mode) ≡ first_failing (allocation_group_demands key value blocks mode) []
  pub cleanup : (key value : List ℕ) (blocks generation : ℕ) (mode : Validation) → check_words (validate_cleanup_key_value key value blocks generation mode) ≡ first_failing (cleanup_demands key value blocks generation mode) []
  pub workspace_key : (key : List ℕ) (blocks : ℕ) (mode : Validation) → check_words (validate_workspace_key key blocks mode) ≡ first_failing (workspace_key_demands key blocks mode) []
  pub workspace_run : (key value : List ℕ) (blocks : ℕ) (mode : Validation) → check_words (validate_workspace_run key value blocks mode) ≡ first_failing (workspace_run_demands key value blocks mode) []
  pub internal_record : (kind : TreeKind) (key value : List ℕ) (blocks generation : ℕ) (mode : Validation) → child_words (validate_internal_record kind key value blocks generation mode) ≡ first_failing (internal_demands kind key value blocks generation mode) ((child_ref value).block ∷ (child_ref value).generation ∷ [])
  pub leaf_record : (kind : TreeKind) (key value : List ℕ) (blocks generation : ℕ) (mode : Validation) → number_words (validate_leaf_record kind key value blocks generation mode) ≡ first_failing (leaf_demands kind key value blocks generation mode) (leaf_blocks kind key value ∷ [])
  -- a record that is to be written: its size first, then as above in mode Input
  pub leaf_blocks_of : (kind : TreeKind) (key value : List ℕ) (blocks generation : ℕ) → number_words (leaf_record_blocks kind key value blocks generation) ≡ first_failing (record_size_demands key value ++ leaf_demands kind key value blocks generation Input) (leaf_blocks kind key value ∷ [])
  -- section 6: checksum groups; a slot's presence and its word, 0 if it isn't present
  pub group : (key value : List ℕ) (mode : Validation) → check_words (validate_checksum_group key value mode) ≡ first_failing (group_demands key value mode) []
  pub slot : (g : List ℕ) (s : ℕ) → slot_words (checksum_slot g s) ≡ first_failing (slot_demands g s) (flag (present g s) ∷ cond (present g s) (word g s) 0 ∷ [])

-- 01, "Return classes": the words tell answers apart. Class and reason are of one refusal alone; so an answer's words are those of that answer alone
pub record WordsTellApart : Type 0 where
  pub refusals : (a b : Error) → class_of a ≡ class_of b → reason_of a ≡ reason_of b → a ≡ b
  -- a check, one that gives a number, a slot of a group, and the page that a record names
  pub checks : (a b : Check) → check_words a ≡ check_words b → a ≡ b
  pub numbers : (a b : Number) → number_words a ≡ number_words b → a ≡ b
  pub slots : (a b : Slot) → slot_words a ≡ slot_words b → a ≡ b
  pub children : (a b : Child) → child_words a ≡ child_words b → a ≡ b
