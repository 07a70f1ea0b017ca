-- Demand 1: every call ends in a result, or in one return class of document 01 with its reason (01, "Return classes").
-- That each call ends, and within its bounds, is what the proof of its contract says; here, that what it answers is of the classes that it can
-- have, with a reason of 01's table; of the integer readers and a data unit, the one refusal that they have.
use Rattle.std.specs.Prelude.{ℕ, ◌≡◌, ◌⊎◌, true, Bool, ◌&&◌, ◌||◌, List, [], ◌∷◌, leb, eqb, ℤ, Option, Result}
use Rattle.error.specs.declared.Error.{Error}
use Rattle.error.specs.declared.Validation.{Validation}
use Rattle.error.specs.declared.Validation.TheVariants.{Input, Disk}
use Rattle.error.specs.Answer.{check_class, check_reason}
use Rattle.error.specs.Reason.{symlink_target_is_too_long}
use Rattle.octets.specs.Reads.{read_of}
use Rattle.crc.specs.declared.DataUnitCrc.{DataUnitCrc}
use Rattle.crc.specs.DataUnit.{data_unit_crc, unit_new, unit_finish}
use Rattle.volume.specs.declared.TreeRef.{TreeRef}
use Rattle.volume.specs.declared.TreeKind.{TreeKind}
use Rattle.volume.specs.References.{validate_blocks, validate_tree_ref, validate_page_ref, validate_root_slot, validate_uuid}
use Rattle.volume.specs.Groups.{allocation_group_count}
use Rattle.group.specs.Group.{checksum_slot, validate_checksum_group}
use Rattle.catalog.specs.Keys.{validate_owner_id, validate_catalog_key}
use Rattle.catalog.specs.Times.{validate_timestamp_range}
use Rattle.catalog.specs.Inode.{validate_symlink_target, validate_inode}
use Rattle.catalog.specs.Entry.{validate_directory_entry}
use Rattle.catalog.specs.Extent.{validate_extent}
use Rattle.record.specs.Allocation.{validate_allocation_group}
use Rattle.record.specs.Cleanup.{validate_cleanup_key_value}
use Rattle.record.specs.Workspace.{validate_workspace_key, validate_workspace_run}
use Rattle.record.specs.Internal.{validate_internal_record}
use Rattle.record.specs.Leaf.{validate_leaf_record, leaf_record_blocks}
use Rattle.walk.specs.declared.RecordValidation.{RecordValidation}
use Rattle.walk.specs.Records.{is_one_of, validate_records}
use Rattle.page.specs.Header.{validate_page_header}
use Rattle.page.specs.Page.{decode_page}
use Rattle.page.specs.Unchecked.{verified_page_view, draft_page_view}
use Rattle.root.specs.declared.Root.{Root}
use Rattle.root.specs.Label.{label_new}
use Rattle.root.specs.Fields.{validate_root_fields}
use Rattle.root.specs.Root.{root_decode}
use Rattle.root.specs.Select.{select_root, supported_root, choose_root}
use Rattle.claims.specs.Classes.{root_classes, page_classes, group_classes}

-- a reason of the list that the reader has: 166 to 175 stand in encoders only
abbrev pub is_reason : ℕ → Bool
is_reason reason = leb 1 reason && leb reason 165

-- 01, "Return classes": class 0, 1 or 4 with reason 0; class 2 or 3 with a reason of the list; class 6 with that of a symlink target that is too long; class 5 is kept free
abbrev pub is_answer : ℕ → ℕ → Bool
is_answer class reason =
    ((eqb class 0 || (eqb class 1 || eqb class 4)) && eqb reason 0)
    || (((eqb class 2 || eqb class 3) && is_reason reason) || (eqb class 6 && eqb reason symlink_target_is_too_long))

-- every class of the table but the free one
abbrev pub every_class : List ℕ
every_class = 0 ∷ 1 ∷ 2 ∷ 3 ∷ 4 ∷ 6 ∷ []

-- a class that is one of these, and a reason of the table beside it
pub record AnswersIn {A : Type 0} (classes : List ℕ) (c : Result A Error) : Type 0 where
  pub told : (is_one_of (check_class c) classes && is_answer (check_class c) (check_reason c)) ≡ true

-- 01, "Return classes": the classes of a call that goes by a mode: what breaks a rule is of class 2 in mode Input, with `more` besides, and of class 3 in mode Disk
abbrev pub by_mode : Validation → List ℕ → List ℕ
by_mode Input more = 0 ∷ 2 ∷ more
by_mode Disk more = 0 ∷ 3 ∷ []

-- the answers of a call that goes by a mode and meets no symlink target
abbrev pub AnswersBy : {A : Type 0} → Validation → Result A Error → Type 0
AnswersBy mode c = AnswersIn (by_mode mode []) c

-- those of a call that may meet a symlink target, which in mode Input is refused with class 6 where it is too long
abbrev pub TargetAnswersBy : {A : Type 0} → Validation → Result A Error → Type 0
TargetAnswersBy mode c = AnswersIn (by_mode mode (6 ∷ [])) c

-- those of the walk, which may meet one too, and whose reads of a record's two lengths answer class 3 in every mode
abbrev pub WalkAnswersBy : {A : Type 0} → Validation → Result A Error → Type 0
WalkAnswersBy mode c = AnswersIn (by_mode mode (3 ∷ 6 ∷ [])) c

-- beside these: an answer that is refused, if at all, with this class and this reason alone, whether or not the reason is in the list
pub record RefusesAlone {A : Type 0} (class reason : ℕ) (c : Result A Error) : Type 0 where
  pub told : (check_class c ≡ 0) × (check_reason c ≡ 0) ⊎ (check_class c ≡ class) × (check_reason c ≡ reason)

-- demand 1, call by call, by the sections of 01
pub record Demand1 : Type 0 where
  -- "Return classes": a reason that the caller gives to an integer reader comes back unchanged with class 3
  pub read : (s : List ℕ) (offset width reason : ℕ) → RefusesAlone 3 reason (read_of s offset width reason)
  -- crc.rs, `DataUnitCrc::new`: the length of a data unit is refused with class 2 and reason 0, the one string that isn't in the list (DECISIONS 17)
  pub unit : (uuid : List ℕ) (object unit : ℕ) (valid : List ℕ) → RefusesAlone 2 0 (data_unit_crc uuid object unit valid)
  -- the same in pieces: the length that is announced, and crc.rs, `DataUnitCrc::finish`, another number of bytes than announced
  pub begun : (uuid : List ℕ) (object unit valid : ℕ) → RefusesAlone 2 0 (unit_new uuid object unit valid)
  pub finished : (sum : DataUnitCrc) → RefusesAlone 2 0 (unit_finish sum)
  -- section 2: blocks, references and slots; and what stands beside them, UUIDs and the count of groups
  pub blocks : (blocks : ℕ) (mode : Validation) → AnswersBy mode (validate_blocks blocks mode)
  pub tree_ref : (reference : TreeRef) (blocks : ℕ) (mode : Validation) → AnswersBy mode (validate_tree_ref reference blocks mode)
  pub page_ref : (reference : TreeRef) (kind : TreeKind) (blocks : ℕ) (mode : Validation) → AnswersBy mode (validate_page_ref reference kind blocks mode)
  pub root_slot : (slot blocks : ℕ) (mode : Validation) → AnswersBy mode (validate_root_slot slot blocks mode)
  pub uuid : (uuid : List ℕ) (mode : Validation) → AnswersBy mode (validate_uuid uuid mode)
  pub group_count : (blocks : ℕ) → AnswersIn (0 ∷ 3 ∷ []) (allocation_group_count blocks)
  -- section 3: labels, roots and their choice; `supported_root` and `choose_root` pass on what they are given, the first but for class 3
  pub label : (text : List ℕ) → AnswersIn (0 ∷ 2 ∷ []) (label_new text)
  pub root : (s : List ℕ) (slot blocks : ℕ) → AnswersIn root_classes (root_decode s slot blocks)
  pub root_fields_of : (r : Root) (slot blocks : ℕ) (mode : Validation) → AnswersBy mode (validate_root_fields r slot blocks mode)
  pub chosen : (a b : Option Root) → AnswersIn (0 ∷ 3 ∷ []) (select_root a b)
  pub supported : (d : Result Root Error) → AnswersIn every_class d → AnswersIn (0 ∷ 1 ∷ 2 ∷ 4 ∷ 6 ∷ []) (supported_root d)
  pub choice : (a b : Result (Option Root) Error) → AnswersIn every_class a → AnswersIn every_class b → AnswersIn every_class (choose_root a b)
  -- section 4: pages
  pub header : (reference : TreeRef) (uuid : List ℕ) (kind : TreeKind) (parent_generation : ℕ) (expected_level : Option ℕ) (blocks : ℕ) (page : List ℕ) → AnswersIn page_classes (validate_page_header reference uuid kind parent_generation expected_level blocks page)
  pub page : (reference : TreeRef) (uuid : List ℕ) (kind : TreeKind) (parent_generation : ℕ) (expected_level : Option ℕ) (blocks : ℕ) (page : List ℕ) → AnswersIn page_classes (decode_page reference uuid kind parent_generation expected_level blocks page)
  pub verified : (reference : TreeRef) (uuid : List ℕ) (kind : TreeKind) (parent_generation : ℕ) (expected_level : Option ℕ) (page : List ℕ) → AnswersIn (0 ∷ 3 ∷ []) (verified_page_view reference uuid kind parent_generation expected_level page)
  pub draft : (page : List ℕ) → AnswersIn (0 ∷ 3 ∷ []) (draft_page_view page)
  -- section 5: owners, keys, times, targets, records of every kind, and the walk over them
  pub owner : (owner : ℕ) (mode : Validation) → AnswersBy mode (validate_owner_id owner mode)
  pub catalog_key : (key : List ℕ) (mode : Validation) → AnswersBy mode (validate_catalog_key key mode)
  pub timestamp : (seconds : ℤ) (nanos : ℕ) (mode : Validation) → AnswersBy mode (validate_timestamp_range seconds nanos mode)
  pub target : (target : List ℕ) (mode : Validation) → TargetAnswersBy mode (validate_symlink_target target mode)
  pub inode : (value : List ℕ) (blocks : ℕ) (mode : Validation) → TargetAnswersBy mode (validate_inode value blocks mode)
  pub entry : (value : List ℕ) (mode : Validation) → AnswersBy mode (validate_directory_entry value mode)
  pub extent : (key value : List ℕ) (blocks : ℕ) (mode : Validation) → AnswersBy mode (validate_extent key value blocks mode)
  pub allocation_group : (key value : List ℕ) (blocks : ℕ) (mode : Validation) → AnswersBy mode (validate_allocation_group key value blocks mode)
  pub cleanup : (key value : List ℕ) (blocks generation : ℕ) (mode : Validation) → AnswersBy mode (validate_cleanup_key_value key value blocks generation mode)
  pub workspace_key : (key : List ℕ) (blocks : ℕ) (mode : Validation) → AnswersBy mode (validate_workspace_key key blocks mode)
  pub workspace_run : (key value : List ℕ) (blocks : ℕ) (mode : Validation) → AnswersBy mode (validate_workspace_run key value blocks mode)
  pub internal_record : (kind : TreeKind) (key value : List ℕ) (blocks generation : ℕ) (mode : Validation) → AnswersBy mode (validate_internal_record kind key value blocks generation mode)
  pub leaf_record : (kind : TreeKind) (key value : List ℕ) (blocks generation : ℕ) (mode : Validation) → TargetAnswersBy mode (validate_leaf_record kind key value blocks generation mode)
  pub leaf_blocks_of : (kind : TreeKind) (key value : List ℕ) (blocks generation : ℕ) → AnswersIn (0 ∷ 2 ∷ 6 ∷ []) (leaf_record_blocks kind key value blocks generation)
  pub walk : (rest : List ℕ) (payload_length count : ℕ) (context : RecordValidation) → WalkAnswersBy context.mode (validate_records rest payload_length count context)
  -- section 6: checksum groups
  pub group : (key value : List ℕ) (mode : Validation) → AnswersBy mode (validate_checksum_group key value mode)
  pub slot : (g : List ℕ) (s : ℕ) → AnswersIn group_classes (checksum_slot g s)
