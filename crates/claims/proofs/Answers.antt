-- Demand 1's statement holds: every refusal in a list of demands is one of 01's table, and so is what is made of it.
use Prim.Native.Nat.{ℕ, zero, suc}
use mathlib.Core.Path.{◌≡◌, refl, sym, ◌∙◌}
use borrow.Author.Tests.{eqb-true, eq-eqb, ne_eqb}
use mathlib.Core.Bool.{Bool, true, false, ◌&&◌, ◌||◌, cond, true≢false}
use mathlib.Core.Logic.{inl, inr}
use mathlib.Core.List.{List, [], ◌∷◌}
use lib.Dec.{eqb}
use lib.IntN.{ℤ}
use lib.ListN.{length}
use Rattle.error.specs.declared.Error.{Error}
use Rattle.error.specs.declared.Error.TheVariants.{InvalidGeometry, InvalidInput, Corrupt, UnsupportedFormat}
use Rattle.error.specs.declared.Validation.{Validation}
use Rattle.error.specs.declared.Validation.TheVariants.{Input, Disk}
use Rattle.std.specs.Prelude.{Option, Some, None, Result, Ok, Err}
use Rattle.error.specs.Answer.{Number, class_of, reason_of, check_class, check_reason, number_check, number_of, violation_of}
use Rattle.error.specs.Demand.{Demand, passing, outcome, demands}
use Rattle.error.specs.Reason as reason
use Rattle.error.proofs.Tests.{and_left, and_right, and_both}
use Rattle.volume.specs.declared.TreeRef.{TreeRef}
use Rattle.volume.specs.declared.TreeKind.{TreeKind}
use Rattle.volume.specs.References.{validate_blocks, tree_ref_demands, validate_tree_ref, workspace_ref_demands, validate_workspace_ref, validate_page_ref, root_slot_demands, validate_root_slot, validate_uuid}
use Rattle.volume.specs.Groups.{groups_of, allocation_group_count}
use Rattle.group.specs.Group.{slot_demands, checksum_slot, group_demands, validate_checksum_group}
use Rattle.catalog.specs.Keys.{key_kind, owner_demands, validate_owner_id, catalog_key_demands, validate_catalog_key}
use Rattle.catalog.specs.Times.{timestamp_range_demands, validate_timestamp_range, timestamp_demands, validate_timestamp}
use Rattle.catalog.specs.Inode.{too_long_of, inode_type, inode_target, symlink_target_demands, validate_symlink_target, target_check, inode_demands, validate_inode}
use Rattle.catalog.specs.Entry.{directory_entry_demands, validate_directory_entry}
use Rattle.catalog.specs.Extent.{extent_count, extent_demands, validate_extent}
use Rattle.record.specs.Allocation.{group_index_demands, validate_group_index, allocation_group_demands, validate_allocation_group}
use Rattle.record.specs.Cleanup.{cleanup_kind, cleanup_number, cleanup_block, retirement_demands, validate_retirement, detached_tree_demands, validate_detached_tree, orphan_marker_demands, validate_orphan_marker, cleanup_record, cleanup_demands, validate_cleanup_key_value}
use Rattle.record.specs.Workspace.{workspace_key_demands, validate_workspace_key, workspace_run_demands, validate_workspace_run}
use Rattle.record.specs.Internal.{child_ref, allocation_key_demands, allocation_internal_key, retirement_key_demands, retirement_key, cleanup_internal_key, internal_key, internal_demands, validate_internal_record, child_block}
use Rattle.record.specs.Leaf.{uncounted_record, catalog_record, leaf_demands, leaf_blocks, validate_leaf_record, record_size_demands, leaf_record_blocks}
use Rattle.lookup.specs.Record.{key_of, value_of}
use Rattle.walk.specs.declared.RecordValidation.{RecordValidation}
use Rattle.walk.specs.Records.{is_one_of, form_demands, form_check, Own, leaf_rules, child_rules, own_answer, join_demands, join_check, record_demands, walk, size_demands, records, is_leaf, own_rules, validate_records}
use Rattle.page.specs.Header.{caller_demands, check_caller, format_demands, check_format, kind_demands, check_kind, identity_demands, check_identity, header_demands, validate_page_header}
use Rattle.page.specs.Page.{validate_page_records, content_demands, check_content, page_demands, accepted_page, decode_page}
use Rattle.page.specs.Unchecked.{verified_demands, verified_page_view, draft_demands, draft_numbers, draft_page_view}
use Rattle.root.specs.declared.Root.{Root}
use Rattle.root.specs.Label.{label_demands, label_new}
use Rattle.root.specs.Fields.{general_demands, check_general, refs_demands, check_refs, workspace_demands, check_workspace, trees_demands, check_trees, numbers_demands, check_numbers, field_demands, validate_root_fields}
use Rattle.root.specs.Root as root
use Rattle.root.specs.Root.{root_of, place_demands, check_place, envelope_demands, check_envelope, text_demands, check_text, label_field_demands, check_label, block_demands, check_block, root_demands, root_decode}
use Rattle.root.specs.Select.{pair_demands, select_pair, select_root, supported_root, choose_root}
use Rattle.octets.specs.Number.{within, field}
use Rattle.octets.specs.Reads.{read_of}
use Rattle.crc.specs.Crc.{crc32c}
use Rattle.crc.specs.declared.DataUnitCrc.{DataUnitCrc}
use Rattle.crc.specs.DataUnit.{data_unit, data_unit_demands, data_unit_crc, length_demands, unit_new, seen_demands, unit_finish}
use Rattle.claims.specs.Answers.{is_reason, is_answer, every_class, AnswersIn, by_mode, RefusesAlone, Demand1}
use Rattle.claims.specs.Classes.{root_classes, page_classes, group_classes}

-- ---- lists of demands

-- what holds of each demand of a list
abbrev pub Every : (Demand → Type 0) → List Demand → Type 0
Every Q [] = Unit
Every Q (d ∷ ds) = Q d × Every Q ds

-- what holds of each refusal whose test fails, and of the result, holds of what a list answers
pub ends : {A : Type 0} (Q : Demand → Type 0) (P : Result A Error → Type 0) (accepted : Result A Error) → ((d : Demand) → Q d → d.test ≡ false → P (Err d.refusal)) → P accepted → (ds : List Demand) → Every Q ds → P (outcome ds accepted)
unfolding outcome
ends Q P accepted r a [] h = a
ends Q P accepted r a (d ∷ ds) h = go d.test refl (ends Q P accepted r a ds h.1)
  where
    go : (b : Bool) → d.test ≡ b → P (outcome ds accepted) → P (cond b (outcome ds accepted) (Err d.refusal))
    go true p k = k
    go false p k = r d h.0 p

-- which classes: those of a mode, with more in mode Input, or these
data Which : Type 0 where
  By : Validation → List ℕ → Which
  These : List ℕ → Which

abbrev classes_of : Which → List ℕ
classes_of (By mode more) = by_mode mode more
classes_of (These classes) = classes

abbrev fits : Which → ℕ → ℕ → Bool
fits w class reason = is_one_of class (classes_of w) && is_answer class reason

-- a refusal, a demand that refuses so where its test fails, and an answer
record Good (w : Which) (e : Error) : Type 0 where
  told : fits w (class_of e) (reason_of e) ≡ true

record Refuses (w : Which) (d : Demand) : Type 0 where
  failing : d.test ≡ false → Good w d.refusal

record In {A : Type 0} (w : Which) (c : Result A Error) : Type 0 where
  told : fits w (check_class c) (check_reason c) ≡ true

to : {A : Type 0} {w : Which} {c : Result A Error} → In w c → AnswersIn (classes_of w) c
to h = record { told = h.told }

-- ---- sets of classes

abbrev subset : List ℕ → List ℕ → Bool
subset [] ds = true
subset (c ∷ cs) ds = is_one_of c ds && subset cs ds

among : (k : ℕ) (cs ds : List ℕ) → subset cs ds ≡ true → is_one_of k cs ≡ true → is_one_of k ds ≡ true
among k [] ds s e = cc
among k (c ∷ cs) ds s e = go (eqb c k) refl e (among k cs ds (and_right (is_one_of c ds) (subset cs ds) s))
  where
    go : (b : Bool) → eqb c k ≡ b → (b || is_one_of k cs) ≡ true → (is_one_of k cs ≡ true → is_one_of k ds ≡ true) → is_one_of k ds ≡ true
    go true p f rest = rw (sym (eqb-true c k p)) (and_left (is_one_of c ds) (subset cs ds) s)
    go false p f rest = rest f

wider : {A : Type 0} {v : Which} (w : Which) {c : Result A Error} → In v c → subset (classes_of v) (classes_of w) ≡ true → In w c
wider {A} {v} w {c} h s =
    record { told = and_both _ _ (among (check_class c) (classes_of v) (classes_of w) s (and_left _ _ h.told)) (and_right (is_one_of (check_class c) (classes_of v)) _ h.told) }

more_within : (mode : Validation) (more : List ℕ) → subset (by_mode mode []) (by_mode mode more) ≡ true
more_within Input more = refl
more_within Disk more = refl

target_within : (mode : Validation) → subset (by_mode mode (6 ∷ [])) (by_mode mode (3 ∷ 6 ∷ [])) ≡ true
target_within Input = refl
target_within Disk = refl

-- ---- what is accepted, and what a list of demands answers

by_passed : {A : Type 0} {mode : Validation} {more : List ℕ} {a : A} → In (By mode more) (Ok a)
by_passed {A} {mode} {more} {a} = go mode
  where
    go : (mode : Validation) → In {A = A} (By mode more) (Ok a)
    go Input = record { told = refl }
    go Disk = record { told = refl }

these_passed : {A : Type 0} {cs : List ℕ} {a : A} → is_one_of 0 cs ≡ true → In (These cs) (Ok a)
these_passed e = record { told = rw e refl }

refused_in : {A : Type 0} {w : Which} (e : Error) → Good w e → In {A = A} w (Err e)
refused_in e g = record { told = g.told }

numbered : {A : Type 0} {w : Which} (r : Result A Error) → In w r → (ds : List Demand) → Every (Refuses w) ds → In w (outcome ds r)
numbered {A} {w} r a = ends (Refuses w) (In w) r (λ d h p. refused_in d.refusal (h.failing p)) a

valued : {A : Type 0} {mode : Validation} {more : List ℕ} (n : A) (ds : List Demand) → Every (Refuses (By mode more)) ds → In (By mode more) (outcome ds (Ok n))
valued n = numbered (Ok n) by_passed

listed : {mode : Validation} {more : List ℕ} (ds : List Demand) → Every (Refuses (By mode more)) ds → In (By mode more) (demands ds)
listed = valued tt

valued_these : {A : Type 0} {cs : List ℕ} → is_one_of 0 cs ≡ true → (n : A) (ds : List Demand) → Every (Refuses (These cs)) ds → In (These cs) (outcome ds (Ok n))
valued_these e n = numbered (Ok n) (these_passed e)

listed_these : {cs : List ℕ} → is_one_of 0 cs ≡ true → (ds : List Demand) → Every (Refuses (These cs)) ds → In (These cs) (demands ds)
listed_these e = valued_these e tt

-- ---- refusals

violated : {more : List ℕ} (mode : Validation) (r : ℕ) → is_reason r ≡ true → Good (By mode more) (violation_of mode r)
violated Input r e = record { told = rw e refl }
violated Disk r e = record { told = rw e refl }

too_long : (mode : Validation) → Good (By mode (6 ∷ [])) (too_long_of mode reason.symlink_target_is_too_long)
too_long Input = record { told = refl }
too_long Disk = record { told = refl }

corrupt_read : {more : List ℕ} (mode : Validation) (r : ℕ) → is_reason r ≡ true → Good (By mode (3 ∷ more)) (Corrupt r)
corrupt_read Input r e = record { told = rw e refl }
corrupt_read Disk r e = record { told = rw e refl }

corrupt_disk : {more : List ℕ} (r : ℕ) → is_reason r ≡ true → Good (By Disk more) (Corrupt r)
corrupt_disk r e = record { told = rw e refl }

corrupt : (cs : List ℕ) (r : ℕ) → is_one_of 3 cs ≡ true → is_reason r ≡ true → Good (These cs) (Corrupt r)
corrupt cs r p e = record { told = rw (p, e) refl }

input : (cs : List ℕ) (r : ℕ) → is_one_of 2 cs ≡ true → is_reason r ≡ true → Good (These cs) (InvalidInput r)
input cs r p e = record { told = rw (p, e) refl }

unsupported : (cs : List ℕ) → is_one_of 4 cs ≡ true → Good (These cs) UnsupportedFormat
unsupported cs p = record { told = rw p refl }

geometry : (cs : List ℕ) → is_one_of 1 cs ≡ true → Good (These cs) InvalidGeometry
geometry cs p = record { told = rw p refl }

-- whatever its test is
always : {w : Which} (d : Demand) → Good w d.refusal → Refuses w d
always d g = record { failing = λ p. g }

-- a check that is one demand of a longer chain
passed_on : {A : Type 0} {w : Which} (c : Result A Error) → In w c → Refuses w (passing c)
passed_on (Ok a) h = record { failing = λ p. absurd (true≢false p) }
passed_on (Err e) h = record { failing = λ p. record { told = h.told } }

passed_more : {A : Type 0} {mode : Validation} {more : List ℕ} (c : Result A Error) → In (By mode []) c → Refuses (By mode more) (passing c)
passed_more {A} {mode} {more} c h = passed_on c (wider (By mode more) h (more_within mode more))

passed_input : {A : Type 0} {cs : List ℕ} (c : Result A Error) → In (By Input []) c → subset (0 ∷ 2 ∷ []) cs ≡ true → Refuses (These cs) (passing c)
passed_input {A} {cs} c h s = passed_on c (wider (These cs) h s)

passed_disk : {A : Type 0} {cs : List ℕ} (c : Result A Error) → In (By Disk []) c → subset (0 ∷ 3 ∷ []) cs ≡ true → Refuses (These cs) (passing c)
passed_disk {A} {cs} c h s = passed_on c (wider (These cs) h s)

passed_wider : {A : Type 0} {v w : Which} (c : Result A Error) → In v c → subset (classes_of v) (classes_of w) ≡ true → Refuses w (passing c)
passed_wider {A} {v} {w} c h s = passed_on c (wider w h s)

more_in : {A : Type 0} {mode : Validation} {more : List ℕ} {c : Result A Error} → In (By mode []) c → In (By mode more) c
more_in {A} {mode} {more} h = wider (By mode more) h (more_within mode more)

passed_target : {A : Type 0} {mode : Validation} (c : Result A Error) → In (By mode (6 ∷ [])) c → Refuses (By mode (3 ∷ 6 ∷ [])) (passing c)
passed_target {A} {mode} c h = passed_on c (wider (By mode (3 ∷ 6 ∷ [])) h (target_within mode))

ruleset good = (always, violated, too_long, corrupt_read, corrupt_disk, corrupt, input, unsupported, geometry, passed_on, passed_more, passed_input, passed_disk)

-- one of two
either : {A : Type 0} {w : Which} (b : Bool) (c d : Result A Error) → In w c → In w d → In w (cond b c d)
either true c d p q = p
either false c d p q = q

-- a check that gives a number, as a check alone
as_check : {w : Which} (n : Number) → In w n → In w (number_check n)
as_check (Ok k) h = record { told = h.told }
as_check (Err e) h = record { told = h.told }

-- ---- section 2
blocks_answers : (blocks : ℕ) (mode : Validation) → In (By mode []) (validate_blocks blocks mode)
unfolding validate_blocks
blocks_answers blocks mode = listed (_ ∷ []) (search good)

tree_answers : (reference : TreeRef) (blocks : ℕ) (mode : Validation) → In (By mode []) (validate_tree_ref reference blocks mode)
unfolding validate_tree_ref
tree_answers reference blocks mode = listed (tree_ref_demands reference blocks mode) (search (good, blocks_answers))

workspace_answers : (reference : TreeRef) (blocks : ℕ) (mode : Validation) → In (By mode []) (validate_workspace_ref reference blocks mode)
unfolding validate_workspace_ref
workspace_answers reference blocks mode = listed (workspace_ref_demands reference blocks mode) (search (good, blocks_answers))

page_ref_answers : (reference : TreeRef) (kind : TreeKind) (blocks : ℕ) (mode : Validation) → In (By mode []) (validate_page_ref reference kind blocks mode)
page_ref_answers reference TreeKind.Catalog blocks mode = tree_answers reference blocks mode
page_ref_answers reference TreeKind.Allocation blocks mode = tree_answers reference blocks mode
page_ref_answers reference TreeKind.Cleanup blocks mode = tree_answers reference blocks mode
page_ref_answers reference TreeKind.Workspace blocks mode = workspace_answers reference blocks mode

slot_answers : (slot blocks : ℕ) (mode : Validation) → In (By mode []) (validate_root_slot slot blocks mode)
unfolding validate_root_slot
slot_answers slot blocks mode = listed (root_slot_demands slot blocks mode) (search (good, blocks_answers))

uuid_answers : (uuid : List ℕ) (mode : Validation) → In (By mode []) (validate_uuid uuid mode)
unfolding validate_uuid
uuid_answers uuid mode = listed (_ ∷ []) (search good)

count_answers : (blocks : ℕ) → In (These (0 ∷ 3 ∷ [])) (allocation_group_count blocks)
unfolding allocation_group_count
count_answers blocks = valued_these refl (groups_of blocks) (_ ∷ []) (search good)

-- ---- section 5, the catalog
owner_answers : (owner : ℕ) (mode : Validation) → In (By mode []) (validate_owner_id owner mode)
unfolding validate_owner_id
owner_answers owner mode = listed (owner_demands owner mode) (search good)

key_answers : (key : List ℕ) (mode : Validation) → In (By mode []) (validate_catalog_key key mode)
unfolding validate_catalog_key
key_answers key mode = valued (key_kind key) (catalog_key_demands key mode) (search (good, owner_answers))

range_answers : (seconds : ℤ) (nanos : ℕ) (mode : Validation) → In (By mode []) (validate_timestamp_range seconds nanos mode)
unfolding validate_timestamp_range
range_answers seconds nanos mode = listed (timestamp_range_demands seconds nanos mode) (search good)

time_answers : (value : List ℕ) (offset : ℕ) (mode : Validation) → In (By mode []) (validate_timestamp value offset mode)
unfolding validate_timestamp
time_answers value offset mode = listed (timestamp_demands value offset mode) (search (good, range_answers))

symlink_answers : (target : List ℕ) (mode : Validation) → In (By mode (6 ∷ [])) (validate_symlink_target target mode)
unfolding validate_symlink_target
symlink_answers target mode = listed (symlink_target_demands target mode) (search good)

target_answers : (value : List ℕ) (mode : Validation) → In (By mode (6 ∷ [])) (target_check value mode)
unfolding target_check
target_answers value mode = either (eqb (inode_type value) 3) (validate_symlink_target (inode_target value) mode) (Ok tt) (symlink_answers (inode_target value) mode) by_passed

inode_answers : (value : List ℕ) (blocks : ℕ) (mode : Validation) → In (By mode (6 ∷ [])) (validate_inode value blocks mode)
unfolding validate_inode
inode_answers value blocks mode = listed (inode_demands value blocks mode) (search (good, owner_answers, target_answers, time_answers) depth 20)

entry_answers : (value : List ℕ) (mode : Validation) → In (By mode []) (validate_directory_entry value mode)
unfolding validate_directory_entry
entry_answers value mode = listed (directory_entry_demands value mode) (search (good, owner_answers))

extent_answers : (key value : List ℕ) (blocks : ℕ) (mode : Validation) → In (By mode []) (validate_extent key value blocks mode)
unfolding validate_extent
extent_answers key value blocks mode = valued (extent_count value) (extent_demands key value blocks mode) (search good)

-- ---- section 6
group_answers : (key value : List ℕ) (mode : Validation) → In (By mode []) (validate_checksum_group key value mode)
unfolding validate_checksum_group
group_answers key value mode = listed (group_demands key value mode) (search good)

slot_told : (g : List ℕ) (s : ℕ) → In (These group_classes) (checksum_slot g s)
unfolding checksum_slot
slot_told g s = valued_these refl _ (slot_demands g s) (search good)

-- ---- section 5, records of every tree
index_answers : (group blocks uncounted outside : ℕ) (mode : Validation) → is_reason uncounted ≡ true → is_reason outside ≡ true → In (By mode []) (validate_group_index group blocks uncounted outside mode)
unfolding validate_group_index
index_answers group blocks uncounted outside mode a b = listed (group_index_demands group blocks uncounted outside mode) (search good)

allocation_answers : (key value : List ℕ) (blocks : ℕ) (mode : Validation) → In (By mode []) (validate_allocation_group key value blocks mode)
unfolding validate_allocation_group
allocation_answers key value blocks mode = listed (allocation_group_demands key value blocks mode) (search (good, index_answers))

retirement_answers : (key value : List ℕ) (blocks generation : ℕ) (mode : Validation) → In (By mode []) (validate_retirement key value blocks generation mode)
unfolding validate_retirement
retirement_answers key value blocks generation mode = listed (retirement_demands key value blocks generation mode) (search good)

detached_answers : (key value : List ℕ) (blocks generation : ℕ) (mode : Validation) → In (By mode []) (validate_detached_tree key value blocks generation mode)
unfolding validate_detached_tree
detached_answers key value blocks generation mode = listed (detached_tree_demands key value blocks generation mode) (search (good, owner_answers, tree_answers))

orphan_answers : (key value : List ℕ) (mode : Validation) → In (By mode []) (validate_orphan_marker key value mode)
unfolding validate_orphan_marker
orphan_answers key value mode = listed (orphan_marker_demands key value mode) (search (good, owner_answers))

kind_answers : (key value : List ℕ) (blocks generation : ℕ) (mode : Validation) → In (By mode []) (cleanup_record key value blocks generation mode)
unfolding cleanup_record
kind_answers key value blocks generation mode =
    either (eqb (cleanup_kind key) 1) _ _ (retirement_answers key value blocks generation mode)
    (either (eqb (cleanup_kind key) 2) _ _ (detached_answers key value blocks generation mode)
    (either (eqb (cleanup_kind key) 3) _ _ (orphan_answers key value mode) (refused_in _ (violated mode reason.unknown_cleanup_record_kind refl))))

cleanup_answers : (key value : List ℕ) (blocks generation : ℕ) (mode : Validation) → In (By mode []) (validate_cleanup_key_value key value blocks generation mode)
unfolding validate_cleanup_key_value
cleanup_answers key value blocks generation mode = listed (cleanup_demands key value blocks generation mode) (search (good, kind_answers))

run_key_answers : (key : List ℕ) (blocks : ℕ) (mode : Validation) → In (By mode []) (validate_workspace_key key blocks mode)
unfolding validate_workspace_key
run_key_answers key blocks mode = listed (workspace_key_demands key blocks mode) (search good)

run_answers : (key value : List ℕ) (blocks : ℕ) (mode : Validation) → In (By mode []) (validate_workspace_run key value blocks mode)
unfolding validate_workspace_run
run_answers key value blocks mode = listed (workspace_run_demands key value blocks mode) (search (good, run_key_answers))

allocation_key_answers : (key : List ℕ) (blocks : ℕ) (mode : Validation) → In (By mode []) (allocation_internal_key key blocks mode)
unfolding allocation_internal_key
allocation_key_answers key blocks mode = listed (allocation_key_demands key blocks mode) (search (good, index_answers))

retirement_key_answers : (generation first blocks page_generation : ℕ) (mode : Validation) → In (By mode []) (retirement_key generation first blocks page_generation mode)
unfolding retirement_key
retirement_key_answers generation first blocks page_generation mode = listed (retirement_key_demands generation first blocks page_generation mode) (search good)

cleanup_key_answers : (key : List ℕ) (blocks generation : ℕ) (mode : Validation) → In (By mode []) (cleanup_internal_key key blocks generation mode)
unfolding cleanup_internal_key
cleanup_key_answers key blocks generation mode =
    either (eqb (cleanup_kind key) 1 && eqb (length key) 17) _ _ (retirement_key_answers (cleanup_number key) (cleanup_block key) blocks generation mode)
    (either ((eqb (cleanup_kind key) 2 || eqb (cleanup_kind key) 3) && eqb (length key) 9) _ (Err (violation_of mode reason.invalid_cleanup_internal_key)) (owner_answers (cleanup_number key) mode)
    (refused_in _ (violated mode reason.invalid_cleanup_internal_key refl)))

internal_key_answers : (kind : TreeKind) (key : List ℕ) (blocks generation : ℕ) (mode : Validation) → In (By mode []) (internal_key kind key blocks generation mode)
unfolding internal_key
internal_key_answers TreeKind.Catalog key blocks generation mode = as_check _ (key_answers key mode)
internal_key_answers TreeKind.Allocation key blocks generation mode = allocation_key_answers key blocks mode
internal_key_answers TreeKind.Cleanup key blocks generation mode = cleanup_key_answers key blocks generation mode
internal_key_answers TreeKind.Workspace key blocks generation mode = run_key_answers key blocks mode

child_answers : (kind : TreeKind) (key value : List ℕ) (blocks generation : ℕ) (mode : Validation) → In (By mode []) (validate_internal_record kind key value blocks generation mode)
unfolding validate_internal_record
child_answers kind key value blocks generation mode = valued (child_ref value) (internal_demands kind key value blocks generation mode) (search (good, internal_key_answers, page_ref_answers))

-- a child's block is answered where the child is
block_told : (mode : Validation) (c : Result TreeRef Error) → In (By mode []) c → In (By mode []) (child_block c)
block_told mode (Ok r) h = by_passed
block_told mode (Err e) h = record { told = h.told }

uncounted_answers : (key value : List ℕ) (blocks : ℕ) (mode : Validation) → In (By mode (6 ∷ [])) (uncounted_record key value blocks mode)
unfolding uncounted_record
uncounted_answers key value blocks mode =
    either (eqb (key_kind key) 1) _ _ (inode_answers value blocks mode)
    (either (eqb (key_kind key) 2) _ _ (more_in (entry_answers value mode))
    (either (eqb (key_kind key) 4) _ _ (more_in (group_answers key value mode)) (refused_in _ (violated mode reason.unknown_catalog_record_kind refl))))

catalog_answers : (key value : List ℕ) (blocks : ℕ) (mode : Validation) → In (By mode (6 ∷ [])) (catalog_record key value blocks mode)
catalog_answers key value blocks mode = either (eqb (key_kind key) 3) _ _ (more_in (as_check _ (extent_answers key value blocks mode))) (uncounted_answers key value blocks mode)

leaf_answers : (kind : TreeKind) (key value : List ℕ) (blocks generation : ℕ) (mode : Validation) → In (By mode (6 ∷ [])) (validate_leaf_record kind key value blocks generation mode)
unfolding validate_leaf_record
leaf_answers kind key value blocks generation mode = valued (leaf_blocks kind key value) (leaf_demands kind key value blocks generation mode) (go kind)
  where
    go : (k : TreeKind) → Every (Refuses (By mode (6 ∷ []))) (leaf_demands k key value blocks generation mode)
    go TreeKind.Catalog = (passed_more _ (key_answers key mode), (passed_on _ (catalog_answers key value blocks mode), tt))
    go TreeKind.Allocation = (passed_more _ (allocation_answers key value blocks mode), tt)
    go TreeKind.Cleanup = (passed_more _ (cleanup_answers key value blocks generation mode), tt)
    go TreeKind.Workspace = (passed_more _ (run_answers key value blocks mode), tt)

leaf_blocks_answers : (kind : TreeKind) (key value : List ℕ) (blocks generation : ℕ) → In (These (0 ∷ 2 ∷ 6 ∷ [])) (leaf_record_blocks kind key value blocks generation)
unfolding leaf_record_blocks
leaf_blocks_answers kind key value blocks generation = numbered _ (wider (These (0 ∷ 2 ∷ 6 ∷ [])) (leaf_answers kind key value blocks generation Input) refl) (record_size_demands key value) (search good)

-- ---- the walk
form_answers : (rest : List ℕ) (left : ℕ) (previous : List ℕ) (mode : Validation) → In (By mode (3 ∷ 6 ∷ [])) (form_check rest left previous mode)
unfolding form_check
form_answers rest left previous mode = listed (form_demands rest left previous mode) (search good)

join_answers : (leaf : Bool) (total : ℕ) (seen : List ℕ) (n : ℕ) (mode : Validation) → In (By mode []) (join_check leaf total seen n mode)
unfolding join_check
join_answers true total seen n mode = listed (join_demands true total seen n mode) (search good)
join_answers false total seen n mode = listed (join_demands false total seen n mode) (search good)

module _ (leaf : Bool) (mode : Validation) (own : Own) (owned : (key value : List ℕ) → In (By mode (6 ∷ [])) (own key value)) where
  walk_answers : (n : ℕ) (rest : List ℕ) (left : ℕ) (previous : List ℕ) (total : ℕ) (seen : List ℕ) → In (By mode (3 ∷ 6 ∷ [])) (walk leaf mode own n rest left previous total seen)
  unfolding walk
  walk_answers zero rest left previous total seen = valued total (_ ∷ []) (always _ (violated mode reason.payload_has_unconsumed_bytes refl), tt)
  walk_answers (suc n) rest left previous total seen =
      numbered _ (walk_answers n _ _ _ _ _) (record_demands leaf mode own rest left previous total seen)
      (passed_on _ (form_answers rest left previous mode), (passed_target _ (owned (key_of rest) (value_of rest)), (passed_more _ (join_answers leaf total seen (number_of (own_answer own rest)) mode), tt)))

own_answers : (b : Bool) (c : RecordValidation) (key value : List ℕ) → In (By c.mode (6 ∷ [])) (cond b (leaf_rules c) (child_rules c) key value)
own_answers true c key value = leaf_answers c.kind key value c.blocks c.page_generation c.mode
own_answers false c key value = more_in (block_told c.mode _ (child_answers c.kind key value c.blocks c.page_generation c.mode))

records_answers : (rest : List ℕ) (payload_length count : ℕ) (c : RecordValidation) → In (By c.mode (3 ∷ 6 ∷ [])) (validate_records rest payload_length count c)
unfolding validate_records records
records_answers rest payload_length count c =
    numbered _ (walk_answers (is_leaf c) c.mode (own_rules c) (own_answers (is_leaf c) c) count rest payload_length [] 0 []) (size_demands rest payload_length count c.mode) (search good)

-- ---- section 4
caller_answers : (reference : TreeRef) (uuid : List ℕ) (kind : TreeKind) (parent_generation : ℕ) (expected_level : Option ℕ) (blocks : ℕ) (page : List ℕ) → In (These page_classes) (check_caller reference uuid kind parent_generation expected_level blocks page)
unfolding check_caller
caller_answers reference uuid kind parent_generation expected_level blocks page = listed_these refl (caller_demands reference uuid kind parent_generation expected_level blocks page) (search (good, blocks_answers, page_ref_answers, uuid_answers))

format_answers : (page : List ℕ) → In (These page_classes) (check_format page)
unfolding check_format
format_answers page = listed_these refl (format_demands page) (search good)

page_kind_answers : (kind : TreeKind) (expected_level : Option ℕ) (page : List ℕ) → In (These page_classes) (check_kind kind expected_level page)
unfolding check_kind
page_kind_answers kind expected_level page = listed_these refl (kind_demands kind expected_level page) (search good)

identity_answers : (reference : TreeRef) (uuid : List ℕ) (kind : TreeKind) (parent_generation blocks : ℕ) (page : List ℕ) → In (These page_classes) (check_identity reference uuid kind parent_generation blocks page)
unfolding check_identity
identity_answers reference uuid kind parent_generation blocks page = listed_these refl (identity_demands reference uuid kind parent_generation blocks page) (search good)

header_answers : (reference : TreeRef) (uuid : List ℕ) (kind : TreeKind) (parent_generation : ℕ) (expected_level : Option ℕ) (blocks : ℕ) (page : List ℕ) → In (These page_classes) (validate_page_header reference uuid kind parent_generation expected_level blocks page)
unfolding validate_page_header
header_answers reference uuid kind parent_generation expected_level blocks page =
    listed_these refl (header_demands reference uuid kind parent_generation expected_level blocks page) (search (good, caller_answers, format_answers, page_kind_answers, identity_answers))

content_answers : (kind : TreeKind) (blocks : ℕ) (page : List ℕ) → In (By Disk []) (check_content kind blocks page)
unfolding check_content validate_page_records
content_answers kind blocks page = listed (content_demands kind blocks page) (passed_wider _ (records_answers _ _ _ _) refl, (search good))

page_answers : (reference : TreeRef) (uuid : List ℕ) (kind : TreeKind) (parent_generation : ℕ) (expected_level : Option ℕ) (blocks : ℕ) (page : List ℕ) → In (These page_classes) (decode_page reference uuid kind parent_generation expected_level blocks page)
unfolding decode_page
page_answers reference uuid kind parent_generation expected_level blocks page =
    valued_these refl (accepted_page page) (page_demands reference uuid kind parent_generation expected_level blocks page) (search (good, header_answers, content_answers))

-- where the caller's part passes, only what is stored is refused
abbrev pub stored_classes : List ℕ
stored_classes = 0 ∷ 3 ∷ 4 ∷ []

format_stored : (page : List ℕ) → In (These stored_classes) (check_format page)
unfolding check_format
format_stored page = listed_these refl (format_demands page) (search good)

kind_stored : (kind : TreeKind) (expected_level : Option ℕ) (page : List ℕ) → In (These stored_classes) (check_kind kind expected_level page)
unfolding check_kind
kind_stored kind expected_level page = listed_these refl (kind_demands kind expected_level page) (search good)

identity_stored : (reference : TreeRef) (uuid : List ℕ) (kind : TreeKind) (parent_generation blocks : ℕ) (page : List ℕ) → In (These stored_classes) (check_identity reference uuid kind parent_generation blocks page)
unfolding check_identity
identity_stored reference uuid kind parent_generation blocks page = listed_these refl (identity_demands reference uuid kind parent_generation blocks page) (search good)

module _ (reference : TreeRef) (uuid : List ℕ) (kind : TreeKind) (parent_generation : ℕ) (expected_level : Option ℕ) (blocks : ℕ) (page : List ℕ) (passed : check_caller reference uuid kind parent_generation expected_level blocks page ≡ Ok tt) where
  caller_stored : In (These stored_classes) (check_caller reference uuid kind parent_generation expected_level blocks page)
  caller_stored = record { told = rw passed refl }

  header_stored : In (These stored_classes) (validate_page_header reference uuid kind parent_generation expected_level blocks page)
  unfolding validate_page_header
  header_stored =
      listed_these refl (header_demands reference uuid kind parent_generation expected_level blocks page)
      (passed_on _ caller_stored, (passed_on _ (format_stored page), (passed_on _ (kind_stored kind expected_level page), (passed_on _ (identity_stored reference uuid kind parent_generation blocks page), tt))))

  pub page_stored : AnswersIn stored_classes (decode_page reference uuid kind parent_generation expected_level blocks page)
  unfolding decode_page
  page_stored =
      to
      (valued_these refl (accepted_page page) (page_demands reference uuid kind parent_generation expected_level blocks page)
      (passed_on _ header_stored, (passed_disk _ (content_answers kind blocks page) refl, tt)))

verified_answers : (reference : TreeRef) (uuid : List ℕ) (kind : TreeKind) (parent_generation : ℕ) (expected_level : Option ℕ) (page : List ℕ) → In (These (0 ∷ 3 ∷ [])) (verified_page_view reference uuid kind parent_generation expected_level page)
unfolding verified_page_view
verified_answers reference uuid kind parent_generation expected_level page = valued_these refl (accepted_page page) (verified_demands reference uuid kind parent_generation expected_level page) (search good)

draft_answers : (page : List ℕ) → In (These (0 ∷ 3 ∷ [])) (draft_page_view page)
unfolding draft_page_view
draft_answers page = valued_these refl (draft_numbers page) (draft_demands page) (search good)

-- ---- section 3
label_answers : (text : List ℕ) → In (These (0 ∷ 2 ∷ [])) (label_new text)
unfolding label_new
label_answers text = valued_these refl _ (label_demands text) (search good)

place_answers : (s : List ℕ) (slot blocks : ℕ) → In (These root_classes) (check_place s slot blocks)
unfolding check_place
place_answers s slot blocks = listed_these refl (place_demands s slot blocks) (search (good, slot_answers))

envelope_answers : (s : List ℕ) → In (These root_classes) (check_envelope s)
unfolding check_envelope
envelope_answers s = listed_these refl (envelope_demands s) (search good)

text_answers : (text : List ℕ) → In (These root_classes) (check_text text)
unfolding check_text
text_answers text = listed_these refl (text_demands text) (search good)

label_field_answers : (s : List ℕ) → In (These root_classes) (check_label s)
unfolding check_label
label_field_answers s = listed_these refl (label_field_demands s) (search (good, either, these_passed, text_answers))

root_identity_answers : (s : List ℕ) (slot blocks : ℕ) → In (These root_classes) (root.check_identity s slot blocks)
unfolding root.check_identity
root_identity_answers s slot blocks = listed_these refl (root.identity_demands s slot blocks) (search good)

block_answers : (s : List ℕ) (slot blocks : ℕ) → In (These root_classes) (check_block s slot blocks)
unfolding check_block
block_answers s slot blocks = listed_these refl (block_demands s slot blocks) (search (good, place_answers, envelope_answers, label_field_answers, root_identity_answers))

general_answers : (r : Root) (slot blocks : ℕ) (mode : Validation) → In (By mode []) (check_general r slot blocks mode)
unfolding check_general
general_answers r slot blocks mode = listed (general_demands r slot blocks mode) (search (good, blocks_answers, slot_answers, uuid_answers))

refs_answers : (r : Root) (blocks : ℕ) (mode : Validation) → In (By mode []) (check_refs r blocks mode)
unfolding check_refs
refs_answers r blocks mode = listed (refs_demands r blocks mode) (search (good, tree_answers))

bank_answers : (r : Root) (blocks : ℕ) (mode : Validation) → In (By mode []) (check_workspace r blocks mode)
unfolding check_workspace
bank_answers r blocks mode = listed (workspace_demands r blocks mode) (passed_on _ (page_ref_answers r.workspace TreeKind.Workspace blocks mode), (always _ (violated mode reason.invalid_workspace_root refl), tt))

trees_answers : (r : Root) (mode : Validation) → In (By mode []) (check_trees r mode)
unfolding check_trees
trees_answers r mode = listed (trees_demands r mode) (search good)

numbers_answers : (r : Root) (blocks : ℕ) (mode : Validation) → In (By mode []) (check_numbers r blocks mode)
unfolding check_numbers
numbers_answers r blocks mode = listed (numbers_demands r blocks mode) (search good)

root_fields_answers : (r : Root) (slot blocks : ℕ) (mode : Validation) → In (By mode []) (validate_root_fields r slot blocks mode)
unfolding validate_root_fields
root_fields_answers r slot blocks mode = listed (field_demands r slot blocks mode) (search (good, general_answers, refs_answers, bank_answers, trees_answers, numbers_answers))

root_answers : (s : List ℕ) (slot blocks : ℕ) → In (These root_classes) (root_decode s slot blocks)
unfolding root_decode
root_answers s slot blocks =
    valued_these refl (root_of s) (root_demands s slot blocks)
    (passed_on _ (block_answers s slot blocks), (passed_wider _ (root_fields_answers (root_of s) slot blocks Disk) refl, tt))

pair_answers : (a b : Root) → In (By Disk []) (select_pair a b)
unfolding select_pair
pair_answers a b = valued _ (pair_demands a b) (search good)

chosen_answers : (a b : Option Root) → In (By Disk []) (select_root a b)
chosen_answers None None = record { told = refl }
chosen_answers (Some a) None = by_passed
chosen_answers None (Some b) = by_passed
chosen_answers (Some a) (Some b) = pair_answers a b

-- with class 3 gone, the class is one of the others
but_three : (k : ℕ) → eqb k 3 ≡ false → is_one_of k every_class ≡ true → is_one_of k (0 ∷ 1 ∷ 2 ∷ 4 ∷ 6 ∷ []) ≡ true
but_three k n e = go (eqb 0 k) (eqb 1 k) (eqb 2 k) (eqb 3 k) (is_one_of k (4 ∷ 6 ∷ [])) (ne_eqb 3 k (λ p. true≢false (sym (eq-eqb k 3 (sym p)) ∙ n))) e
  where
    go : (a b c d x : Bool) → d ≡ false → (a || (b || (c || (d || x)))) ≡ true → (a || (b || (c || x))) ≡ true
    go true b c d x p f = refl
    go false true c d x p f = refl
    go false false true d x p f = refl
    go false false false true x p f = cc
    go false false false false x p f = f

supported_answers : (d : Result Root Error) → In (These every_class) d → In (These (0 ∷ 1 ∷ 2 ∷ 4 ∷ 6 ∷ [])) (supported_root d)
supported_answers (Ok r) h = these_passed refl
supported_answers (Err e) h = go (eqb (class_of e) 3) refl
  where
    go : (b : Bool) → eqb (class_of e) 3 ≡ b → In {A = Option Root} (These (0 ∷ 1 ∷ 2 ∷ 4 ∷ 6 ∷ [])) (cond b (Ok None) (Err e))
    go true p = these_passed refl
    go false p = record { told = and_both _ _ (but_three (class_of e) p (and_left _ _ h.told)) (and_right (is_one_of (class_of e) every_class) _ h.told) }

choice_answers : (cs : List ℕ) → is_one_of 0 cs ≡ true → is_one_of 3 cs ≡ true → (a b : Result (Option Root) Error) → In (These cs) a → In (These cs) b → In (These cs) (choose_root a b)
choice_answers cs p q (Err e) b h k = record { told = h.told }
choice_answers cs p q (Ok a) (Err e) h k = record { told = k.told }
choice_answers cs p q (Ok a) (Ok b) h k = wider (These cs) (chosen_answers a b) (rw (p, q) refl)

-- what is passed on of a class of these is one of these
pub supported_kept : (cs : List ℕ) → is_one_of 0 cs ≡ true → (d : Result Root Error) → AnswersIn cs d → AnswersIn cs (supported_root d)
supported_kept cs p (Ok r) h = record { told = rw p refl }
supported_kept cs p (Err e) h = go (eqb (class_of e) 3)
  where
    go : (b : Bool) → AnswersIn {A = Option Root} cs (cond b (Ok None) (Err e))
    go true = record { told = rw p refl }
    go false = record { told = h.told }

of : {A : Type 0} {cs : List ℕ} {c : Result A Error} → AnswersIn cs c → In (These cs) c
of h = record { told = h.told }

pub choice_kept : (cs : List ℕ) → is_one_of 0 cs ≡ true → is_one_of 3 cs ≡ true → (a b : Result (Option Root) Error) → AnswersIn cs a → AnswersIn cs b → AnswersIn cs (choose_root a b)
choice_kept cs p q a b h k = to (choice_answers cs p q a b (of h) (of k))

-- ---- what is refused with a reason of its own
read_alone : (s : List ℕ) (offset width reason : ℕ) → RefusesAlone 3 reason (read_of s offset width reason)
read_alone s offset width reason = go (within s offset width)
  where
    go : (b : Bool) → RefusesAlone 3 reason (cond b (Ok (field s offset width)) (Err (Corrupt reason)))
    go true = record { told = inl (refl, refl) }
    go false = record { told = inr (refl, refl) }

unit_alone : (uuid : List ℕ) (object unit : ℕ) (valid : List ℕ) → RefusesAlone 2 0 (data_unit_crc uuid object unit valid)
unfolding data_unit_crc
unit_alone uuid object unit valid =
    ends (λ (d : Demand). RefusesAlone {A = ℕ} 2 0 (Err d.refusal)) (RefusesAlone 2 0) (Ok (crc32c (data_unit uuid object unit valid))) (λ d g p. g) (record { told = inl (refl, refl) }) (data_unit_demands valid) (record { told = inr (refl, refl) }, tt)

begun_alone : (uuid : List ℕ) (object unit valid : ℕ) → RefusesAlone 2 0 (unit_new uuid object unit valid)
unfolding unit_new
begun_alone uuid object unit valid =
    ends (λ (d : Demand). RefusesAlone {A = DataUnitCrc} 2 0 (Err d.refusal)) (RefusesAlone 2 0) _ (λ d g p. g) (record { told = inl (refl, refl) }) (length_demands valid) (record { told = inr (refl, refl) }, tt)

finished_alone : (sum : DataUnitCrc) → RefusesAlone 2 0 (unit_finish sum)
unfolding unit_finish
finished_alone sum =
    ends (λ (d : Demand). RefusesAlone {A = ℕ} 2 0 (Err d.refusal)) (RefusesAlone 2 0) _ (λ d g p. g) (record { told = inl (refl, refl) }) (seen_demands sum) (record { told = inr (refl, refl) }, tt)

pub demand_1 : Demand1
demand_1 = record {
  read = read_alone;
  unit = unit_alone;
  begun = begun_alone;
  finished = finished_alone;
  blocks = λ b m. to (blocks_answers b m);
  tree_ref = λ r b m. to (tree_answers r b m);
  page_ref = λ r k b m. to (page_ref_answers r k b m);
  root_slot = λ s b m. to (slot_answers s b m);
  uuid = λ u m. to (uuid_answers u m);
  group_count = λ b. to (count_answers b);
  label = λ t. to (label_answers t);
  root = λ s slot b. to (root_answers s slot b);
  root_fields_of = λ r slot b m. to (root_fields_answers r slot b m);
  chosen = λ a b. to (chosen_answers a b);
  supported = λ d h. to (supported_answers d (of h));
  choice = λ a b h k. to (choice_answers every_class refl refl a b (of h) (of k));
  header = λ r u k g l b p. to (header_answers r u k g l b p);
  page = λ r u k g l b p. to (page_answers r u k g l b p);
  verified = λ r u k g l p. to (verified_answers r u k g l p);
  draft = λ p. to (draft_answers p);
  owner = λ o m. to (owner_answers o m);
  catalog_key = λ k m. to (key_answers k m);
  timestamp = λ s n m. to (range_answers s n m);
  target = λ t m. to (symlink_answers t m);
  inode = λ v b m. to (inode_answers v b m);
  entry = λ v m. to (entry_answers v m);
  extent = λ k v b m. to (extent_answers k v b m);
  allocation_group = λ k v b m. to (allocation_answers k v b m);
  cleanup = λ k v b g m. to (cleanup_answers k v b g m);
  workspace_key = λ k b m. to (run_key_answers k b m);
  workspace_run = λ k v b m. to (run_answers k v b m);
  internal_record = λ t k v b g m. to (child_answers t k v b g m);
  leaf_record = λ t k v b g m. to (leaf_answers t k v b g m);
  leaf_blocks_of = λ t k v b g. to (leaf_blocks_answers t k v b g);
  walk = λ r l n c. to (records_answers r l n c);
  group = λ k v m. to (group_answers k v m);
  slot = λ g s. to (slot_told g s);
}
