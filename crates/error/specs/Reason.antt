-- The reasons of refusals (01, "Return classes"): the place of each string in the list of docs/REASONS.md, which tools/reasons holds this file to.
use Rattle.std.specs.Prelude.{ℕ}

-- invalid volume label
abbrev pub invalid_volume_label : ℕ
invalid_volume_label = 1

-- timestamp seconds out of range
abbrev pub timestamp_seconds_out_of_range : ℕ
timestamp_seconds_out_of_range = 2

-- timestamp nanoseconds out of range
abbrev pub timestamp_nanoseconds_out_of_range : ℕ
timestamp_nanoseconds_out_of_range = 3

-- checksum group slot
abbrev pub checksum_group_slot : ℕ
checksum_group_slot = 4

-- device has no usable block range
abbrev pub device_has_no_usable_block_range : ℕ
device_has_no_usable_block_range = 5

-- invalid tree reference
abbrev pub invalid_tree_reference : ℕ
invalid_tree_reference = 6

-- invalid workspace page reference
abbrev pub invalid_workspace_page_reference : ℕ
invalid_workspace_page_reference = 7

-- workspace key length
abbrev pub workspace_key_length : ℕ
workspace_key_length = 8

-- invalid workspace block
abbrev pub invalid_workspace_block : ℕ
invalid_workspace_block = 9

-- workspace run length
abbrev pub workspace_run_length : ℕ
workspace_run_length = 10

-- invalid workspace run length
abbrev pub invalid_workspace_run_length : ℕ
invalid_workspace_run_length = 11

-- workspace run leaves the volume
abbrev pub workspace_run_leaves_the_volume : ℕ
workspace_run_leaves_the_volume = 12

-- zero volume UUID
abbrev pub zero_volume_uuid : ℕ
zero_volume_uuid = 13

-- invalid root slot
abbrev pub invalid_root_slot : ℕ
invalid_root_slot = 14

-- invalid root generation or geometry
abbrev pub invalid_root_generation_or_geometry : ℕ
invalid_root_generation_or_geometry = 15

-- workspace scan cursor exceeds geometry
abbrev pub workspace_scan_cursor_exceeds_geometry : ℕ
workspace_scan_cursor_exceeds_geometry = 16

-- invalid workspace root
abbrev pub invalid_workspace_root : ℕ
invalid_workspace_root = 17

-- root tree references share a block
abbrev pub root_tree_references_share_a_block : ℕ
root_tree_references_share_a_block = 18

-- root tree generation is newer than root
abbrev pub root_tree_generation_is_newer_than_root : ℕ
root_tree_generation_is_newer_than_root = 19

-- invalid next object ID
abbrev pub invalid_next_object_id : ℕ
invalid_next_object_id = 20

-- invalid next cleanup-job ID
abbrev pub invalid_next_cleanup_job_id : ℕ
invalid_next_cleanup_job_id = 21

-- free block count exceeds geometry
abbrev pub free_block_count_exceeds_geometry : ℕ
free_block_count_exceeds_geometry = 22

-- root page length
abbrev pub root_page_length : ℕ
root_page_length = 23

-- root checksum
abbrev pub root_checksum : ℕ
root_checksum = 24

-- root magic
abbrev pub root_magic : ℕ
root_magic = 25

-- root revision
abbrev pub root_revision : ℕ
root_revision = 26

-- root record bytes
abbrev pub root_record_bytes : ℕ
root_record_bytes = 27

-- root allocation bytes
abbrev pub root_allocation_bytes : ℕ
root_allocation_bytes = 28

-- root checksum-unit bytes
abbrev pub root_checksum_unit_bytes : ℕ
root_checksum_unit_bytes = 29

-- root envelope
abbrev pub root_envelope : ℕ
root_envelope = 30

-- root label length
abbrev pub root_label_length : ℕ
root_label_length = 31

-- root label padding
abbrev pub root_label_padding : ℕ
root_label_padding = 32

-- root label UTF-8
abbrev pub root_label_utf8 : ℕ
root_label_utf8 = 33

-- invalid root label
abbrev pub invalid_root_label : ℕ
invalid_root_label = 34

-- root UUID
abbrev pub root_uuid : ℕ
root_uuid = 35

-- root self block
abbrev pub root_self_block : ℕ
root_self_block = 36

-- root generation
abbrev pub root_generation : ℕ
root_generation = 37

-- root device blocks
abbrev pub root_device_blocks : ℕ
root_device_blocks = 38

-- root catalog reference
abbrev pub root_catalog_reference : ℕ
root_catalog_reference = 39

-- root allocation reference
abbrev pub root_allocation_reference : ℕ
root_allocation_reference = 40

-- root cleanup reference
abbrev pub root_cleanup_reference : ℕ
root_cleanup_reference = 41

-- root next object
abbrev pub root_next_object : ℕ
root_next_object = 42

-- root free blocks
abbrev pub root_free_blocks : ℕ
root_free_blocks = 43

-- root feature bits
abbrev pub root_feature_bits : ℕ
root_feature_bits = 44

-- root filename profile
abbrev pub root_filename_profile : ℕ
root_filename_profile = 45

-- root state flags
abbrev pub root_state_flags : ℕ
root_state_flags = 46

-- root maintenance reserve
abbrev pub root_maintenance_reserve : ℕ
root_maintenance_reserve = 47

-- root next job
abbrev pub root_next_job : ℕ
root_next_job = 48

-- root identity or geometry
abbrev pub root_identity_or_geometry : ℕ
root_identity_or_geometry = 49

-- root workspace reference
abbrev pub root_workspace_reference : ℕ
root_workspace_reference = 50

-- workspace scan cursor
abbrev pub workspace_scan_cursor : ℕ
workspace_scan_cursor = 51

-- invalid object ID
abbrev pub invalid_object_id : ℕ
invalid_object_id = 52

-- catalog key is too short
abbrev pub catalog_key_is_too_short : ℕ
catalog_key_is_too_short = 53

-- catalog owner ID
abbrev pub catalog_owner_id : ℕ
catalog_owner_id = 54

-- invalid catalog key
abbrev pub invalid_catalog_key : ℕ
invalid_catalog_key = 55

-- timestamp seconds
abbrev pub timestamp_seconds : ℕ
timestamp_seconds = 56

-- timestamp nanoseconds
abbrev pub timestamp_nanoseconds : ℕ
timestamp_nanoseconds = 57

-- timestamp reserved bytes
abbrev pub timestamp_reserved_bytes : ℕ
timestamp_reserved_bytes = 58

-- symlink target is too long
abbrev pub symlink_target_is_too_long : ℕ
symlink_target_is_too_long = 59

-- invalid symlink target
abbrev pub invalid_symlink_target : ℕ
invalid_symlink_target = 60

-- invalid inode length
abbrev pub invalid_inode_length : ℕ
invalid_inode_length = 61

-- invalid inode type
abbrev pub invalid_inode_type : ℕ
invalid_inode_type = 62

-- invalid inode flags or reserved bytes
abbrev pub invalid_inode_flags_or_reserved_bytes : ℕ
invalid_inode_flags_or_reserved_bytes = 63

-- inode parent
abbrev pub inode_parent : ℕ
inode_parent = 64

-- inode size
abbrev pub inode_size : ℕ
inode_size = 65

-- inode allocation
abbrev pub inode_allocation : ℕ
inode_allocation = 66

-- inode child count
abbrev pub inode_child_count : ℕ
inode_child_count = 67

-- inode range
abbrev pub inode_range : ℕ
inode_range = 68

-- inode type-specific fields
abbrev pub inode_type_specific_fields : ℕ
inode_type_specific_fields = 69

-- directory entry is too short
abbrev pub directory_entry_is_too_short : ℕ
directory_entry_is_too_short = 70

-- directory target
abbrev pub directory_target : ℕ
directory_target = 71

-- invalid directory entry type
abbrev pub invalid_directory_entry_type : ℕ
invalid_directory_entry_type = 72

-- directory entry reserved byte
abbrev pub directory_entry_reserved_byte : ℕ
directory_entry_reserved_byte = 73

-- directory entry name length
abbrev pub directory_entry_name_length : ℕ
directory_entry_name_length = 74

-- invalid directory entry name
abbrev pub invalid_directory_entry_name : ℕ
invalid_directory_entry_name = 75

-- extent logical start
abbrev pub extent_logical_start : ℕ
extent_logical_start = 76

-- invalid extent length
abbrev pub invalid_extent_length : ℕ
invalid_extent_length = 77

-- extent physical start
abbrev pub extent_physical_start : ℕ
extent_physical_start = 78

-- extent block count
abbrev pub extent_block_count : ℕ
extent_block_count = 79

-- extent reserved bytes
abbrev pub extent_reserved_bytes : ℕ
extent_reserved_bytes = 80

-- extent physical range
abbrev pub extent_physical_range : ℕ
extent_physical_range = 81

-- extent logical range
abbrev pub extent_logical_range : ℕ
extent_logical_range = 82

-- invalid extent range
abbrev pub invalid_extent_range : ℕ
invalid_extent_range = 83

-- checksum group index
abbrev pub checksum_group_index : ℕ
checksum_group_index = 84

-- invalid checksum group
abbrev pub invalid_checksum_group : ℕ
invalid_checksum_group = 85

-- checksum group is not compact
abbrev pub checksum_group_is_not_compact : ℕ
checksum_group_is_not_compact = 86

-- hole checksum is nonzero
abbrev pub hole_checksum_is_nonzero : ℕ
hole_checksum_is_nonzero = 87

-- allocation group range
abbrev pub allocation_group_range : ℕ
allocation_group_range = 88

-- invalid allocation group
abbrev pub invalid_allocation_group : ℕ
invalid_allocation_group = 89

-- allocation group index
abbrev pub allocation_group_index : ℕ
allocation_group_index = 90

-- allocation group index out of range
abbrev pub allocation_group_index_out_of_range : ℕ
allocation_group_index_out_of_range = 91

-- reserved allocation bit is free
abbrev pub reserved_allocation_bit_is_free : ℕ
reserved_allocation_bit_is_free = 92

-- invalid cleanup key length
abbrev pub invalid_cleanup_key_length : ℕ
invalid_cleanup_key_length = 93

-- invalid retirement record
abbrev pub invalid_retirement_record : ℕ
invalid_retirement_record = 94

-- retirement generation
abbrev pub retirement_generation : ℕ
retirement_generation = 95

-- retirement first block
abbrev pub retirement_first_block : ℕ
retirement_first_block = 96

-- retirement count
abbrev pub retirement_count : ℕ
retirement_count = 97

-- retirement reserved bytes
abbrev pub retirement_reserved_bytes : ℕ
retirement_reserved_bytes = 98

-- retirement range
abbrev pub retirement_range : ℕ
retirement_range = 99

-- invalid retirement range
abbrev pub invalid_retirement_range : ℕ
invalid_retirement_range = 100

-- invalid detached-tree job
abbrev pub invalid_detached_tree_job : ℕ
invalid_detached_tree_job = 101

-- cleanup job ID
abbrev pub cleanup_job_id : ℕ
cleanup_job_id = 102

-- detached-tree owner
abbrev pub detached_tree_owner : ℕ
detached_tree_owner = 103

-- invalid detached-tree kind range
abbrev pub invalid_detached_tree_kind_range : ℕ
invalid_detached_tree_kind_range = 104

-- detached-tree reference
abbrev pub detached_tree_reference : ℕ
detached_tree_reference = 105

-- detached-tree reference is newer
abbrev pub detached_tree_reference_is_newer : ℕ
detached_tree_reference_is_newer = 106

-- invalid orphan marker
abbrev pub invalid_orphan_marker : ℕ
invalid_orphan_marker = 107

-- orphan object ID
abbrev pub orphan_object_id : ℕ
orphan_object_id = 108

-- unknown cleanup record kind
abbrev pub unknown_cleanup_record_kind : ℕ
unknown_cleanup_record_kind = 109

-- invalid record key length
abbrev pub invalid_record_key_length : ℕ
invalid_record_key_length = 110

-- record is too large
abbrev pub record_is_too_large : ℕ
record_is_too_large = 111

-- unknown catalog record kind
abbrev pub unknown_catalog_record_kind : ℕ
unknown_catalog_record_kind = 112

-- invalid allocation internal key
abbrev pub invalid_allocation_internal_key : ℕ
invalid_allocation_internal_key = 113

-- allocation internal key
abbrev pub allocation_internal_key : ℕ
allocation_internal_key = 114

-- allocation internal key range
abbrev pub allocation_internal_key_range : ℕ
allocation_internal_key_range = 115

-- invalid cleanup internal key
abbrev pub invalid_cleanup_internal_key : ℕ
invalid_cleanup_internal_key = 116

-- cleanup internal key
abbrev pub cleanup_internal_key : ℕ
cleanup_internal_key = 117

-- invalid retirement generation
abbrev pub invalid_retirement_generation : ℕ
invalid_retirement_generation = 118

-- invalid retirement block
abbrev pub invalid_retirement_block : ℕ
invalid_retirement_block = 119

-- internal value is not a tree reference
abbrev pub internal_value_is_not_a_tree_reference : ℕ
internal_value_is_not_a_tree_reference = 120

-- internal tree reference
abbrev pub internal_tree_reference : ℕ
internal_tree_reference = 121

-- child generation is newer than parent
abbrev pub child_generation_is_newer_than_parent : ℕ
child_generation_is_newer_than_parent = 122

-- record count exceeds payload
abbrev pub record_count_exceeds_payload : ℕ
record_count_exceeds_payload = 123

-- payload range
abbrev pub payload_range : ℕ
payload_range = 124

-- record key length
abbrev pub record_key_length : ℕ
record_key_length = 125

-- record value length
abbrev pub record_value_length : ℕ
record_value_length = 126

-- record length
abbrev pub record_length : ℕ
record_length = 127

-- record range
abbrev pub record_range : ℕ
record_range = 128

-- record exceeds payload
abbrev pub record_exceeds_payload : ℕ
record_exceeds_payload = 129

-- record keys are not increasing
abbrev pub record_keys_are_not_increasing : ℕ
record_keys_are_not_increasing = 130

-- leaf data-block total overflow
abbrev pub leaf_data_block_total_overflow : ℕ
leaf_data_block_total_overflow = 131

-- internal children share a block
abbrev pub internal_children_share_a_block : ℕ
internal_children_share_a_block = 132

-- payload has unconsumed bytes
abbrev pub payload_has_unconsumed_bytes : ℕ
payload_has_unconsumed_bytes = 133

-- page length
abbrev pub page_length : ℕ
page_length = 134

-- invalid parent generation
abbrev pub invalid_parent_generation : ℕ
invalid_parent_generation = 135

-- invalid expected page level
abbrev pub invalid_expected_page_level : ℕ
invalid_expected_page_level = 136

-- page checksum
abbrev pub page_checksum : ℕ
page_checksum = 137

-- page magic
abbrev pub page_magic : ℕ
page_magic = 138

-- page revision
abbrev pub page_revision : ℕ
page_revision = 139

-- page flags
abbrev pub page_flags : ℕ
page_flags = 140

-- page kind
abbrev pub page_kind : ℕ
page_kind = 141

-- page tree kind
abbrev pub page_tree_kind : ℕ
page_tree_kind = 142

-- page tree kind mismatch
abbrev pub page_tree_kind_mismatch : ℕ
page_tree_kind_mismatch = 143

-- page level
abbrev pub page_level : ℕ
page_level = 144

-- unexpected page level
abbrev pub unexpected_page_level : ℕ
unexpected_page_level = 145

-- page reserved bytes
abbrev pub page_reserved_bytes : ℕ
page_reserved_bytes = 146

-- page self block
abbrev pub page_self_block : ℕ
page_self_block = 147

-- page generation
abbrev pub page_generation : ℕ
page_generation = 148

-- page identity or generation
abbrev pub page_identity_or_generation : ℕ
page_identity_or_generation = 149

-- page UUID
abbrev pub page_uuid : ℕ
page_uuid = 150

-- page entry count
abbrev pub page_entry_count : ℕ
page_entry_count = 151

-- page payload bytes
abbrev pub page_payload_bytes : ℕ
page_payload_bytes = 152

-- page payload length
abbrev pub page_payload_length : ℕ
page_payload_length = 153

-- page data-block total
abbrev pub page_data_block_total : ℕ
page_data_block_total = 154

-- non-catalog data-block total
abbrev pub non_catalog_data_block_total : ℕ
non_catalog_data_block_total = 155

-- leaf data-block total
abbrev pub leaf_data_block_total : ℕ
leaf_data_block_total = 156

-- page padding
abbrev pub page_padding : ℕ
page_padding = 157

-- internal page has too few children
abbrev pub internal_page_has_too_few_children : ℕ
internal_page_has_too_few_children = 158

-- draft entry count
abbrev pub draft_entry_count : ℕ
draft_entry_count = 159

-- draft payload bytes
abbrev pub draft_payload_bytes : ℕ
draft_payload_bytes = 160

-- draft length
abbrev pub draft_length : ℕ
draft_length = 161

-- draft payload length
abbrev pub draft_payload_length : ℕ
draft_payload_length = 162

-- neither current root is valid
abbrev pub neither_current_root_is_valid : ℕ
neither_current_root_is_valid = 163

-- root UUIDs conflict
abbrev pub root_uuids_conflict : ℕ
root_uuids_conflict = 164

-- same-generation roots conflict
abbrev pub same_generation_roots_conflict : ℕ
same_generation_roots_conflict = 165

-- too many page records
abbrev pub too_many_page_records : ℕ
too_many_page_records = 166

-- record length overflow
abbrev pub record_length_overflow : ℕ
record_length_overflow = 167

-- page payload overflow
abbrev pub page_payload_overflow : ℕ
page_payload_overflow = 168

-- page payload is too large
abbrev pub page_payload_is_too_large : ℕ
page_payload_is_too_large = 169

-- key length
abbrev pub key_length : ℕ
key_length = 170

-- value length
abbrev pub value_length : ℕ
value_length = 171

-- leaf data-block total exceeds geometry
abbrev pub leaf_data_block_total_exceeds_geometry : ℕ
leaf_data_block_total_exceeds_geometry = 172

-- payload length
abbrev pub payload_length : ℕ
payload_length = 173

-- invalid internal page level or aggregate
abbrev pub invalid_internal_page_level_or_aggregate : ℕ
invalid_internal_page_level_or_aggregate = 174

-- record count
abbrev pub record_count : ℕ
record_count = 175
