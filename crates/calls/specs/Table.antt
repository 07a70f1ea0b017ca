-- The calls of docs/PROBE.md whose fields are a few numbers, in the order of their numbers. n is a call's numbers, a and b its strings.
use Rattle.std.specs.Prelude.{ℕ, List, [], ◌∷◌, ◌++◌, replicate, Result}
use Rattle.error.specs.declared.Error.{Error}
use Rattle.error.specs.Answer.{Number, flag, check_words, number_words}
use Rattle.octets.specs.Bytes.{all_zero, padded_to}
use Rattle.octets.specs.Order.{order, order_words}
use Rattle.octets.specs.Reads.{read_of}
use Rattle.crc.specs.Crc.{extend, crc32c, crc32c_with_zero}
use Rattle.crc.specs.DataUnit.{data_unit_crc}
use Rattle.utf8.specs.Inside.{utf8}
use Rattle.volume.specs.Blocks.{is_bank_root, is_bank_block, is_nonreserved_block}
use Rattle.volume.specs.Groups.{reserved_group_blocks, allocation_group_count}
use Rattle.volume.specs.References.{tree_kind_of, validate_tree_ref, validate_page_ref, validate_root_slot}
use Rattle.catalog.specs.Times.{signed_number, validate_timestamp_range}
use Rattle.catalog.specs.Keys.{validate_owner_id}
use Rattle.catalog.specs.Inode.{validate_inode, validate_symlink_target}
use Rattle.catalog.specs.Entry.{validate_directory_entry}
use Rattle.catalog.specs.Extent.{validate_extent}
use Rattle.group.specs.Group.{checksum_slot, validate_checksum_group}
use Rattle.group.specs.Slots.{slot_words}
use Rattle.record.specs.Leaf.{validate_leaf_record, leaf_record_blocks}
use Rattle.record.specs.Internal.{validate_internal_record, child_words}
use Rattle.lookup.specs.Floor.{next_record}
use Rattle.walk.specs.Records.{validate_records}
use Rattle.page.specs.declared.Page.{Page}
use Rattle.page.specs.Header.{expected_of}
use Rattle.page.specs.Page.{decode_page, page_words}
use Rattle.page.specs.Unchecked.{verified_page_view, draft_page_view}
use Rattle.root.specs.Select.{choose_root}
use Rattle.root.specs.Words.{choice_words}
use Rattle.carryfs.specs.Words.{slot_root}
use Rattle.calls.specs.declared.Numbers.{Numbers}
use Rattle.calls.specs.Pieces.{pieces_asked}
use Rattle.calls.specs.Told.{at_most, mode_of, reference_to, group_fields, front_fields, step_fields, draft_fields, Row, ◌tells◌, fields_in}

-- class, reason, the word of a data unit
abbrev pub unit_fields : Numbers → List ℕ → List ℕ → List ℕ
unit_fields n uuid valid = number_words (data_unit_crc (padded_to 16 uuid) n.a n.b valid)

-- calls 1 to 5: checksum words
unfoldable pub word_rows : Numbers → List ℕ → List ℕ → List Row
word_rows n a b =
    1 tells (extend (at_most 4294967295 n.a) a ∷ [])
    ∷ 2 tells (crc32c a ∷ [])
    ∷ 3 tells (crc32c_with_zero a n.a n.b ∷ [])
    ∷ 4 tells (extend (at_most 4294967295 n.a) (replicate n.b 0) ∷ [])
    ∷ 5 tells unit_fields n a b
    ∷ []

-- calls 6 to 11: UTF-8, zeros, stored numbers, the bytewise order
unfoldable pub octet_rows : Numbers → List ℕ → List ℕ → List Row
octet_rows n a b =
    6 tells (flag (utf8 a) ∷ [])
    ∷ 7 tells (flag (all_zero a) ∷ [])
    ∷ 8 tells number_words (read_of a n.a 2 (at_most 65535 n.b))
    ∷ 9 tells number_words (read_of a n.a 4 (at_most 65535 n.b))
    ∷ 10 tells number_words (read_of a n.a 8 (at_most 65535 n.b))
    ∷ 11 tells order_words (order a b)
    ∷ []

-- calls 12 to 19: blocks, groups, references and slots
unfoldable pub block_rows : Numbers → List Row
block_rows n =
    12 tells (flag (is_bank_root n.a n.b) ∷ [])
    ∷ 13 tells (flag (is_bank_block n.a n.b) ∷ [])
    ∷ 14 tells (flag (is_nonreserved_block n.a n.b) ∷ [])
    ∷ 15 tells group_fields (reserved_group_blocks n.a n.b)
    ∷ 16 tells number_words (allocation_group_count n.a)
    ∷ 17 tells check_words (validate_tree_ref (reference_to n.a n.b) n.c (mode_of n.d))
    ∷ 18 tells check_words (validate_page_ref (reference_to n.a n.b) (tree_kind_of n.c) n.d (mode_of n.e))
    ∷ 19 tells check_words (validate_root_slot n.a n.b (mode_of n.c))
    ∷ []

-- the check of a time: seconds signed, nanoseconds
abbrev pub time_fields : Numbers → List ℕ
time_fields n = check_words (validate_timestamp_range (signed_number n.a) (at_most 4294967295 n.b) (mode_of n.c))

-- calls 20 to 23: times, owners, symbolic links, inodes
unfoldable pub inode_rows : Numbers → List ℕ → List Row
inode_rows n a =
    20 tells time_fields n
    ∷ 21 tells check_words (validate_owner_id n.a (mode_of n.b))
    ∷ 22 tells check_words (validate_symlink_target a (mode_of n.a))
    ∷ 23 tells check_words (validate_inode a n.a (mode_of n.b))
    ∷ []

-- calls 24 to 26: directory entries, extents, checksum groups
unfoldable pub entry_rows : Numbers → List ℕ → List ℕ → List Row
entry_rows n a b =
    24 tells check_words (validate_directory_entry a (mode_of n.a))
    ∷ 25 tells number_words (validate_extent a b n.a (mode_of n.b))
    ∷ 26 tells check_words (validate_checksum_group a b (mode_of n.a))
    ∷ []

-- calls 27 to 31: records of a tree, a group's slots and its stored form
unfoldable pub record_rows : Numbers → List ℕ → List ℕ → List Row
record_rows n a b =
    27 tells number_words (validate_leaf_record (tree_kind_of n.a) a b n.b n.c (mode_of n.d))
    ∷ 28 tells child_words (validate_internal_record (tree_kind_of n.a) a b n.b n.c (mode_of n.d))
    ∷ 29 tells number_words (leaf_record_blocks (tree_kind_of n.a) a b n.b n.c)
    ∷ 30 tells slot_words (checksum_slot a n.a)
    ∷ 31 tells front_fields a
    ∷ []

-- call 35: the choice between two slots' blocks
unfoldable pub root_rows : Numbers → List ℕ → List ℕ → List Row
root_rows n a b =
    35 tells choice_words (choose_root (slot_root a n.a n.b) (slot_root b n.c n.d))
    ∷ []

-- the page that a call asks for
unfoldable pub page_asked : Numbers → List ℕ → List ℕ → Result Page Error
page_asked n uuid page =
    decode_page (reference_to n.a n.b) (padded_to 16 uuid) (tree_kind_of n.c) n.d (expected_of (at_most 255 n.e)) n.f page

-- the same by its identity alone
unfoldable pub view_asked : Numbers → List ℕ → List ℕ → Result Page Error
view_asked n uuid page =
    verified_page_view (reference_to n.a n.b) (padded_to 16 uuid) (tree_kind_of n.c) n.d (expected_of (at_most 255 n.e)) page

-- the walk over the records that a call asks for
unfoldable pub walked_records : Numbers → List ℕ → Number
walked_records n rest =
    validate_records rest n.f n.g (record {
      kind = tree_kind_of n.a;
      page_kind = at_most 255 n.b;
      page_generation = n.c;
      blocks = n.d;
      mode = mode_of n.e;
    })

-- calls 36 to 38, 40 and 42: pages, the next record, the walk over the records
unfoldable pub page_rows : Numbers → List ℕ → List ℕ → List Row
page_rows n a b =
    36 tells page_words (page_asked n a b)
    ∷ 37 tells page_words (view_asked n a b)
    ∷ 38 tells draft_fields (draft_page_view a)
    ∷ 40 tells step_fields (next_record a n.a)
    ∷ 42 tells number_words (walked_records n a)
    ∷ []

-- call 44: a data unit in pieces
unfoldable pub piece_rows : Numbers → List ℕ → List ℕ → List Row
piece_rows n a b =
    44 tells number_words (pieces_asked n a b)
    ∷ []

-- all of them
abbrev pub table : Numbers → List ℕ → List ℕ → List Row
table n a b =
    word_rows n a b
    ++ (octet_rows n a b
    ++ (block_rows n
    ++ (inode_rows n a
    ++ (entry_rows n a b
    ++ (record_rows n a b
    ++ (root_rows n a b
    ++ (page_rows n a b
    ++ piece_rows n a b)))))))

-- the fields of a call of the table; of another, none
unfoldable pub fields_of : ℕ → Numbers → List ℕ → List ℕ → List ℕ
fields_of call n a b = fields_in call (table n a b)
