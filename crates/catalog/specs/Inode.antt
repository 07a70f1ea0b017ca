-- Inodes and symlink targets (01, section 5: field rules are the Rust's, here those of `validate_inode` and `validate_symlink_target`).
use Rattle.std.specs.Prelude.{ℕ, ◌-◌, ◌^◌, Bool, not, ◌&&◌, ◌||◌, cond, List, [], ◌∷◌, ◌++◌, leb, eqb, length, drop}
use Rattle.std.specs.List.{list_any}
use Rattle.error.specs.declared.Error.{Error}
use Rattle.error.specs.declared.Error.TheVariants.{Corrupt, TooLong}
use Rattle.error.specs.declared.Validation.{Validation}
use Rattle.error.specs.declared.Validation.TheVariants.{Input, Disk}
use Rattle.error.specs.Answer.{Check}
use Rattle.std.specs.Prelude.{Ok}
use Rattle.error.specs.Answer.{violation_of}
use Rattle.error.specs.Demand.{Demand, ◌otherwise◌, passing, demands}
use Rattle.error.specs.Reason as reason
use Rattle.octets.specs.Bytes.{byte_at, part, bit, all_zero}
use Rattle.octets.specs.Number.{u64_at}
use Rattle.utf8.specs.Inside.{utf8}
use Rattle.catalog.specs.Keys.{validate_owner_id}
use Rattle.catalog.specs.Times.{validate_timestamp}

-- no byte is 0
abbrev pub without_nul : List ℕ → Bool
without_nul bytes = not (list_any (λ b. eqb b 0) bytes)

-- 01, "Return classes": a target over 1,023 bytes is class 6 in mode Input, class 3 in mode Disk
abbrev pub too_long_of : Validation → ℕ → Error
too_long_of Input reason = TooLong reason
too_long_of Disk reason = Corrupt reason

-- `validate_symlink_target`, READING-RULES 9.2: a target is not empty, has no NUL, and is UTF-8; that it isn't too long is tested before
unfoldable pub is_target : List ℕ → Bool
is_target target = not (eqb (length target) 0) && without_nul target && utf8 target

-- `validate_symlink_target`, READING-RULES 9.2: what is asked of a symlink's target, in order
abbrev pub symlink_target_demands : List ℕ → Validation → List Demand
symlink_target_demands target mode =
    leb (length target) 1023 otherwise too_long_of mode reason.symlink_target_is_too_long
    ∷ is_target target otherwise violation_of mode reason.invalid_symlink_target
    ∷ []

-- 01, "Return classes": the first that fails answers
unfoldable pub validate_symlink_target : List ℕ → Validation → Check
validate_symlink_target target mode = demands (symlink_target_demands target mode)

-- `validate_inode`, READING-RULES 9.2: byte 0, its type: 1 a file, 2 a directory, 3 a symlink
abbrev pub inode_type : List ℕ → ℕ
inode_type value = byte_at value 0

-- `validate_inode`, READING-RULES 9.2: byte 1, its flags
abbrev pub inode_flags : List ℕ → ℕ
inode_flags value = byte_at value 1

-- `validate_inode`, READING-RULES 9.2: u64 at 8, its parent
abbrev pub inode_parent : List ℕ → ℕ
inode_parent value = u64_at value 8

-- `validate_inode`, READING-RULES 9.2: u64 at 16, its size in bytes
abbrev pub inode_size : List ℕ → ℕ
inode_size value = u64_at value 16

-- `validate_inode`, READING-RULES 9.2: u64 at 24, its allocated blocks
abbrev pub inode_allocated : List ℕ → ℕ
inode_allocated value = u64_at value 24

-- `validate_inode`, READING-RULES 9.2: u64 at 32, how many children it has
abbrev pub inode_children : List ℕ → ℕ
inode_children value = u64_at value 32

-- `validate_inode`, READING-RULES 9.2: from byte 128 on, a symlink's target
abbrev pub inode_target : List ℕ → List ℕ
inode_target value = drop 128 value

-- `validate_inode`, READING-RULES 9.2: a symlink (type 3) goes on with its target, of whatever size the value is; every other inode has 128 bytes
abbrev pub ends_right : ℕ → ℕ → Bool
ends_right type len = eqb type 3 || eqb len 128

-- `validate_inode`, READING-RULES 9.2: flags are at most 7: bit 0 marks an orphan; only a symlink (type 3) may have bit 1, its kind on Windows is recorded, and then bit 2, that kind is directory
abbrev pub flags_allowed : ℕ → ℕ → Bool
flags_allowed type flags =
    leb flags 7
    && (eqb (bit flags 1) 0 && eqb (bit flags 2) 0 || eqb type 3)
    && (eqb (bit flags 2) 0 || eqb (bit flags 1) 1)

-- `validate_inode`, READING-RULES 9.2: size and children are at most 2^63 - 1, the allocated blocks at most those of the volume
unfoldable pub fields_in_range : ℕ → ℕ → ℕ → ℕ → Bool
fields_in_range size allocated children blocks = leb size (2 ^ 63 - 1) && leb allocated blocks && leb children (2 ^ 63 - 1)

-- `validate_inode`, READING-RULES 9.2: a directory (2) has size 0 and no blocks, a file (1) no children, a symlink (3) no blocks, no children and the size of its target
unfoldable pub fields_of_type : ℕ → ℕ → ℕ → ℕ → ℕ → Bool
fields_of_type type target size allocated children =
    (not (eqb type 2) || eqb size 0 && eqb allocated 0)
    && (not (eqb type 1) || eqb children 0)
    && (not (eqb type 3) || eqb allocated 0 && eqb children 0 && eqb size target)

-- `validate_inode`, READING-RULES 9.2: the flags are allowed, and the reserved bytes 2..7 and 88..127 are zero
unfoldable pub flags_and_reserved : List ℕ → Bool
flags_and_reserved value = flags_allowed (inode_type value) (inode_flags value) && all_zero (part value 2 6) && all_zero (part value 88 40)

-- `validate_inode`, READING-RULES 9.2: the ranges of the numbers, then what the type says of them
abbrev pub inode_number_demands : ℕ → ℕ → ℕ → ℕ → ℕ → ℕ → Validation → List Demand
inode_number_demands type target size allocated children blocks mode =
    fields_in_range size allocated children blocks otherwise violation_of mode reason.inode_range
    ∷ fields_of_type type target size allocated children otherwise violation_of mode reason.inode_type_specific_fields
    ∷ []

-- `validate_inode`, READING-RULES 9.2: the parent, then the numbers
abbrev pub inode_field_demands : List ℕ → ℕ → Validation → List Demand
inode_field_demands value blocks mode =
    passing (validate_owner_id (inode_parent value) mode)
    ∷ inode_number_demands (inode_type value) (length value - 128) (inode_size value) (inode_allocated value) (inode_children value) blocks mode

-- `validate_inode`, READING-RULES 9.2: the target of a symlink (type 3) is checked; other inodes have none, and pass
unfoldable pub target_check : List ℕ → Validation → Check
target_check value mode = cond (eqb (inode_type value) 3) (validate_symlink_target (inode_target value) mode) (Ok tt)

-- `validate_inode`, READING-RULES 9.2: its three times, at 40, 56 and 72
abbrev pub inode_time_demands : List ℕ → Validation → List Demand
inode_time_demands value mode =
    passing (validate_timestamp value 40 mode)
    ∷ passing (validate_timestamp value 56 mode)
    ∷ passing (validate_timestamp value 72 mode)
    ∷ []

-- 01, "Misreadings": the type, 1 to 3, is tested before the length, 128 and for a symlink 128 or more; an empty value has no type, and its length is refused
abbrev pub inode_shape_demands : List ℕ → Validation → List Demand
inode_shape_demands value mode =
    not (eqb (length value) 0) otherwise violation_of mode reason.invalid_inode_length
    ∷ (leb 1 (inode_type value) && leb (inode_type value) 3) otherwise violation_of mode reason.invalid_inode_type
    ∷ (leb 128 (length value) && ends_right (inode_type value) (length value)) otherwise violation_of mode reason.invalid_inode_length
    ∷ []

-- `validate_inode`, READING-RULES 9.2: what is asked of an inode, in order: its shape, its flags and reserved bytes, its fields, its target and its times
abbrev pub inode_demands : List ℕ → ℕ → Validation → List Demand
inode_demands value blocks mode =
    inode_shape_demands value mode
    ++ (flags_and_reserved value otherwise violation_of mode reason.invalid_inode_flags_or_reserved_bytes ∷ inode_field_demands value blocks mode)
    ++ (passing (target_check value mode) ∷ inode_time_demands value mode)

-- 01, "Return classes": the first that fails answers
unfoldable pub validate_inode : List ℕ → ℕ → Validation → Check
validate_inode value blocks mode = demands (inode_demands value blocks mode)
