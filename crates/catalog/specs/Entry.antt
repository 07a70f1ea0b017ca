-- Directory entries (01, section 5: field rules are the Rust's, here those of `validate_directory_entry`).
use Rattle.std.specs.Prelude.{ℕ, ◌+◌, Bool, ◌&&◌, List, [], ◌∷◌, leb, eqb, length, drop}
use Rattle.error.specs.declared.Validation.{Validation}
use Rattle.error.specs.Answer.{Check}
use Rattle.error.specs.Answer.{violation_of}
use Rattle.error.specs.Demand.{Demand, ◌otherwise◌, passing, demands}
use Rattle.error.specs.Reason as reason
use Rattle.octets.specs.Bytes.{byte_at}
use Rattle.octets.specs.Number.{u16_at, u64_at}
use Rattle.utf8.specs.Inside.{utf8}
use Rattle.catalog.specs.Keys.{validate_owner_id}

-- `validate_directory_entry`, READING-RULES 9.3: u64 at 0, the object that it names
abbrev pub entry_target : List ℕ → ℕ
entry_target value = u64_at value 0

-- `validate_directory_entry`, READING-RULES 9.3: byte 8, the type of what it names
abbrev pub entry_type : List ℕ → ℕ
entry_type value = byte_at value 8

-- `validate_directory_entry`, READING-RULES 9.3: byte 9, reserved
abbrev pub entry_reserved : List ℕ → ℕ
entry_reserved value = byte_at value 9

-- `validate_directory_entry`, READING-RULES 9.3: u16 at 10, the length of its name
abbrev pub entry_name_length : List ℕ → ℕ
entry_name_length value = u16_at value 10

-- `validate_directory_entry`, READING-RULES 9.3: from byte 12 on, its name
abbrev pub entry_name : List ℕ → List ℕ
entry_name value = drop 12 value

-- `validate_directory_entry`, READING-RULES 9.3: a name is 1 to 255 bytes of UTF-8, as long as the entry says, and ends it; any character may stand in it
unfoldable pub is_entry_name : List ℕ → Bool
is_entry_name value =
    leb 1 (entry_name_length value) && leb (entry_name_length value) 255 && eqb (length value) (12 + entry_name_length value) && utf8 (entry_name value)

-- `validate_directory_entry`, READING-RULES 9.3: what is asked of an entry, in order
abbrev pub directory_entry_demands : List ℕ → Validation → List Demand
directory_entry_demands value mode =
    leb 12 (length value) otherwise violation_of mode reason.directory_entry_is_too_short
    ∷ passing (validate_owner_id (entry_target value) mode)
    ∷ (leb 1 (entry_type value) && leb (entry_type value) 3) otherwise violation_of mode reason.invalid_directory_entry_type
    ∷ eqb (entry_reserved value) 0 otherwise violation_of mode reason.directory_entry_reserved_byte
    ∷ is_entry_name value otherwise violation_of mode reason.invalid_directory_entry_name
    ∷ []

-- 01, "Return classes": the first that fails answers
unfoldable pub validate_directory_entry : List ℕ → Validation → Check
validate_directory_entry value mode = demands (directory_entry_demands value mode)
