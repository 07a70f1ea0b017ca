-- Owner numbers and keys of the catalog (01, section 5: field rules are the Rust's, here those of `validate_owner_id` and `validate_catalog_key`).
use Rattle.std.specs.Prelude.{Ok}
use Rattle.std.specs.Prelude.{ℕ, ◌-◌, ◌^◌, Bool, ◌&&◌, ◌||◌, List, [], ◌∷◌, leb, eqb, length, drop}
use Rattle.error.specs.declared.Validation.{Validation}
use Rattle.error.specs.Answer.{Check}
use Rattle.error.specs.Answer.{Number}
use Rattle.error.specs.Answer.{violation_of}
use Rattle.error.specs.Demand.{Demand, ◌otherwise◌, passing, outcome, demands}
use Rattle.error.specs.Reason as reason
use Rattle.octets.specs.Bytes.{byte_at}
use Rattle.octets.specs.Number.{big_at}
use Rattle.utf8.specs.Inside.{utf8}

-- 01, section 5: owner numbers run 1..2^63 - 2
abbrev pub owner_demands : ℕ → Validation → List Demand
owner_demands owner mode = (leb 1 owner && leb owner (2 ^ 63 - 2)) otherwise violation_of mode reason.invalid_object_id ∷ []

-- 01, "Return classes": the first that fails answers
unfoldable pub validate_owner_id : ℕ → Validation → Check
validate_owner_id owner mode = demands (owner_demands owner mode)

-- `validate_catalog_key`, READING-RULES 9.1: u64 at 0, big-endian, the key's owner
abbrev pub key_owner : List ℕ → ℕ
key_owner key = big_at key 0

-- `validate_catalog_key`, READING-RULES 9.1: byte 8, the record's kind
abbrev pub key_kind : List ℕ → ℕ
key_kind key = byte_at key 8

-- `validate_extent`, `validate_checksum_group`, READING-RULES 9.1: u64 at 9, big-endian, an extent's first logical block or a checksum group's index
abbrev pub key_number : List ℕ → ℕ
key_number key = big_at key 9

-- `validate_catalog_key`, READING-RULES 9.1: from byte 9 on, the text in a directory entry's key
abbrev pub key_name : List ℕ → List ℕ
key_name key = drop 9 key

-- `validate_catalog_key`, READING-RULES 9.1: kind 1, an inode: 9 bytes
abbrev pub is_inode_key : List ℕ → Bool
is_inode_key key = eqb (key_kind key) 1 && eqb (length key) 9

-- `validate_catalog_key`, READING-RULES 9.1: kind 2, a directory entry: 10 to 774 bytes, UTF-8 from byte 9 on
abbrev pub is_entry_key : List ℕ → Bool
is_entry_key key = eqb (key_kind key) 2 && leb 10 (length key) && leb (length key) 774 && utf8 (key_name key)

-- `validate_catalog_key`, READING-RULES 9.1: kinds 3 and 4, an extent and a checksum group: 17 bytes
abbrev pub is_number_key : List ℕ → Bool
is_number_key key = (eqb (key_kind key) 3 || eqb (key_kind key) 4) && eqb (length key) 17

-- `validate_catalog_key`, READING-RULES 9.1: the key has the form that its kind asks for, and the kind is 1 to 4
unfoldable pub is_catalog_key : List ℕ → Bool
is_catalog_key key = is_inode_key key || is_entry_key key || is_number_key key

-- `validate_catalog_key`, READING-RULES 9.1: what is asked of a key, in order
abbrev pub catalog_key_demands : List ℕ → Validation → List Demand
catalog_key_demands key mode =
    leb 9 (length key) otherwise violation_of mode reason.catalog_key_is_too_short
    ∷ passing (validate_owner_id (key_owner key) mode)
    ∷ is_catalog_key key otherwise violation_of mode reason.invalid_catalog_key
    ∷ []

-- 01, "Return classes": the first that fails answers; else the kind, 1 to 4
unfoldable pub validate_catalog_key : List ℕ → Validation → Number
validate_catalog_key key mode = outcome (catalog_key_demands key mode) (Ok (key_kind key))
