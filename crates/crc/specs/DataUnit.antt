-- The checksum of one unit of a file's data, at once (crc.rs, `data_unit_crc`) and in pieces (crc.rs, `DataUnitCrc`).
use Rattle.std.specs.Prelude.{Ok, Err, Result}
use Rattle.std.specs.Prelude.{ℕ, ◌+◌, ◌-◌, ◌^◌, ◌&&◌, List, [], ◌∷◌, ◌++◌, leb, eqb, min, length, replicate}
use Rattle.std.specs.Int.Bits.{bit_xor}
use Rattle.error.specs.declared.Error.{Error}
use Rattle.error.specs.declared.Error.TheVariants.{InvalidInput}
use Rattle.error.specs.Answer.{Number, class_of, reason_of}
use Rattle.error.specs.Demand.{Demand, ◌otherwise◌, outcome}
use Rattle.octets.specs.Number.{little_bytes}
use Rattle.crc.specs.Crc.{ones, extend, crc32c}
use Rattle.crc.specs.declared.DataUnitCrc.{DataUnitCrc}

-- crc.rs, `UNIT_BYTES`: the bytes of a unit
abbrev pub unit_bytes : ℕ
unit_bytes = 65536

-- crc.rs, `DataUnitCrc::new`: the text CFSXDATA
abbrev pub tag : List ℕ
tag = 0x43 ∷ 0x46 ∷ 0x53 ∷ 0x58 ∷ 0x44 ∷ 0x41 ∷ 0x54 ∷ 0x41 ∷ []

-- crc.rs, `DataUnitCrc::new` and `finish`: the bytes that are summed: the tag, whose unit it is (UUID, object, number of the unit), how many of its bytes are valid, those, and zeros up to the unit's end
unfoldable pub data_unit : List ℕ → ℕ → ℕ → List ℕ → List ℕ
data_unit uuid object unit valid =
    tag ++ uuid ++ little_bytes 8 object ++ little_bytes 8 unit ++ little_bytes 4 (length valid) ++ valid ++ replicate (unit_bytes - length valid) 0

-- the reason of a string that isn't in the list of reasons (crc.rs, `DataUnitCrc::new`; DECISIONS 17)
abbrev pub unlisted : ℕ
unlisted = 0

-- crc.rs, `DataUnitCrc::new`: a unit has a valid byte, and no more than it has bytes; otherwise class 2
abbrev pub length_demands : ℕ → List Demand
length_demands valid = (leb 1 valid && leb valid unit_bytes) otherwise InvalidInput unlisted ∷ []

-- crc.rs, `data_unit_crc`: the same of bytes that are given at once
abbrev pub data_unit_demands : List ℕ → List Demand
data_unit_demands valid = length_demands (length valid)

-- crc.rs, `data_unit_crc`: the sum, or why there is none
unfoldable pub data_unit_crc : List ℕ → ℕ → ℕ → List ℕ → Number
data_unit_crc uuid object unit valid =
    outcome (data_unit_demands valid) (Ok (crc32c (data_unit uuid object unit valid)))

-- ---- in pieces

-- crc.rs, `DataUnitCrc::new`: what stands before a unit's bytes: the tag, whose unit it is, how many of its bytes are valid
abbrev pub unit_front : List ℕ → ℕ → ℕ → ℕ → List ℕ
unit_front uuid object unit valid = tag ++ uuid ++ little_bytes 8 object ++ little_bytes 8 unit ++ little_bytes 4 valid

-- crc.rs, `DataUnitCrc::new`: the register behind that, with so many bytes to come and none seen
unfoldable pub unit_new : List ℕ → ℕ → ℕ → ℕ → Result DataUnitCrc Error
unit_new uuid object unit valid =
    outcome (length_demands valid) (Ok (record { register = extend ones (unit_front uuid object unit valid); valid = valid; seen = 0 }))

-- crc.rs, `DataUnitCrc::update`: the register goes on over the bytes, and they are counted, up to 2^64 - 1
unfoldable pub unit_update : DataUnitCrc → List ℕ → DataUnitCrc
unit_update sum bytes = record {
  register = extend sum.register bytes;
  valid = sum.valid;
  seen = min (sum.seen + length bytes) (2 ^ 64 - 1);
}

-- crc.rs, `DataUnitCrc::finish`: as many bytes came as were announced; otherwise class 2
abbrev pub seen_demands : DataUnitCrc → List Demand
seen_demands sum = eqb sum.seen sum.valid otherwise InvalidInput unlisted ∷ []

-- crc.rs, `DataUnitCrc::finish`: the register goes on over zeros up to the unit's end; then the final xor
abbrev pub word_of : DataUnitCrc → ℕ
word_of sum = bit_xor (extend sum.register (replicate (unit_bytes - sum.valid) 0)) ones

-- crc.rs, `DataUnitCrc::finish`: the sum, or why there is none
unfoldable pub unit_finish : DataUnitCrc → Number
unit_finish sum = outcome (seen_demands sum) (Ok (word_of sum))

-- 01, "Return classes": class, reason, the length that was announced
unfoldable pub unit_words : Result DataUnitCrc Error → List ℕ
unit_words (Ok sum) = 0 ∷ 0 ∷ sum.valid ∷ []
unit_words (Err e) = class_of e ∷ reason_of e ∷ 0 ∷ []
