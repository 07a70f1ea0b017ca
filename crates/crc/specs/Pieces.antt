-- What the sum of a data unit's pieces is, said plainly: how the bytes are cut plays no part.
use Rattle.std.specs.Prelude.{ℕ, ◌≡◌, ◌≤◌, ◌<◌, ◌⊎◌, List, [], ◌∷◌, length, Result, Ok, Err}
use Rattle.std.specs.List.{concat}
use Rattle.error.specs.declared.Error.{Error}
use Rattle.error.specs.declared.Error.TheVariants.{InvalidInput}
use Rattle.error.specs.Answer.{Number}
use Rattle.crc.specs.Crc.{crc32c}
use Rattle.crc.specs.DataUnit.{unit_bytes, data_unit, unlisted, unit_new, unit_update, unit_finish}
use Rattle.crc.specs.declared.DataUnitCrc.{DataUnitCrc}

-- crc.rs, `DataUnitCrc::update`: one piece after the other
abbrev pub fed : DataUnitCrc → List (List ℕ) → DataUnitCrc
fed sum [] = sum
fed sum (piece ∷ pieces) = fed (unit_update sum piece) pieces

-- crc.rs, `data_unit_crc`, of pieces: a sum that was begun is fed with the pieces and finished; one that was refused stays so
abbrev pub finish_fed : Result DataUnitCrc Error → List (List ℕ) → Number
finish_fed (Ok sum) pieces = unit_finish (fed sum pieces)
finish_fed (Err e) pieces = Err e

-- crc.rs, `DataUnitCrc`: the sum of a unit whose bytes come in pieces, begun with the length that is announced
unfoldable pub pieces_sum : List ℕ → ℕ → ℕ → ℕ → List (List ℕ) → Number
pieces_sum uuid object unit announced pieces = finish_fed (unit_new uuid object unit announced) pieces

-- of any pieces, in their order
pub record PiecesSum : Type 0 where
  -- a length that no unit has is refused before them: class 2, reason 0
  pub unbegun : (uuid : List ℕ) (object unit announced : ℕ) (pieces : List (List ℕ)) → (announced ≡ 0) ⊎ (unit_bytes < announced)
      → pieces_sum uuid object unit announced pieces ≡ Err (InvalidInput unlisted)
  -- as many bytes as announced: the sum of the unit whose valid bytes the joined pieces are
  pub summed : (uuid : List ℕ) (object unit announced : ℕ) (pieces : List (List ℕ)) → 1 ≤ announced → announced ≤ unit_bytes
      → length (concat pieces) ≡ announced → pieces_sum uuid object unit announced pieces ≡ Ok (crc32c (data_unit uuid object unit (concat pieces)))
  -- fewer or more: class 2, reason 0
  pub refused : (uuid : List ℕ) (object unit announced : ℕ) (pieces : List (List ℕ)) → 1 ≤ announced → announced ≤ unit_bytes
      → (length (concat pieces) ≡ announced → ⊥) → pieces_sum uuid object unit announced pieces ≡ Err (InvalidInput unlisted)
  -- how the bytes are cut plays no part
  pub cuts : (uuid : List ℕ) (object unit announced : ℕ) (pieces others : List (List ℕ)) → concat pieces ≡ concat others
      → pieces_sum uuid object unit announced pieces ≡ pieces_sum uuid object unit announced others
