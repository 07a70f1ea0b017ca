-- Call 44 of docs/PROBE.md: a data unit in pieces.
use Rattle.std.specs.Prelude.{ℕ, ◌+◌, ◌-◌, ◌/◌, cond, List, [], ◌∷◌, eqb, length}
use Rattle.std.specs.Simd.{first_chunks}
use Rattle.error.specs.Answer.{Number}
use Rattle.octets.specs.Bytes.{padded_to}
use Rattle.crc.specs.Pieces.{pieces_sum}
use Rattle.calls.specs.declared.Numbers.{Numbers}

-- docs/PROBE.md, call 44: pieces of so many bytes, of which the last may be shorter
abbrev pub chunks_of : ℕ → List ℕ → List (List ℕ)
chunks_of size bytes = first_chunks size ((length bytes + size - 1) / size) bytes

-- docs/PROBE.md, call 44: a size of 0: all at once
abbrev pub cut : ℕ → List ℕ → List (List ℕ)
cut size bytes = cond (eqb size 0) (bytes ∷ []) (chunks_of size bytes)

-- docs/PROBE.md, call 44: the sum of the unit whose object, number, announced length and piece's size the call gives
unfoldable pub pieces_asked : Numbers → List ℕ → List ℕ → Number
pieces_asked n uuid bytes = pieces_sum (padded_to 16 uuid) n.a n.b n.c (cut n.d bytes)
