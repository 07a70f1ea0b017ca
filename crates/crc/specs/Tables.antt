-- 01, section 1: "entry b of table k is the register for byte b followed by k zero bytes". The register starts as 0.
use Rattle.std.specs.Prelude.{ℕ, ◌+◌, ◌*◌, ◌<◌, ◌≡◌, List, ◌∷◌, get_or, replicate}
use Rattle.crc.specs.Crc.{extend}

-- eight tables of 256 words, one after the other
unfoldable pub IsTables : List ℕ → Type 0
IsTables t = (k b : ℕ) → k < 8 → b < 256 → get_or t (k * 256 + b) 0 ≡ extend 0 (b ∷ replicate k 0)
