-- The characters of a label (01, section 3), by the grammar of RFC 3629 and the numbers of its section 3.
use Rattle.std.specs.Prelude.{ℕ, ◌≤◌, ◌≡◌, List, ◌++◌}
use Rattle.utf8.specs.Rfc3629.{Utf8-char, number}

-- RFC 3629, sections 4 and 3: bytes hold the character of this number; as far as they can be cut into characters from the front, it is one of these
pub data HasCharacter : ℕ → List ℕ → Type 0 where
  here : {c : List ℕ} (s : List ℕ) → Utf8-char c → HasCharacter (number c) (c ++ s)
  later : {p : ℕ} {c s : List ℕ} → Utf8-char c → HasCharacter p s → HasCharacter p (c ++ s)

-- 01, section 3: a character that a label may hold: not `/`, not U+0000..U+001F, not U+007F..U+009F
pub record MayStand (p : ℕ) : Type 0 where
  pub no_slash : p ≡ 0x2F → ⊥
  pub no_low : p ≤ 0x1F → ⊥
  pub no_high : 0x7F ≤ p → p ≤ 0x9F → ⊥
