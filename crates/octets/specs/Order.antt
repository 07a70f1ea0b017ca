-- The order of byte strings (01, section 5): by the first byte that differs; a proper prefix is smaller.
use Rattle.std.specs.Prelude.{ℕ, List, [], ◌∷◌, Bool, true, false, cond, ltb}
use Rattle.std.specs.declared.cmp.Ordering.{Ordering}
use Rattle.std.specs.declared.cmp.Ordering.TheVariants.{Less, Equal, Greater}

-- section 5: byte by byte from the front
unfoldable pub order : List ℕ → List ℕ → Ordering
order [] [] = Equal
order [] (y ∷ ys) = Less
order (x ∷ xs) [] = Greater
order (x ∷ xs) (y ∷ ys) = cond (ltb x y) Less (cond (ltb y x) Greater (order xs ys))

-- 01, section 5, as docs/PROBE.md numbers it: 0 the first before the second, 1 equal, 2 behind it
unfoldable pub order_words : Ordering → List ℕ
order_words Less = 0 ∷ []
order_words Equal = 1 ∷ []
order_words Greater = 2 ∷ []

-- the first is above the second
abbrev pub is_greater : Ordering → Bool
is_greater Less = false
is_greater Equal = false
is_greater Greater = true

-- the first is below the second
abbrev pub is_less : Ordering → Bool
is_less Less = true
is_less Equal = false
is_less Greater = false
