-- The rows of a table among some numbers.
use Prim.Native.Nat.{ℕ, ◌≤◌}
use mathlib.Core.Path.{◌≡◌, refl}
use mathlib.Core.Bool.{Bool, true, false, ◌&&◌, cond}
use mathlib.Core.List.{List, [], ◌∷◌}
use lib.Dec.{eqb, leb}
use borrow.Author.Tests.{eqb-true, le-leb}
use Rattle.calls.specs.Told.{Row, fields_in}

-- the rows whose numbers are k to m
abbrev pub among : ℕ → ℕ → List Row → List Row
among k m [] = []
among k m (row ∷ rows) = cond (leb k row.number && leb row.number m) (row ∷ among k m rows) (among k m rows)

-- a call of k to m is told by one of them
pub told_among : (k m call : ℕ) (rows : List Row) → k ≤ call → call ≤ m → fields_in call (among k m rows) ≡ fields_in call rows
unfolding fields_in
told_among k m call [] l u = refl
told_among k m call (row ∷ rows) l u = go (eqb call row.number) refl (told_among k m call rows l u)
  where
    kept : (t : Bool) → fields_in call (among k m rows) ≡ fields_in call rows → eqb call row.number ≡ false → fields_in call (cond t (row ∷ among k m rows) (among k m rows)) ≡ fields_in call rows
    kept true rest e = rw e rest
    kept false rest e = rest

    go : (t : Bool) → eqb call row.number ≡ t → fields_in call (among k m rows) ≡ fields_in call rows → fields_in call (cond (leb k row.number && leb row.number m) (row ∷ among k m rows) (among k m rows)) ≡ cond t row.fields (fields_in call rows)
    go true e rest = let same : call ≡ row.number = eqb-true call row.number e in rw (le-leb k row.number (rw (← same) l), le-leb row.number m (rw (← same) u), e) refl
    go false e rest = kept (leb k row.number && leb row.number m) rest e
