-- `Asked::descend` meets its contract. The loop's invariant: the descent from here on gives what the whole descent gives.
use mathlib.Core.Path.{◌≡◌}
use Prim.Native.Nat.{◌-◌}
use Rattle.search.specs.Search.{descend}
use Rattle.search.specs.Inside.{sought_of, under_of}
use Rattle.search.proofs.descent.Asked.descend.Given as goal

abbrev pub invariant-loop-pages : goal.invariant-loop-pages
invariant-loop-pages l =
    descend (sought_of l.self) (8 - l.pages) (under_of l.self.image.now l.way) l.pages ≡ descend (sought_of l.self) 8 (under_of l.self.image.now l.fn.top) 0
