-- What the readers answer (01, "Return classes"): beyond the bytes class 3 with the reason that the caller gave. One rule for every width.
use Rattle.std.specs.Prelude.{Ok, Err}
use Rattle.std.specs.Prelude.{ℕ, List, cond}
use Rattle.error.specs.declared.Error.TheVariants.{Corrupt}
use Rattle.error.specs.Answer.{Number}
use Rattle.octets.specs.Number.{field, within}

-- the number where all its bytes are there, else the caller's reason
abbrev pub read_of : List ℕ → ℕ → ℕ → ℕ → Number
read_of s offset width reason = cond (within s offset width) (Ok (field s offset width)) (Err (Corrupt reason))
