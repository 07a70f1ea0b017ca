-- What the system's answer to a read behind some bytes gives.
use mathlib.Core.Path.{sym, subst}
use Prim.Native.Nat.{ℕ, zero, suc, ◌<◌}
use native.Mathlib.Omega.{arith}
use borrow.Author.Tests.{lt-leb, ne_eqb}
use Rattle.std.proofs.lemmas.Slice.{take-put_mid_below}
use Rattle.std.proofs.Common.{◌≡◌, Option, Result, Ok, Err}
use Rattle.stream.proofs.Took.{took_of}
use Rattle.stream.specs.Stream.{read_of, Came}

came : {E : Type 0} (got : Result ℕ E) {size have : ℕ} → have < size → Came size have (read_of size have got)
unfolding read_of
came (Err e) h = rw (lt-leb _ _ h) h
came (Ok zero) h = rw (lt-leb _ _ h) tt
came (Ok (suc k)) h = rw (lt-leb _ _ h, ne_eqb (suc k) 0 (λ e. omega arith)) (omega arith, omega arith)

pub came_of : {E : Type 0} (got : Result ℕ E) (size have : ℕ) {r : Result (Option ℕ) E} → have < size → r ≡ read_of size have got → Came size have r
came_of {E} got size have h e = subst (λ (r : Result (Option ℕ) E). Came size have r) (sym e) (came got h)

pub ruleset behind = (came_of, took_of, take-put_mid_below)
