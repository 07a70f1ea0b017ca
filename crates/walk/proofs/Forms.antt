-- The key of a record above the one before it, from the comparison of the key that was cut out.
use mathlib.Core.Path.{◌≡◌, sym, ap, ◌∙◌}
use mathlib.Core.Bool.{Bool, cond}
use mathlib.Core.List.{List}
use Prim.Native.Nat.{ℕ, ◌+◌, ◌-◌, ◌≤◌}
use native.Mathlib.Omega.{arith}
use borrow.Author.Tests.{le-leb}
use lib.ListN.{length}
use Rattle.std.specs.Prelude.{Ok, Err}
use Rattle.error.specs.declared.Validation.{Validation}
use Rattle.error.specs.Answer.{violation_of}
use Rattle.error.specs.Demand.{outcome}
use Rattle.error.specs.Reason as reason
use Rattle.octets.specs.Bytes.{part}
use Rattle.octets.specs.Order.{order, is_less, is_greater}
use Rattle.octets.proofs.OrderLaws.{order_mirror}
use Rattle.lookup.specs.Record.{key_len, value_len, key_of}
use Rattle.lookup.specs.declared.Lengths.{Lengths}
use Rattle.walk.specs.Inside.{form_of}

pub form_key : (s previous : List ℕ) (k : ℕ) (t : Bool) → t ≡ is_greater (order (part s 4 (4 + k - 4)) previous) → k ≡ key_len s → is_less (order previous (key_of s)) ≡ t
form_key s previous k t q p =
    let n : 4 + k - 4 ≡ key_len s = omega arith in
    sym (q ∙ ap (λ (m : ℕ). is_greater (order (part s 4 m) previous)) n ∙ order_mirror previous (key_of s))

-- where the tests before it let the record through, the comparison of the keys answers
pub form_last : (s previous : List ℕ) (left : ℕ) (mode : Validation) (l : Lengths) (t : Bool) → l.key_len ≡ key_len s → l.value_len ≡ value_len s → 4 ≤ length s → 1 ≤ l.key_len → l.key_len ≤ 1024
    → 4 + l.key_len + l.value_len ≤ 3072 → 4 + l.key_len + l.value_len ≤ left → t ≡ is_greater (order (part s 4 (4 + l.key_len - 4)) previous)
    → form_of s left previous mode ≡ cond t (Ok l) (Err (violation_of mode reason.record_keys_are_not_increasing))
unfolding form_of outcome
form_last s previous left mode l t p q four low high small inside is =
    rw (le-leb 2 (length s) (omega arith), le-leb 4 (length s) four, form_key s previous l.key_len t is p, sym p, sym q, le-leb 1 l.key_len low, le-leb l.key_len 1024 high, le-leb (4 + l.key_len + l.value_len) 3072 small, le-leb (4 + l.key_len + l.value_len) left inside)
