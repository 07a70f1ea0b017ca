-- What the rules of a child's record ask for: a value of 16 bytes, with the block that they answer at its front.
use mathlib.Core.Path.{◌≡◌, refl, ap, ◌∙◌}
use mathlib.Core.List.{List}
use Prim.Native.Nat.{ℕ, ◌+◌, ◌≤◌}
use native.Mathlib.Omega.{arith}
use lib.ListN.{length, drop, length-take}
use lib.Seq.{take-take}
use Rattle.std.specs.Prelude.{Ok, Err}
use Rattle.error.specs.Answer.{number_check, number_of}
use Rattle.octets.specs.Number.{field, u64_at}
use Rattle.lookup.specs.Record.{key_len, value_len, key_of, value_of}
use Rattle.record.specs.Internal.{Child, validate_internal_record, child_block}
use Rattle.record.proofs.Children.{child_sixteen, child_block_lem}
use Rattle.walk.specs.declared.RecordValidation.{RecordValidation}
use Rattle.walk.specs.Records.{child_rules, own_answer}
use Rattle.walk.specs.Inside.{stored_block}

child_value : (c : RecordValidation) (key value : List ℕ) → number_check (child_rules c key value) ≡ Ok tt → (length value ≡ 16) × (number_of (child_rules c key value) ≡ u64_at value 0)
child_value c key value e = go (validate_internal_record c.kind key value c.blocks c.page_generation c.mode) refl e
  where
    go : (r : Child) → validate_internal_record c.kind key value c.blocks c.page_generation c.mode ≡ r → number_check (child_block r) ≡ Ok tt
        → (length value ≡ 16) × (number_of (child_rules c key value) ≡ u64_at value 0)
    go (Ok b) p f = (
      child_sixteen c.kind key value c.blocks c.page_generation c.mode b p,
      ap (λ (x : Child). number_of (child_block x)) p ∙ child_block_lem c.kind key value c.blocks c.page_generation c.mode b p,
    )
    go (Err x) p f = absurd cc

-- the block at the front of a record's value, where the value is so long
value_block : (s : List ℕ) → length (value_of s) ≡ 16 → u64_at (value_of s) 0 ≡ stored_block s
unfolding field
value_block s e =
    let h : 8 ≤ value_len s = omega (arith, length-take (value_len s) (drop (4 + key_len s) s)) in
    rw (take-take 8 (value_len s) (drop (4 + key_len s) s) h)

pub own_block : (c : RecordValidation) (s : List ℕ) → number_check (own_answer (child_rules c) s) ≡ Ok tt → number_of (own_answer (child_rules c) s) ≡ stored_block s
own_block c s e =
    let h = child_value c (key_of s) (value_of s) e in
    h.1 ∙ value_block s h.0
