-- Runs of the workspace (01, section 5: field rules are the Rust's, here those of `validate_workspace_key` and `validate_workspace_run`).
use Rattle.std.specs.Prelude.{ℕ, ◌+◌, ◌-◌, not, ◌&&◌, List, [], ◌∷◌, eqb, length}
use Rattle.error.specs.declared.Validation.{Validation}
use Rattle.error.specs.Answer.{Check}
use Rattle.error.specs.Answer.{violation_of}
use Rattle.error.specs.Demand.{Demand, ◌otherwise◌, passing, demands}
use Rattle.error.specs.Reason as reason
use Rattle.octets.specs.Number.{u32_at, big_at}
use Rattle.volume.specs.Blocks.{is_nonreserved_block}
use Rattle.volume.specs.Numbers.{sum_fits}

-- `validate_workspace_key`, READING-RULES 13: u64 at 0 of the key, big-endian, the run's first block
abbrev pub run_first : List ℕ → ℕ
run_first key = big_at key 0

-- `validate_workspace_run`, READING-RULES 13: u32 at 0 of the value, its count of blocks
abbrev pub run_count : List ℕ → ℕ
run_count value = u32_at value 0

-- `validate_workspace_key`, READING-RULES 13: what is asked of the key, in order
abbrev pub workspace_key_demands : List ℕ → ℕ → Validation → List Demand
workspace_key_demands key blocks mode =
    eqb (length key) 8 otherwise violation_of mode reason.workspace_key_length
    ∷ is_nonreserved_block (run_first key) blocks otherwise violation_of mode reason.invalid_workspace_block
    ∷ []

-- 01, "Return classes": the first that fails answers
unfoldable pub validate_workspace_key : List ℕ → ℕ → Validation → Check
validate_workspace_key key blocks mode = demands (workspace_key_demands key blocks mode)

-- `validate_workspace_run`, READING-RULES 13: a count of 0, and a last block beyond 64 bits, are one refusal; the last block lies outside the reserved blocks, as the first does
abbrev pub run_end_demands : ℕ → ℕ → ℕ → Validation → List Demand
run_end_demands first count blocks mode =
    (not (eqb count 0) && sum_fits first (count - 1)) otherwise violation_of mode reason.invalid_workspace_run_length
    ∷ is_nonreserved_block (first + (count - 1)) blocks otherwise violation_of mode reason.workspace_run_leaves_the_volume
    ∷ []

-- `validate_workspace_run`, READING-RULES 13: what is asked of a run, in order
abbrev pub workspace_run_demands : List ℕ → List ℕ → ℕ → Validation → List Demand
workspace_run_demands key value blocks mode =
    passing (validate_workspace_key key blocks mode)
    ∷ eqb (length value) 4 otherwise violation_of mode reason.workspace_run_length
    ∷ run_end_demands (run_first key) (run_count value) blocks mode

-- 01, "Return classes": the first that fails answers
unfoldable pub validate_workspace_run : List ℕ → List ℕ → ℕ → Validation → Check
validate_workspace_run key value blocks mode = demands (workspace_run_demands key value blocks mode)
