-- What a program writes for the calls on its input (docs/PROBE.md, docs/PROBE-ADDED.md), where the bytes are known. Whether a read or a write fails, no contract can say.
use Rattle.std.specs.Prelude.{ℕ, ◌+◌, ◌≡◌, ◌≢◌, List, [], ◌++◌, take, drop, Option, IfSome, Ok, Err, ⊤}
use Rattle.std.specs.Io.KnownBytes.{Appends}
use Rattle.shape.specs.declared.Fault.TheVariants.{Short, Outside}
use Rattle.shape.specs.Call.{Front}
use Rattle.report.specs.Line.{cut_line, end_line}
use Rattle.turns.specs.declared.Ended.{Ended}
use Rattle.turns.specs.declared.Ended.TheVariants.{Whole, Unread, Unwritten}

-- the line of the call at a place: its text, and no more than there is room for
abbrev pub line_of : (ℕ → List ℕ → List ℕ) → ℕ → List ℕ → List ℕ
line_of text place call = take 32768 (text place call)

-- calls one behind the other from an input's front: how many, what of the input is left behind them, and their lines
pub data Told (front : List ℕ → Front) (text : ℕ → List ℕ → List ℕ) (input : List ℕ) : ℕ → List ℕ → List ℕ → Type 0 where
  -- none yet
  none : Told front text input 0 input []
  -- one more: a call of n bytes stands at the front of what is left
  call : {place n : ℕ} {left lines : List ℕ} → Told front text input place left lines → front left ≡ Ok n → Told front text input (place + 1) (drop n left) (lines ++ line_of text place (take n left))

-- the last line, behind so many calls, by what is left of the input
pub data Last (front : List ℕ → Front) (place : ℕ) : List ℕ → List ℕ → Type 0 where
  -- nothing
  ended : Last front place [] (end_line place)
  -- a call that is unknown or outside the limits
  outside : {left : List ℕ} → front left ≡ Err Outside → Last front place left (cut_line place)
  -- bytes, but no whole call
  short : {left : List ℕ} → left ≢ [] → front left ≡ Err Short → Last front place left (cut_line place)

-- what is written for an input: the first line, a line for each call, and the last line, but where the input couldn't be read on
pub data Written (front : List ℕ → Front) (text : ℕ → List ℕ → List ℕ) (head input : List ℕ) : Ended → List ℕ → Type 0 where
  whole : {place : ℕ} {left lines last : List ℕ} → Told front text input place left lines → Last front place left last → Written front text head input Whole (head ++ lines ++ last)
  unread : {place : ℕ} {left lines : List ℕ} → Told front text input place left lines → Written front text head input Unread (head ++ lines)

-- a reader with `input` was answered, behind what a writer held; nothing is said where a byte couldn't be written, or which bytes there were isn't known
abbrev pub Answered : (List ℕ → Front) → (ℕ → List ℕ → List ℕ) → List ℕ → Option (List ℕ) → Option (List ℕ) → Option (List ℕ) → Ended → Type 0
Answered front text head input old new Unwritten = ⊤
Answered front text head input old new r = IfSome input (λ bytes. (written : List ℕ) × Written front text head bytes r written × Appends old new written)
