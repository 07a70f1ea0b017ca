-- What private functions promise.
use Rattle.std.specs.Prelude.{ℕ, ◌-◌, ◌<◌, ◌≤◌, ◌≡◌, List, ◌++◌, length, take, Option, Some, None, Result, Ok, Err, ⊤}
use Rattle.std.specs.Io.KnownBytes.{Appends, Keeps, IsAtEnd, prepend_known, append_known}
use Rattle.octets.specs.Bytes.{part}
use Rattle.shape.specs.Call.{Front}
use Rattle.turns.specs.declared.Ended.{Ended}
use Rattle.turns.specs.declared.Ended.TheVariants.{Whole, Unread, Unwritten}
use Rattle.turns.specs.declared.stand.Stand.{Stand}
use Rattle.turns.specs.Turns.{Told, Answered}

-- what of the input isn't answered: the window from `at` up to `have`, and what the reader has left
abbrev pub unanswered : List ℕ → ℕ → ℕ → Option (List ℕ) → Option (List ℕ)
unanswered window at have left = prepend_known (part window at (have - at)) left

-- what is written, and the lines that wait
abbrev pub shown : Option (List ℕ) → List ℕ → ℕ → Option (List ℕ)
shown held out used = append_known held (take used out)

-- calls told of an input, where its bytes are known
abbrev pub ToldOf : (List ℕ → Front) → (ℕ → List ℕ → List ℕ) → Option (List ℕ) → ℕ → Option (List ℕ) → List ℕ → Type 0
ToldOf front text None place left lines = ⊤
ToldOf front text (Some input) place None lines = ⊥
ToldOf front text (Some input) place (Some left) lines = Told front text input place left lines

-- where a run stands that began with an input and what a writer held
pub record Stands (front : List ℕ → Front) (text : ℕ → List ℕ → List ℕ) (head : List ℕ) (input old : Option (List ℕ)) (place : ℕ) (left now : Option (List ℕ)) : Type 0 where
  pub lines : List ℕ
  pub told : ToldOf front text input place left lines
  pub held : Appends old now (head ++ lines)

-- the lines that waited were sent; else a write failed
abbrev pub Flushed : Option (List ℕ) → Option (List ℕ) → List ℕ → Result Unit Ended → Type 0
Flushed old new lines (Ok u) = Appends old new lines
Flushed old new lines (Err e) = e ≡ Unwritten

-- all lines were sent; else a write failed
abbrev pub LastSent : Option (List ℕ) → Option (List ℕ) → List ℕ → Ended → Type 0
LastSent old new lines Whole = Appends old new lines
LastSent old new lines Unread = ⊥
LastSent old new lines Unwritten = ⊤

-- a line stands behind those that wait, and there is room for the next; else a write failed
abbrev pub LineTold : Option (List ℕ) → Option (List ℕ) → List ℕ → List ℕ → Result ℕ Ended → Type 0
LineTold now held out line (Ok used) = (used ≤ 32768) × Appends now (shown held out used) line
LineTold now held out line (Err e) = e ≡ Unwritten

-- what was read behind bytes that aren't answered
abbrev pub ReadOn : {E : Type 0} → Option (List ℕ) → Option (List ℕ) → List ℕ → List ℕ → Result (Option ℕ) E → Type 0
ReadOn left rest kept window (Ok (Some have)) = (have ≤ 262144) × Keeps (prepend_known kept left) (prepend_known (take have window) rest)
ReadOn left rest kept window (Ok None) = Keeps left rest × (length kept < 262144 → IsAtEnd rest)
ReadOn left rest kept window (Err e) = Keeps left rest

-- the same behind lines that wait and were sent
abbrev pub SentAndRead : Option (List ℕ) → Option (List ℕ) → List ℕ → List ℕ → Option (List ℕ) → Option (List ℕ) → Result (Option ℕ) Ended → Type 0
SentAndRead left rest kept window now held (Err Unwritten) = ⊤
SentAndRead left rest kept window now held (Err Whole) = ⊥
SentAndRead left rest kept window now held r = Keeps now held × ReadOn left rest kept window r

-- a turn goes on from where a run stood, or ends it
abbrev pub Turned : (List ℕ → Front) → (ℕ → List ℕ → List ℕ) → ℕ → Option (List ℕ) → Option (List ℕ) → List ℕ → Option (List ℕ) → List ℕ → Option (List ℕ) → Result Stand Ended → Type 0
Turned front text place left now window rest out held (Ok s) =
    (head : List ℕ) (input old : Option (List ℕ)) → Stands front text head input old place left now
    → Stands front text head input old s.place (unanswered window s.at s.have rest) (shown held out s.used)
Turned front text place left now window rest out held (Err e) =
    (head : List ℕ) (input old : Option (List ℕ)) → Stands front text head input old place left now → Answered front text head input old held e
