-- What is known of reading and writing that can fail: which bytes a reader lost and a writer holds, where those are known at all. Whether
-- a call fails, no contract can say.
use Rattle.std.specs.Prelude.{ℕ, ◌+◌, ◌-◌, ◌/◌, ◌≤◌, ◌<◌, min, ◌≡◌, cond, List, eqb, leb, length, take, drop, ◌≢◌, IfSome, Result, Ok, Err, Option, Some, None, ⊤, ◌++◌, ◌∷◌, []}
use Rattle.std.specs.Io.KnownBytes.{Appends, Consumes, IsAtEnd, Keeps}

-- what a read behind the first `have` of `size` bytes means: without room, or with no byte, none came; else as many as it says, at most the room; a failure is one
unfoldable pub read_of : {E : Type 0} → ℕ → ℕ → Result ℕ E → Result (Option ℕ) E
read_of size have (Ok k) = cond (leb size have) (Ok None) (cond (eqb k 0) (Ok None) (Ok (Some (have + min k (size - have)))))
read_of size have (Err e) = cond (leb size have) (Ok None) (Err e)

-- bytes came behind those that were there, no more than there is room for, or none; a failure is told only where there was room
abbrev pub Came : {E : Type 0} → ℕ → ℕ → Result (Option ℕ) E → Type 0
Came size have (Ok (Some n)) = (have < n) × (n ≤ size)
Came size have (Ok None) = ⊤
Came size have (Err e) = have < size

-- a reader lost just the bytes that came behind the first `have`, none at a failure; where none came though there was room, it is at its end
abbrev pub Took : {E : Type 0} → Option (List ℕ) → Option (List ℕ) → ℕ → ℕ → List ℕ → Result (Option ℕ) E → Type 0
Took left rest size have after (Ok (Some n)) = Consumes left rest (drop have (take n after))
Took left rest size have after (Ok None) = Keeps left rest × (have < size → IsAtEnd rest)
Took left rest size have after (Err e) = Keeps left rest

-- a read behind the first `have` bytes of a lent buffer, which stay as they are, of a reader that had `left` before and has `rest` now
pub record ReadBehind {E : Type 0} (left rest : Option (List ℕ)) (before : List ℕ) (have : ℕ) (after : List ℕ) (r : Result (Option ℕ) E) : Type 0 where
  pub came : Came (length before) have r
  pub kept : take have after ≡ take have before
  pub size : length after ≡ length before
  pub taken : Took left rest (length before) have after r

-- a lent buffer that was to be filled: what came is just what the reader lost, it is at its end where a byte is missing; nothing fails where there is nothing to fill
pub record FilledBy {E : Type 0} (left rest : Option (List ℕ)) (before after : List ℕ) (r : Result ℕ E) : Type 0 where
  pub came : (n : ℕ) → r ≡ Ok n → n ≤ length before
  pub failed : (e : E) → r ≡ Err e → 0 < length before
  pub size : length after ≡ length before
  pub taken : (n : ℕ) → r ≡ Ok n → Consumes left rest (take n after)
  pub ended : (n : ℕ) → r ≡ Ok n → n < length before → IsAtEnd rest

-- what failed, a colon, some words and the line's end are written behind what a writer holds, where that is known
abbrev pub Says : Option (List ℕ) → Option (List ℕ) → List ℕ → Type 0
Says old new what = (words : List ℕ) × Appends old new (((what ++ (58 ∷ 32 ∷ [])) ++ words) ++ (10 ∷ []))

-- all of `out` is written behind what a writer holds, where that is known, unless that failed; sending nothing doesn't fail
abbrev pub Sent : Option (List ℕ) → Option (List ℕ) → List ℕ → Option Unit → Type 0
Sent old new out (Some tt) = Appends old new out
Sent old new out None = out ≢ []

-- the next line starts behind what is used, while that is within the first half of so many bytes; else at the front, or nowhere
abbrev pub StartsAt : ℕ → ℕ → Option ℕ → Type 0
StartsAt size used (Some n) = n ≡ cond (leb used (size / 2)) used 0
StartsAt size used None = size / 2 < used

-- nothing was sent while what is used is within the first half of `out`; else all that is used, as far as `out` goes, unless that failed
pub record MadeRoom (old new : Option (List ℕ)) (out : List ℕ) (used : ℕ) (r : Option ℕ) : Type 0 where
  pub kept : used ≤ length out / 2 → Keeps old new
  pub sent : length out / 2 < used → IfSome r (λ _. Appends old new (take used out))
