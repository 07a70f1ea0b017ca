-- A line on what failed, written in four pieces.
use Rattle.std.specs.Prelude.{ℕ, ◌++◌, ◌∷◌, [], List, OnOk, Result, Ok, Err, Option}
use Rattle.std.specs.Io.KnownBytes.{Appends}
use Rattle.std.proofs.KnownBytes.{Appends-trans}
use Rattle.stream.specs.Stream.{Says}

pub said : {X E : Type 0} (a b c d e : Option (List ℕ)) (r : Result X E) (what words : List ℕ) → Appends a b what → Appends b c (58 ∷ 32 ∷ []) → Appends c d words → OnOk r (Appends d e (10 ∷ [])) → OnOk r (Says a e what)
said a b c d e (Err _) what words p q s t = tt
said a b c d e (Ok _) what words p q s t = (words, Appends-trans a d e ((what ++ (58 ∷ 32 ∷ [])) ++ words) (10 ∷ []) (Appends-trans a c d (what ++ (58 ∷ 32 ∷ [])) words (Appends-trans a b c what (58 ∷ 32 ∷ []) p q) s) t)
