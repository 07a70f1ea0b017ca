-- What a reader lost by a read behind some bytes, and by several.
use mathlib.Core.Path.{◌≡◌, sym, ap, subst, ◌∙◌}
use mathlib.Core.List.{List, [], ◌++◌}
use Prim.Native.Nat.{ℕ, zero, suc, ◌+◌, ◌-◌, ◌≤◌, ◌<◌, min}
use native.Mathlib.Omega.{arith}
use borrow.Author.Tests.{lt-leb, ne_eqb}
use borrow.Rule.Slice.PartMut.{put_mid}
use lib.ListN.{length, take, drop, take-append-drop}
use lib.Seq.{drop_at, take-append-le, take-take, length-take-le}
use Rattle.std.proofs.Common.{refl, Option, None, Some, Result, Ok, Err}
use Rattle.std.proofs.KnownBytes.{Consumes-trans}
use Rattle.std.proofs.lemmas.List.{drop-take}
use Rattle.std.specs.Io.{ReadsAtMost}
use Rattle.std.specs.Io.KnownBytes.{Consumes, Keeps, ReadConsumes}
use Rattle.stream.specs.Stream.{read_of, Took}

-- to lose no byte is to stay as it was
lost_none : (left rest : Option (List ℕ)) → Consumes left rest [] → Keeps left rest
lost_none None rest p = tt
lost_none (Some xs) None p = absurd p
lost_none (Some xs) (Some ys) p = sym p

-- the first m bytes that a part has now stand behind those before it
came_behind : (have k m : ℕ) (xs ys : List ℕ) → have ≤ length xs → m ≤ length ys → drop have (take (have + m) (put_mid have k xs ys)) ≡ take m ys
came_behind have k m xs ys p q = drop-take have m _ ∙ ap (take m) (drop_at (take have xs) _ have (length-take-le have xs p)) ∙ take-append-le m ys _ q

took : {E : Type 0} (left rest : Option (List ℕ)) (got : Result ℕ E) (have : ℕ) (before part : List ℕ)
    → have < length before → length part ≡ length before - have → ReadsAtMost got part → ReadConsumes left rest got part
    → Took left rest (length before) have (put_mid have (length before - have) before part) (read_of (length before) have got)
unfolding read_of
took left rest (Err e) have before part h l bound bytes = rw (lt-leb _ _ h) bytes
took left rest (Ok zero) have before part h l bound bytes = rw (lt-leb _ _ h) (lost_none left rest bytes.0, λ _. bytes.1 refl (omega arith))
took left rest (Ok (suc k)) have before part h l bound bytes =
    let all : min (suc k) (length before - have) ≡ suc k = omega arith in
    rw (lt-leb _ _ h, ne_eqb (suc k) 0 (λ e. omega arith), all) (subst (Consumes left rest) (sym (came_behind have _ (suc k) before part (omega arith) bound.0)) bytes.0)

pub took_of : {E : Type 0} (left rest : Option (List ℕ)) (got : Result ℕ E) (have : ℕ) (before part : List ℕ) (r : Result (Option ℕ) E)
    → have < length before → length part ≡ length before - have → ReadsAtMost got part → ReadConsumes left rest got part → r ≡ read_of (length before) have got
    → Took left rest (length before) have (put_mid have (length before - have) before part) r
took_of left rest got have before part r h l bound bytes e = subst (Took left rest (length before) have _) (sym e) (took left rest got have before part h l bound bytes)

-- what was lost before and what was lost behind it is what stands at the front now
pub took_more : (a b c : Option (List ℕ)) (have n : ℕ) (before after : List ℕ) → take have after ≡ take have before → have ≤ n
    → Consumes a b (take have before) → Consumes b c (drop have (take n after)) → Consumes a c (take n after)
took_more a b c have n before after e h p q =
    subst (Consumes a c) (ap (λ l. l ++ drop have (take n after)) (sym e ∙ sym (take-take have n after h)) ∙ take-append-drop have (take n after))
    (Consumes-trans a b c (take have before) (drop have (take n after)) p q)
