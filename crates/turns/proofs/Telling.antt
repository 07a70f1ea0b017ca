-- A line laid behind those that wait, and the room for the next.
use Prim.Native.Nat.{ℕ, ◌+◌, ◌-◌, ◌/◌, ◌≤◌, min}
use mathlib.Core.Path.{◌≡◌, refl, sym, ap, ◌∙◌, subst}
use mathlib.Core.Bool.{Bool, true, false}
use mathlib.Core.List.{List, [], ◌++◌, append_assoc}
use native.Mathlib.Omega.{arith}
use borrow.Author.Tests.{leb-true, leb-false}
use lib.Dec.{leb}
use lib.ListN.{length, take, drop, length-append, length-drop}
use lib.Seq.{sets, take-take, take-append-le, take-append_seam, length-take-le, length-sets}
use Rattle.std.proofs.Common.{append-nil, Option, None, Some}
use Rattle.std.proofs.lemmas.List.{take_min}
use Rattle.std.specs.Option.{ok_or}
use Rattle.std.specs.Io.KnownBytes.{Appends, Keeps, append_known}
use Rattle.octets.specs.Bytes.{Laid}
use Rattle.octets.proofs.Lay.{laid_front}
use Rattle.stream.specs.Stream.{StartsAt, MadeRoom}
use Rattle.turns.specs.declared.Ended.TheVariants.{Unwritten}
use Rattle.turns.specs.Inside.{shown, LineTold}

-- what is laid: the front of the buffer as it was, and as much of the text as there is room for
pub laid_up_to : {before text after : List ℕ} {at end : ℕ} → Laid before at text after end → at ≤ length before → take end after ≡ take at before ++ take (length before - at) text
laid_up_to {before} {text} {after} {at} {end} l h = rw (l.ends, l.stands) joined
  where
    n : ℕ
    n = min (length text) (length before - at)

    fronts : List ℕ
    fronts = take at before ++ take n text

    behind : List ℕ
    behind = drop n (drop at before)

    size : length fronts ≡ at + n
    size = length-append (take at before) (take n text) ∙ omega (arith, length-take-le at before h, length-take-le n text (omega arith))

    same : take n text ≡ take (length before - at) text
    same = let e : n ≡ min (length before - at) (length text) = omega arith in ap (λ (m : ℕ). take m text) e ∙ take_min (length before - at) text

    whole : sets before at text ≡ fronts ++ behind
    whole = sym (laid_front before text at n h refl).stands ∙ sym (append_assoc (take at before) (take n text) behind)

    joined : take (at + n) (sets before at text) ≡ take at before ++ take (length before - at) text
    joined = ap (take (at + n)) whole ∙ ap (λ (m : ℕ). take m (fronts ++ behind)) (sym size) ∙ take-append_seam fronts behind ∙ ap (λ (l : List ℕ). take at before ++ l) same

-- nothing was sent, and a line waits more
pub waits_more : (now new : Option (List ℕ)) (a l : List ℕ) → Keeps now new → Appends (append_known now a) (append_known new (a ++ l)) l
waits_more None new a l k = tt
waits_more (Some x) None a l k = absurd k
waits_more (Some x) (Some y) a l k = ap (λ (z : List ℕ). z ++ (a ++ l)) k ∙ sym (append_assoc x a l)

-- all that waited was sent
pub sent_all : (now new : Option (List ℕ)) (a l : List ℕ) → Appends now new (a ++ l) → Appends (append_known now a) (append_known new []) l
sent_all None new a l k = tt
sent_all (Some x) None a l k = absurd k
sent_all (Some x) (Some y) a l k = append-nil y ∙ k ∙ sym (append_assoc x a l)

module _ (now new : Option (List ℕ)) (waiting line after : List ℕ) (end : ℕ) (half : length after / 2 ≡ 32768) (laid : take end after ≡ waiting ++ line) where
  roomed : (r : Option ℕ) (t : Bool) → leb end 32768 ≡ t → StartsAt (length after) end r → MadeRoom now new after end r → LineTold (append_known now waiting) new after line (ok_or r Unwritten)
  roomed None t i s m = refl
  roomed (Some n) true i s m =
      let h = leb-true end 32768 i in
      let e : n ≡ end = s ∙ rw (half, i) in
      rw (e, laid) (h, waits_more now new waiting line (m.kept (omega (arith, half))))
  roomed (Some n) false i s m =
      let h = leb-false end 32768 i in
      let e : n ≡ 0 = s ∙ rw (half, i) in
      rw e (omega arith, sent_all now new waiting line (subst (Appends now new) laid (m.sent (omega (arith, half)))))

-- the line of a call, as long as it may be
pub line_told : {now new : Option (List ℕ)} {text part : List ℕ} {used end : ℕ} {r : Option ℕ} (out : List ℕ) → used ≤ 32768 → length out ≡ 65536 → Laid (take (used + 32768) out) used text part end
    → StartsAt (length (part ++ drop (used + 32768) out)) end r → MadeRoom now new (part ++ drop (used + 32768) out) end r
    → LineTold (shown now out used) new (part ++ drop (used + 32768) out) (take 32768 text) (ok_or r Unwritten)
line_told {now} {new} {text} {part} {used} {end} {r} out u size l s m = roomed now new (take used out) (take 32768 text) after end half laid r (leb end 32768) refl s m
  where
    after : List ℕ
    after = part ++ drop (used + 32768) out

    front : length (take (used + 32768) out) ≡ used + 32768
    front = length-take-le (used + 32768) out (omega (arith, size))

    kept : length part ≡ used + 32768
    kept = ap length l.stands ∙ length-sets (take (used + 32768) out) used text ∙ front

    half : length after / 2 ≡ 32768
    half = let e : length after ≡ 65536 = length-append part (drop (used + 32768) out) ∙ omega (arith, kept, length-drop (used + 32768) out, size) in rw e

    laid : take end after ≡ take used out ++ take 32768 text
    laid =
        take-append-le end part (drop (used + 32768) out) (omega (arith, l.ends, front, kept))
        ∙ laid_up_to l (omega (arith, front))
        ∙ (let k : length (take (used + 32768) out) - used ≡ 32768 = omega (arith, front) in rw (k, take-take used (used + 32768) out (omega arith)))
