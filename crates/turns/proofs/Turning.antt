-- What a turn leaves of where a run stands.
use Prim.Native.Nat.{ℕ, ◌+◌, ◌-◌, ◌≤◌, ◌<◌, min}
use mathlib.Core.Path.{◌≡◌, sym, ap, ◌∙◌, subst}
use mathlib.Core.List.{List, [], ◌++◌, append_assoc}
use native.Mathlib.Omega.{arith}
use native.Mathlib.Decide.{dec_le}
use lib.ListN.{length, take, drop, length-append, length-take, length-drop, drop_of_length-le}
use lib.Seq.{take_all, take-take, take-append-le, drop-append-le, drop-drop, length-take-le}
use Rattle.std.proofs.Common.{append-nil, lit<, Option, None, Some, Result, Ok, Err}
use Rattle.std.specs.Prelude.{⊤}
use Rattle.std.proofs.KnownBytes.{Appends-trans, Appends-kept, Keeps-refl, Keeps-trans}
use Rattle.std.proofs.lemmas.List.{drop-take}
use Rattle.std.specs.Io.KnownBytes.{Appends, Keeps, IsAtEnd, prepend_known, append_known}
use Rattle.octets.specs.Bytes.{part, Laid}
use Rattle.report.specs.Line.{cut_line, end_line}
use Rattle.shape.specs.declared.Fault.{Fault}
use Rattle.shape.specs.declared.Fault.TheVariants.{Short, Outside}
use Rattle.shape.specs.Call.{Front}
use Rattle.turns.specs.declared.stand.Stand.{Stand}
use Rattle.turns.specs.declared.Ended.{Ended}
use Rattle.turns.specs.declared.Ended.TheVariants.{Whole, Unread, Unwritten}
use Rattle.turns.specs.Turns.{line_of, Told, none, call, Last, ended, outside, short, whole, unread, Answered}
use Rattle.turns.specs.Inside.{shown, unanswered, ToldOf, Stands, LastSent, ReadOn, SentAndRead, Turned}
use Rattle.turns.proofs.Telling.{laid_up_to}

-- the last line of an input whose rest may not be known
abbrev pub LastOf : (List ℕ → Front) → ℕ → Option (List ℕ) → List ℕ → Type 0
LastOf front place None line = ⊤
LastOf front place (Some left) line = Last front place left line

-- bytes of which none are seen
pub seen : (now : Option (List ℕ)) (out : List ℕ) → Keeps now (shown now out 0)
seen None out = tt
seen (Some x) out = append-nil x

-- what is known of the calls of any program
abbrev pub Steady : (List ℕ → Front) → Type 0
Steady front = (input more : List ℕ) → (front input ≡ Err Short → ⊥) → front (input ++ more) ≡ front input

abbrev pub Fits : (List ℕ → Front) → Type 0
Fits front = (input : List ℕ) → front input ≡ Err Short → length input < 262144

abbrev pub Within : (List ℕ → Front) → Type 0
Within front = (input : List ℕ) (n : ℕ) → front input ≡ Ok n → n ≤ length input

no_call : {e : Fault} (n : ℕ) → ◌≡◌ {A = Front} (Ok n) (Err e) → ⊥
no_call n p = let z : ◌≡◌ {A = ℕ} 0 1 = cc in omega arith

module _ (front : List ℕ → Front) (text : ℕ → List ℕ → List ℕ) (head : List ℕ) where
  pub stands_first : (input old new : Option (List ℕ)) → Appends old new head → Stands front text head input old 0 (prepend_known [] input) (append_known new [])
  stands_first input old new h = record { lines = []; told = first input; held = behind old new h }
    where
      first : (input : Option (List ℕ)) → ToldOf front text input 0 (prepend_known [] input) []
      first None = tt
      first (Some bytes) = none

      behind : (old new : Option (List ℕ)) → Appends old new head → Appends old (append_known new []) (head ++ [])
      behind None new h = tt
      behind (Some x) None h = absurd h
      behind (Some x) (Some y) h = append-nil y ∙ h ∙ ap (λ (l : List ℕ). x ++ l) (sym (append-nil head))

  told_kept : (input left rest : Option (List ℕ)) (place : ℕ) (lines : List ℕ) → Keeps left rest → ToldOf front text input place left lines → ToldOf front text input place rest lines
  told_kept None left rest place lines k t = tt
  told_kept (Some bytes) None rest place lines k t = absurd t
  told_kept (Some bytes) (Some x) None place lines k t = absurd k
  told_kept (Some bytes) (Some x) (Some y) place lines k t = subst (λ (l : List ℕ). Told front text bytes place l lines) (sym k) t

  -- nothing was answered
  pub stands_kept : {input old left now : Option (List ℕ)} {place : ℕ} (rest new : Option (List ℕ)) → Keeps left rest → Keeps now new → Stands front text head input old place left now → Stands front text head input old place rest new
  stands_kept {input} {old} {left} {now} {place} rest new k l s =
      record { lines = s.lines; told = told_kept input left rest place s.lines k s.told; held = Appends-kept old now new (head ++ s.lines) s.held l }

  told_more : (steady : Steady front) (within : Within front) (input left : Option (List ℕ)) (window : List ℕ) (place n : ℕ) (lines : List ℕ) → front window ≡ Ok n → ToldOf front text input place (prepend_known window left) lines
      → ToldOf front text input (place + 1) (prepend_known (drop n window) left) (lines ++ line_of text place (take n window))
  told_more steady within None left window place n lines f t = tt
  told_more steady within (Some bytes) None window place n lines f t = absurd t
  told_more steady within (Some bytes) (Some x) window place n lines f t =
      let e = within window n f in
      rw (← drop-append-le n window x e, ← take-append-le n window x e) (call t (steady window x (λ p. no_call n (sym f ∙ p)) ∙ f))

  -- a call was answered
  pub stands_more : (steady : Steady front) (within : Within front) {input old now : Option (List ℕ)} (new left : Option (List ℕ)) (window : List ℕ) (place n : ℕ) → front window ≡ Ok n
      → Appends now new (line_of text place (take n window)) → Stands front text head input old place (prepend_known window left) now → Stands front text head input old (place + 1) (prepend_known (drop n window) left) new
  stands_more steady within {input} {old} {now} new left window place n f a s =
      record {
        lines = s.lines ++ line_of text place (take n window);
        told = told_more steady within input left window place n s.lines f s.told;
        held = subst (Appends old new) (append_assoc head s.lines _) (Appends-trans old now new (head ++ s.lines) _ s.held a);
      }

  whole_of : (input old left now held : Option (List ℕ)) (place : ℕ) (line lines : List ℕ) → LastOf front place left line → Appends now held line → ToldOf front text input place left lines → Appends old now (head ++ lines)
      → Answered front text head input old held Whole
  whole_of None old left now held place line lines l a t h = tt
  whole_of (Some bytes) old None now held place line lines l a t h = absurd t
  whole_of (Some bytes) old (Some x) now held place line lines l a t h = (head ++ lines ++ line, whole t l, Appends-trans old now held (head ++ lines) line h a)

  -- the last line was sent
  pub answered_whole : {input old left now : Option (List ℕ)} {place : ℕ} (held : Option (List ℕ)) (line : List ℕ) (r : Ended) → LastOf front place left line → LastSent now held line r → Stands front text head input old place left now
      → Answered front text head input old held r
  answered_whole {input} {old} {left} {now} {place} held line Whole l a s = whole_of input old left now held place line s.lines l a s.told s.held
  answered_whole held line Unread l a s = absurd a
  answered_whole held line Unwritten l a s = tt

  unread_of : (input old left held : Option (List ℕ)) (place : ℕ) (lines : List ℕ) → ToldOf front text input place left lines → Appends old held (head ++ lines) → Answered front text head input old held Unread
  unread_of None old left held place lines t h = tt
  unread_of (Some bytes) old None held place lines t h = absurd t
  unread_of (Some bytes) old (Some x) held place lines t h = (head ++ lines, unread t, h)

  -- nothing more could be read
  pub answered_unread : {input old left now : Option (List ℕ)} {place : ℕ} (held : Option (List ℕ)) → Keeps now held → Stands front text head input old place left now → Answered front text head input old held Unread
  answered_unread {input} {old} {left} {now} {place} held k s = unread_of input old left held place s.lines s.told (Appends-kept old now held (head ++ s.lines) s.held k)

-- ---- the last line
module _ (front : List ℕ → Front) (place : ℕ) (window : List ℕ) where
  pub last_outside : Steady front → (left : Option (List ℕ)) → front window ≡ Err Outside → LastOf front place (prepend_known window left) (cut_line place)
  last_outside steady None f = tt
  last_outside steady (Some x) f = outside (steady window x (λ p. cc) ∙ f)

  pub last_short : Fits front → (left rest : Option (List ℕ)) → front window ≡ Err Short → 0 < length window → Keeps left rest → (length window < 262144 → IsAtEnd rest) → LastOf front place (prepend_known window left) (cut_line place)
  last_short fits None rest f w k e = tt
  last_short fits (Some x) None f w k e = absurd k
  last_short fits (Some x) (Some y) f w k e =
      let all : window ++ x ≡ window = ap (λ (l : List ℕ). window ++ l) (sym k ∙ e (fits window f)) ∙ append-nil window in
      short (λ p. omega (arith, length-append window x, ap length p)) (rw all f)

  pub last_ended : (left rest : Option (List ℕ)) → window ≡ [] → Keeps left rest → IsAtEnd rest → LastOf front place (prepend_known window left) (end_line place)
  last_ended None rest w k e = tt
  last_ended (Some x) None w k e = absurd k
  last_ended (Some x) (Some y) w k e = let z : window ++ x ≡ [] = ap (λ (l : List ℕ). l ++ x) w ∙ sym k ∙ e in rw z ended

-- the lines that wait weren't sent, or nothing more could be read
pub turned_off : (front : List ℕ → Front) (text : ℕ → List ℕ → List ℕ) (place : ℕ) (asked : Option (List ℕ)) (window : List ℕ) (had : Option (List ℕ)) (out : List ℕ) (left rest : Option (List ℕ)) (kept read : List ℕ) (now held : Option (List ℕ)) (e : Ended) (r : Result Stand Ended)
    → SentAndRead left rest kept read now held (Err e) → r ≡ Err e → Turned front text place asked now window had out held r
turned_off front text place asked window had out left rest kept read now held e r sent same = rw same (go e sent)
  where
    go : (e : Ended) → SentAndRead left rest kept read now held (Err e) → Turned front text place asked now window had out held (Err e)
    go Whole sent = absurd sent
    go Unread sent = λ head input old s. answered_unread front text head held sent.0 s
    go Unwritten sent = λ head input old s. tt

-- nothing more came: the last line was sent
module _ (front : List ℕ → Front) (text : ℕ → List ℕ → List ℕ) (head : List ℕ) (place : ℕ) (left rest : Option (List ℕ)) (kept read : List ℕ) (now held last : Option (List ℕ)) (f : Option ℕ) (none : f ≡ None) (sent : SentAndRead left rest kept read now held (Ok f)) (r : Ended) where
  came : Keeps now held × (Keeps left rest × (length kept < 262144 → IsAtEnd rest))
  came = subst (λ (g : Option ℕ). Keeps now held × ReadOn {E = Ended} left rest kept read (Ok g)) none sent

  pub answered_cut : {input old : Option (List ℕ)} (out : List ℕ) → Fits front → front kept ≡ Err Short → 0 < length kept → LastSent (shown held out 0) last (cut_line place) r → Stands front text head input old place (prepend_known kept left) now
      → Answered front text head input old last r
  answered_cut out fits f k a s =
      answered_whole front text head last (cut_line place) r (last_short front place kept fits left rest f k came.1.0 came.1.1) a
      (stands_kept front text head _ (shown held out 0) (Keeps-refl (prepend_known kept left)) (Keeps-trans now held (shown held out 0) came.0 (seen held out)) s)

  pub answered_end : {input old : Option (List ℕ)} → kept ≡ [] → LastSent held last (end_line place) r → Stands front text head input old place (prepend_known kept left) now → Answered front text head input old last r
  answered_end k a s =
      answered_whole front text head last (end_line place) r (last_ended front place kept left rest k came.1.0 (came.1.1 (rw k (lit< tt)))) a
      (stands_kept front text head _ held (Keeps-refl (prepend_known kept left)) came.0 s)

-- ---- a call in a window
pub waiting_size : (window : List ℕ) (at have : ℕ) → at ≤ have → have ≤ length window → length (part window at (have - at)) ≡ have - at
waiting_size window at have o w = length-take-le (have - at) (drop at window) (omega (arith, length-drop at window))

call_in : (window : List ℕ) (at have n next : ℕ) → at ≤ have → next ≡ min (at + n) have → Dec (at + n ≤ have) → (part window next (have - next) ≡ drop n (part window at (have - at))) × (part window at (next - at) ≡ take n (part window at (have - at)))
call_in window at have n next o e (yes h) =
    let whole : have - at ≡ n + (have - next) = omega arith in
    let there : next ≡ at + n = omega arith in
    let long : next - at ≡ n = omega arith in (
      sym (ap (λ (k : ℕ). drop n (take k (drop at window))) whole ∙ drop-take n (have - next) (drop at window) ∙ ap (take (have - next)) (drop-drop n at window ∙ ap (λ (k : ℕ). drop k window) (sym there))),
      ap (λ (k : ℕ). take k (drop at window)) long ∙ sym (take-take n (have - at) (drop at window) (omega arith)),
    )
call_in window at have n next o e (no h) =
    let there : next ≡ have = omega arith in
    let none : have - next ≡ 0 = omega arith in
    let size : length (part window at (have - at)) ≤ n = omega (arith, length-take (have - at) (drop at window)) in (
      ap (λ (k : ℕ). take k (drop next window)) none ∙ sym (drop_of_length-le (part window at (have - at)) {i = n} size),
      ap (λ (k : ℕ). take (k - at) (drop at window)) there ∙ sym (take_all n (part window at (have - at)) size),
    )

pub answered_one : (front : List ℕ → Front) (steady : Steady front) (within : Within front) (text : ℕ → List ℕ → List ℕ) (head : List ℕ) {input old now : Option (List ℕ)} (new left : Option (List ℕ)) (window : List ℕ) (place at have n next after : ℕ) → at ≤ have → next ≡ min (at + n) have → after ≡ place + 1
    → front (part window at (have - at)) ≡ Ok n → Appends now new (line_of text place (part window at (next - at)))
    → Stands front text head input old place (unanswered window at have left) now → Stands front text head input old after (unanswered window next have left) new
answered_one front steady within text head {input} {old} {now} new left window place at have n next after o e a f line s =
    let both = call_in window at have n next o e (dec_le (at + n) have) in
    rw (a, both.0) (stands_more front text head steady within new left (part window at (have - at)) place n f (subst (λ (l : List ℕ). Appends now new (line_of text place l)) both.1 line) s)

-- the last line was laid behind those that waited, and all were sent
pub laid_last : {line after : List ℕ} {used end : ℕ} (now held : Option (List ℕ)) (r : Ended) (out : List ℕ) → Laid out used line after end → used ≤ 32768 → length out ≡ 65536 → length line ≤ 32768 → LastSent now held (part after 0 (end - 0)) r
    → LastSent (shown now out used) held line r
laid_last {line} {after} {used} {end} now held r out l u size b s = go r (subst (λ (sent : List ℕ). LastSent now held sent r) same s)
  where
    same : part after 0 (end - 0) ≡ take used out ++ line
    same =
        (let e : end - 0 ≡ end = omega arith in ap (λ (n : ℕ). take n after) e)
        ∙ laid_up_to l (omega (arith, size))
        ∙ ap (λ (t : List ℕ). take used out ++ t) (take_all (length out - used) line (omega (arith, size)))

    joined : (now held : Option (List ℕ)) (a : List ℕ) → Appends now held (a ++ line) → Appends (append_known now a) held line
    joined None held a h = tt
    joined (Some x) None a h = absurd h
    joined (Some x) (Some y) a h = h ∙ sym (append_assoc x a line)

    go : (r : Ended) → LastSent now held (take used out ++ line) r → LastSent (shown now out used) held line r
    go Whole h = joined now held (take used out) h
    go Unread h = h
    go Unwritten h = h

-- the same where none waited
pub laid_first : {line after : List ℕ} {end : ℕ} (now held : Option (List ℕ)) (r : Ended) (out : List ℕ) → Laid out 0 line after end → length out ≡ 65536 → length line ≤ 32768 → LastSent now held (part after 0 (end - 0)) r → LastSent now held line r
laid_first {line} {after} {end} now held r out l size b s = subst (λ (sent : List ℕ). LastSent now held sent r) same s
  where
    same : part after 0 (end - 0) ≡ line
    same =
        (let e : end - 0 ≡ end = omega arith in ap (λ (n : ℕ). take n after) e)
        ∙ laid_up_to l (omega (arith, size))
        ∙ take_all (length out - 0) line (omega (arith, size))
