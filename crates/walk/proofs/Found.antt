-- What a lookup finds in entries laid end to end, whatever the scratch.
use mathlib.Core.Path.{◌≡◌, refl, sym, ap, ap₂, subst, ◌∙◌}
use mathlib.Core.Bool.{true, false, true≢false}
use mathlib.Core.Logic.{◌⊎◌, inl, inr}
use mathlib.Core.List.Memᴰ
use mathlib.Core.List.Memᴰ.{head as here}
use mathlib.Core.List.Memᴰ.{not-nil as no_member}
use mathlib.Core.List.Memᴰ.{tail as later}
use mathlib.Core.List.{List, [], ◌∷◌, ◌++◌, flat_map, Memᴰ as Among}
use Prim.Native.Nat.{ℕ, zero, suc, ◌+◌, ◌-◌, ◌≤◌, ◌<◌}
use native.Mathlib.Decide.{dec_lt}
use native.Mathlib.Omega.{arith}
use lib.ListN.{length, drop, get_or}
use lib.Seq.{drop-cons, drop-drop}
use Rattle.octets.specs.Bytes.{Bytes}
use Rattle.octets.specs.Order.{order, is_greater}
use Rattle.std.specs.declared.cmp.Ordering.TheVariants.{Greater}
use Rattle.lookup.specs.Record.{split_record, is_record, size_of, key_of, value_of}
use Rattle.lookup.specs.Floor.{floor_at, answer_of, next_record}
use Rattle.lookup.specs.Sorted.{offset_of, key_at, Sorted, key_above, IsFloor}
use Rattle.lookup.specs.declared.Floor.{Floor}
use Rattle.std.specs.Prelude.{Option, Some, None}
use Rattle.walk.specs.Entries.{Entry, stored, end_to_end, Increasing, Fit, Read}
use Rattle.walk.specs.Found.{Finding, found, nothing, first_of, answer_found, lookup_in}
use Rattle.lookup.proofs.SortedLaws.{answers_same, floor_answers}
use Rattle.octets.proofs.OrderLaws.{order_same, order_flip, greater_of}
use Rattle.walk.proofs.Lists.{among_at, increasing_at, Inside, same_entries}
use Rattle.walk.proofs.Stored.{split_stored, key_stored, value_stored, after_stored, first_stored}

abbrev pub none : Entry
none = record { key = []; value = [] }

-- the record found, by a lookup's answer
abbrev result : List Entry → Option Floor → Finding
result es f = answer_found (end_to_end es) (answer_of (length (end_to_end es)) (length es) f)

module _ (es : List Entry) (fit : (e : Entry) → Among e es → Fit e) where
  pub small_at : (k : ℕ) → k < length es → 4 + length (get_or es k none).key + length (get_or es k none).value ≤ 3072
  small_at k l = (fit (get_or es k none) (among_at es k none l)).size

  drop_laid : (k : ℕ) → k ≤ length es → drop (offset_of (end_to_end es) k) (end_to_end es) ≡ end_to_end (drop k es)
  unfolding offset_of flat_map
  drop_laid zero l = refl
  drop_laid (suc k) l =
      let e : Entry = get_or es k none in
      let r : List ℕ = end_to_end (drop (suc k) es) in
      let o : ℕ = offset_of (end_to_end es) k in
      let here : drop o (end_to_end es) ≡ stored e ++ r = drop_laid k (omega arith) ∙ ap end_to_end (drop-cons es k none l) in
      let z : size_of (split_record (drop o (end_to_end es))) ≡ 4 + length e.key + length e.value = ap (λ (s : List ℕ). size_of (split_record s)) here ∙ ap size_of (split_stored e r (small_at k l)) in
      ap (λ (n : ℕ). drop (o + n) (end_to_end es)) z ∙ sym (drop-drop (4 + length e.key + length e.value) o (end_to_end es)) ∙ ap (drop (4 + length e.key + length e.value)) here ∙ after_stored e r

  -- record k is entry k
  pub at_laid : (k : ℕ) → k < length es → drop (offset_of (end_to_end es) k) (end_to_end es) ≡ stored (get_or es k none) ++ end_to_end (drop (suc k) es)
  unfolding flat_map
  at_laid k l = drop_laid k (omega arith) ∙ ap end_to_end (drop-cons es k none l)

  pub key_at_lem : (k : ℕ) → k < length es → key_at (end_to_end es) k ≡ (get_or es k none).key
  key_at_lem k l = ap key_of (at_laid k l) ∙ key_stored (get_or es k none) (end_to_end (drop (suc k) es)) (small_at k l)

  pub value_at_lem : (k : ℕ) → k < length es → value_of (drop (offset_of (end_to_end es) k) (end_to_end es)) ≡ (get_or es k none).value
  value_at_lem k l = ap value_of (at_laid k l) ∙ value_stored (get_or es k none) (end_to_end (drop (suc k) es)) (small_at k l)

  pub laid_sorted : Increasing [] es → Sorted (end_to_end es) (length es)
  laid_sorted inc = record {
    whole = λ k l. ap (λ (s : List ℕ). is_record (split_record s)) (at_laid k l) ∙ ap is_record (split_stored (get_or es k none) (end_to_end (drop (suc k) es)) (small_at k l));
    increasing = λ i j l m. ap₂ order (key_at_lem i (omega arith)) (key_at_lem j m) ∙ increasing_at [] es none inc i j l m;
  }

  result_at : (i o : ℕ) → i < length es → o ≡ offset_of (end_to_end es) i → result es (Some (record { index = i; offset = o })) ≡ found (get_or es i none).key (get_or es i none).value
  result_at i o l e =
      ap (λ (n : ℕ). first_of (drop n (end_to_end es)) (length es - i)) e
      ∙ ap (λ (s : List ℕ). first_of s (length es - i)) (at_laid i l)
      ∙ first_stored (get_or es i none) (end_to_end (drop (suc i) es)) (small_at i l) (length es - i) (omega arith)

  -- what is found is an entry
  found_among : (key : List ℕ) (f : Option Floor) → IsFloor (end_to_end es) (length es) key f → (x : Entry) → result es f ≡ found x.key x.value → Among x es
  unfolding next_record
  found_among key (Some f) a x e =
      let h : found (get_or es f.index none).key (get_or es f.index none).value ≡ found x.key x.value = sym (result_at f.index f.offset a.0 a.1) ∙ e in
      let k : (get_or es f.index none).key ≡ x.key = cc in
      let v : (get_or es f.index none).value ≡ x.value = cc in
      let p : get_or es f.index none ≡ x = ap₂ (λ (k v : List ℕ). entry k v) k v in
      Memᴰ.cast (sym p) (among_at es f.index none a.0)
    where
      entry : List ℕ → List ℕ → Entry
      entry k v = record { key = k; value = v }
  found_among key None a x e = absurd cc

  -- the lookup of an entry's key finds the entry
  module _ (inc : Increasing [] es) (k : ℕ) (l : k < length es) where
    abbrev sought : List ℕ
    sought = (get_or es k none).key

    not_above : key_above (end_to_end es) sought k ≡ false
    not_above = ap (λ (x : List ℕ). is_greater (order x sought)) (key_at_lem k l) ∙ ap is_greater (order_same sought)

    above_later : (i : ℕ) → k < i → i < length es → key_above (end_to_end es) sought i ≡ true
    above_later i m n =
        ap (λ (x : List ℕ). is_greater (order x sought)) (key_at_lem i n) ∙ ap is_greater (order_flip sought (get_or es i none).key (increasing_at [] es none inc k i m n))

    at_found : (f : Option Floor) → IsFloor (end_to_end es) (length es) sought f → result es f ≡ found sought (get_or es k none).value
    at_found (Some f) a = go (dec_lt f.index k) (dec_lt k f.index)
      where
        go : Dec (f.index < k) → Dec (k < f.index) → result es (Some f) ≡ found sought (get_or es k none).value
        go (yes m) n = absurd (true≢false (sym (a.3 k m l) ∙ not_above))
        go (no m) (yes n) = absurd (true≢false (sym (above_later f.index n a.0) ∙ a.2))
        go (no m) (no n) =
            let e : f.index ≡ k = omega arith in
            result_at f.index f.offset a.0 a.1 ∙ ap (λ (j : ℕ). found (get_or es j none).key (get_or es j none).value) e
    at_found None a = absurd (true≢false (sym (a k l) ∙ not_above))

-- the place of a member
pub place : (es : List Entry) (x : Entry) → Among x es → (k : ℕ) × (k < length es) × (get_or es k none ≡ x)
place [] x m = absurd (no_member m)
place (e ∷ es) x (here p) = (0, omega arith, sym p)
place (e ∷ es) x (later m) =
    let r = place es x m in
    (suc r.0, omega (arith, r.1), r.2)

member_found : (es : List Entry) → ((e : Entry) → Among e es → Fit e) → Increasing [] es → (x : Entry) → Among x es → (f : Option Floor) → IsFloor (end_to_end es) (length es) x.key f → result es f ≡ found x.key x.value
member_found es fit inc x m f a =
    let r = place es x m in
    let b : IsFloor (end_to_end es) (length es) (get_or es r.0 none).key f = subst (λ (y : Entry). IsFloor (end_to_end es) (length es) y.key f) (sym r.2) a in
    at_found es fit inc r.0 r.1 f b ∙ ap (λ (y : Entry). found y.key y.value) r.2

-- ---- lookups in a payload that an accepted walk read
module _ (payload : List ℕ) (count : ℕ) (g : Read payload count) (small : length payload ≤ 65535) where
  abbrev entries : List Entry
  entries = g.entries

  abbrev floor : List ℕ → ℕ → Option Floor
  floor key n = floor_at (end_to_end entries) (length entries) key n

  answers : (key : List ℕ) (n : ℕ) → IsFloor (end_to_end entries) (length entries) key (floor key n)
  answers key n = floor_answers (end_to_end entries) key (length entries) (laid_sorted entries g.fit g.increasing) n (omega (arith, ap length g.are))

  lookup_is : (key scratch : List ℕ) → lookup_in payload count key scratch ≡ result entries (floor key (length scratch))
  lookup_is key scratch =
      ap₂ (λ (s : List ℕ) (n : ℕ). answer_found s (answer_of (length s) n (floor_at s n key (length scratch)))) (sym g.are) (sym g.many)

  -- the scratch doesn't matter
  pub scratch_free : (key s t : List ℕ) → lookup_in payload count key s ≡ lookup_in payload count key t
  scratch_free key s t =
      lookup_is key s
      ∙ ap (result entries) (answers_same (end_to_end entries) (length entries) key (floor key (length s)) (floor key (length t)) (answers key (length s)) (answers key (length t)))
      ∙ sym (lookup_is key t)

  -- an entry is what the lookup of its key finds, and only an entry is
  member_looked : (x : Entry) → Among x entries → (s : List ℕ) → lookup_in payload count x.key s ≡ found x.key x.value
  member_looked x m s = lookup_is x.key s ∙ member_found entries g.fit g.increasing x m (floor x.key (length s)) (answers x.key (length s))

  looked_member : (x : Entry) (s : List ℕ) → lookup_in payload count x.key s ≡ found x.key x.value → Among x entries
  looked_member x s e = found_among entries g.fit x.key (floor x.key (length s)) (answers x.key (length s)) x (sym (lookup_is x.key s) ∙ e)

  -- entry k is the last whose key isn't above a sought one
  abbrev LastAt : List ℕ → ℕ → Type 0
  LastAt key k = (k < length entries) × (order (get_or entries k none).key key ≡ Greater → ⊥) × ((j : ℕ) → k < j → j < length entries → order (get_or entries j none).key key ≡ Greater)

  -- every entry's key is above it
  abbrev AllAbove : List ℕ → Type 0
  AllAbove key = (j : ℕ) → j < length entries → order (get_or entries j none).key key ≡ Greater

  above_at : (key : List ℕ) (j : ℕ) → j < length entries → key_above (end_to_end entries) key j ≡ is_greater (order (get_or entries j none).key key)
  above_at key j l = ap (λ (x : List ℕ). is_greater (order x key)) (key_at_lem entries g.fit j l)

  above_entry : (key : List ℕ) (j : ℕ) → j < length entries → key_above (end_to_end entries) key j ≡ true → order (get_or entries j none).key key ≡ Greater
  above_entry key j l e = greater_of (order (get_or entries j none).key key) (sym (above_at key j l) ∙ e)

  -- a lookup finds the one, or nothing where the other holds
  pub looked_last : (key s : List ℕ)
      → ((k : ℕ) × LastAt key k × (lookup_in payload count key s ≡ found (get_or entries k none).key (get_or entries k none).value)) ⊎ ((lookup_in payload count key s ≡ nothing) × AllAbove key)
  looked_last key s = go (floor key (length s)) (answers key (length s)) (lookup_is key s)
    where
      go : (f : Option Floor) → IsFloor (end_to_end entries) (length entries) key f → lookup_in payload count key s ≡ result entries f
          → ((k : ℕ) × LastAt key k × (lookup_in payload count key s ≡ found (get_or entries k none).key (get_or entries k none).value)) ⊎ ((lookup_in payload count key s ≡ nothing) × AllAbove key)
      go (Some f) a e =
          let p : is_greater (order (get_or entries f.index none).key key) ≡ false = sym (above_at key f.index a.0) ∙ a.2 in
          inl
          (f.index, (a.0, λ q. absurd (true≢false (sym (ap is_greater q) ∙ p)), λ j l m. above_entry key j m (a.3 j l m)), e ∙ result_at entries g.fit f.index f.offset a.0 a.1)
      go None a e = inr (e, λ j l. above_entry key j l (a j l))

-- ---- two payloads in which the lookups find the same, whatever byte string is sought, are the same; the scratch is chosen for each payload and each key
abbrev SameFound : List ℕ → ℕ → (List ℕ → List ℕ) → List ℕ → ℕ → (List ℕ → List ℕ) → Type 0
SameFound p m s q n t = (key : List ℕ) → Bytes key → lookup_in p m key (s key) ≡ lookup_in q n key (t key)

inside : (p q : List ℕ) (m n : ℕ) (g : Read p m) (h : Read q n) → length p ≤ 65535 → length q ≤ 65535 → (s t : List ℕ → List ℕ) → SameFound p m s q n t → Inside g.entries h.entries
inside p q m n g h small-p small-q s t same x among =
    looked_member q n h small-q x (t x.key) (sym (same x.key (g.fit x among).key_bytes) ∙ member_looked p m g small-p x among (s x.key))

pub runs_agree : (p q : List ℕ) (m n : ℕ) → Read p m → Read q n → length p ≤ 65535 → length q ≤ 65535 → (s t : List ℕ → List ℕ) → SameFound p m s q n t → (m ≡ n) × (p ≡ q)
runs_agree p q m n g h small-p small-q s t same =
    let e : g.entries ≡ h.entries =
    same_entries [] [] g.entries h.entries g.increasing h.increasing
    (inside p q m n g h small-p small-q s t same) (inside q p n m h g small-q small-p t s (λ key b. sym (same key b))) in
    (sym g.many ∙ ap length e ∙ h.many, sym g.are ∙ ap end_to_end e ∙ h.are)
