-- What a lookup finds on an accepted page.
use mathlib.Core.Path.{◌≡◌, sym, ap, subst, ◌∙◌}
use mathlib.Core.Logic.{◌⊎◌, inl, inr, ⊎_elim}
use mathlib.Core.List.{List, Memᴰ as Among}
use Prim.Native.Nat.{ℕ, ◌≤◌, ◌<◌}
use native.Mathlib.Decide.{dec_lt}
use native.Mathlib.Omega.{arith}
use lib.ListN.{length, get_or}
use Rattle.std.specs.declared.cmp.Ordering.TheVariants.{Less, Equal, Greater}
use Rattle.error.specs.Answer.{check_class}
use Rattle.octets.specs.Bytes.{part}
use Rattle.octets.specs.Number.{u16_at}
use Rattle.octets.specs.Order.{order}
use Rattle.octets.proofs.OrderLaws.{order_same}
use Rattle.octets.proofs.Join.{part_length}
use Rattle.walk.specs.Entries.{Entry, Read}
use Rattle.walk.specs.Found.{found, nothing, lookup_in}
use Rattle.walk.proofs.Lists.{among_at, increasing_at}
use Rattle.walk.proofs.Found.{none, place, looked_last}
use Rattle.page.specs.Page.{decode_page}
use Rattle.pages.specs.Lookups.{NotAbove, IsLast, LookupFindsTheLast}
use Rattle.pages.proofs.Accept.{page_accepted_exactly}
use Rattle.pages.proofs.Agree.{seen}

-- what isn't above
not_less : (a b : List ℕ) → order a b ≡ Less → NotAbove a b
not_less a b e p = let z : ◌≡◌ {A = ℕ} 0 1 = cc in absurd (omega arith)

not_same : (a b : List ℕ) → a ≡ b → NotAbove a b
not_same a b e p =
    let s : order a b ≡ Equal = ap (order a) (sym e) ∙ order_same a in
    let z : ◌≡◌ {A = ℕ} 0 1 = cc in
    absurd (omega arith)

module _ (payload : List ℕ) (count : ℕ) (g : Read payload count) (small : length payload ≤ 65535) (key scratch : List ℕ) where
  abbrev at : ℕ → Entry
  at k = get_or g.entries k none

  -- the last by its index is the last
  others_below : (k : ℕ) → k < length g.entries → ((j : ℕ) → k < j → j < length g.entries → order (at j).key key ≡ Greater) → (j : ℕ) → j < length g.entries → NotAbove (at j).key key → NotAbove (at j).key (at k).key
  others_below k l above j m n = go (dec_lt k j) (dec_lt j k)
    where
      go : Dec (k < j) → Dec (j < k) → NotAbove (at j).key (at k).key
      go (yes p) q = absurd (n (above j p m))
      go (no p) (yes q) = not_less (at j).key (at k).key (increasing_at _ g.entries none g.increasing j k q l)
      go (no p) (no q) =
          let e : j ≡ k = omega arith in
          not_same (at j).key (at k).key (ap (λ (i : ℕ). (at i).key) e)

  abbrev FindsLast : Type 0
  FindsLast =
      ((last : Entry) × IsLast key g.entries last × (lookup_in payload count key scratch ≡ found last.key last.value))
      ⊎ ((lookup_in payload count key scratch ≡ nothing) × ((e : Entry) → Among e g.entries → order e.key key ≡ Greater))

  last_at : (k : ℕ) → k < length g.entries → NotAbove (at k).key key → ((j : ℕ) → k < j → j < length g.entries → order (at j).key key ≡ Greater) → IsLast key g.entries (at k)
  last_at k l n above = record {
    among = among_at g.entries k none l;
    not_above = n;
    others = λ e m o. others_among e (place g.entries e m) o;
  }
    where
      others_among : (e : Entry) → (j : ℕ) × (j < length g.entries) × (at j ≡ e) → NotAbove e.key key → NotAbove e.key (at k).key
      others_among e r = subst (λ (x : Entry). NotAbove x.key key → NotAbove x.key (at k).key) r.2 (others_below k l above r.0 r.1)

  all_above : ((j : ℕ) → j < length g.entries → order (at j).key key ≡ Greater) → (e : Entry) → Among e g.entries → order e.key key ≡ Greater
  all_above above e m =
      let r = place g.entries e m in
      ap (λ (x : Entry). order x.key key) (sym r.2) ∙ above r.0 r.1

  finds_last : FindsLast
  finds_last = ⊎_elim (λ h. inl (at h.0, last_at h.0 h.1.0 h.1.1 h.1.2, h.2)) (λ h. inr (h.0, all_above h.1)) (looked_last payload count g small key scratch)

pub lookup_finds_the_last : LookupFindsTheLast
lookup_finds_the_last reference uuid kind parent_generation expected_level blocks page view bytes holds views read key scratch =
    let accepted : check_class (decode_page reference uuid kind parent_generation expected_level blocks page.now) ≡ 0 = (page_accepted_exactly reference uuid kind parent_generation expected_level blocks page.now bytes).1 holds in
    let s = seen reference uuid kind parent_generation expected_level blocks page view (record { bytes = bytes; passed = accepted }) views in
    let long : length (part page.now 80 (u16_at page.now 34)) ≡ u16_at page.now 34 = part_length page.now 80 (u16_at page.now 34) (omega (arith, holds.caller.size, holds.header.payload_fits)) in
    rw (s.payload_is, s.count_is) (finds_last (part page.now 80 (u16_at page.now 34)) (u16_at page.now 32) read (omega (arith, long, holds.header.payload_fits)) key scratch)
