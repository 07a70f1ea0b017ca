-- What an accepted page's bytes are: each is a field, a constant, zero, a record's, or the checksum of the rest.
use mathlib.Core.Path.{◌≡◌, refl, sym, ap, ap₂, ◌∙◌}
use mathlib.Core.Logic.{◌⊎◌, inl, inr}
use mathlib.Core.Bool.{cond}
use mathlib.Core.List.{List, ◌++◌}
use Prim.Native.Nat.{ℕ, ◌+◌, ◌-◌, ◌≤◌, ◌<◌, min}
use native.Mathlib.Omega.{arith}
use borrow.Author.Tests.{ne_eqb, eq-eqb}
use lib.Dec.{eqb}
use lib.ListN.{length, take, drop, replicate, take-append-drop}
use lib.Seq.{drop-drop}
use Rattle.std.specs.Prelude.{Option}
use Rattle.octets.proofs.Parts.{grow}
use Rattle.octets.specs.Bytes.{byte_at, part, Bytes}
use Rattle.octets.specs.Number.{field}
use Rattle.octets.proofs.Join.{field_one}
use Rattle.octets.proofs.Digits.{field_same}
use Rattle.crc.specs.Crc.{crc32c, zeroed, crc32c_with_zero}
use Rattle.crc.proofs.Parts.{parts, zeroed_parts}
use Rattle.volume.specs.declared.TreeRef.{TreeRef}
use Rattle.volume.specs.declared.TreeKind.{TreeKind}
use Rattle.walk.specs.Entries.{Read}
use Rattle.page.specs.Header.{page_kind, level, total, count, payload_length}
use Rattle.pages.specs.Accept.{PageHolds}
use Rattle.pages.proofs.Accept.{byte_kind}

-- the page kind follows from the level
kind_of_level : (k l : ℕ) → (k ≡ 1) × (l ≡ 0) ⊎ (k ≡ 2) × (1 ≤ l) × (l ≤ 7) → k ≡ cond (eqb l 0) 1 2
kind_of_level k l (inl e) = rw (eq-eqb l 0 e.1) e.0
kind_of_level k l (inr e) = rw (ne_eqb l 0 (omega (arith, e.1))) e.0

-- the bytes with the checksum's four read as zeros
zeroed_page : (p : List ℕ) → length p ≡ 4096 → zeroed 64 68 p ≡ take 64 p ++ (replicate 4 0 ++ drop 68 p)
zeroed_page p e = zeroed_parts 64 68 p ∙ ap (λ (n : ℕ). parts (min 64 (min 68 n)) (min 68 n) p) e

-- a page that is accepted for a reference, a UUID and a tree kind, whatever the other arguments
pub record Good (reference : TreeRef) (uuid : List ℕ) (kind : TreeKind) (page : List ℕ) : Type 0 where
  pub bytes : Bytes page
  pub parent_generation : ℕ
  pub expected_level : Option ℕ
  pub blocks : ℕ
  pub holds : PageHolds reference uuid kind parent_generation expected_level blocks page
  pub reads : Read (part page 80 (payload_length page)) (count page)

-- two such pages with the same level, total, count and payload
module _ (reference : TreeRef) (uuid : List ℕ) (kind : TreeKind) (p q : List ℕ) (g : Good reference uuid kind p) (h : Good reference uuid kind q)
    (level_is : level p ≡ level q) (total_is : total p ≡ total q) (count_is : count p ≡ count q)
    (payload_is : payload_length p ≡ payload_length q) (held : part p 80 (payload_length p) ≡ part q 80 (payload_length q)) where
  size_p : length p ≡ 4096
  size_p = g.holds.caller.size

  size_q : length q ≡ 4096
  size_q = h.holds.caller.size

  kind_p : page_kind p ≡ cond (eqb (level p) 0) 1 2
  kind_p = kind_of_level (page_kind p) (level p) g.holds.header.level.kind

  kind_q : page_kind q ≡ cond (eqb (level q) 0) 1 2
  kind_q = kind_of_level (page_kind q) (level q) h.holds.header.level.kind

  -- a field's bytes follow from its number
  number : (o w : ℕ) → o + w ≤ 4096 → field p o w ≡ field q o w → part p o w ≡ part q o w
  number o w l e = field_same p q o w g.bytes h.bytes (omega (arith, size_p)) (omega (arith, size_q)) e

  byte : (o : ℕ) → o < 4096 → byte_at p o ≡ byte_at q o → part p o 1 ≡ part q o 1
  byte o l e = number o 1 (omega arith) (field_one p o (omega (arith, size_p)) ∙ e ∙ sym (field_one q o (omega (arith, size_q))))

  front : take 64 p ≡ take 64 q
  front =
      let a = g.holds.header in
      let b = h.holds.header in
      let s8 = grow p q 0 8 refl (a.magic_is ∙ sym b.magic_is) in
      let s10 = grow p q 8 2 s8 (number 8 2 (omega arith) (a.revision ∙ sym b.revision)) in
      let s12 = grow p q 10 2 s10 (number 10 2 (omega arith) (a.flags ∙ sym b.flags)) in
      let s13 = grow p q 12 1 s12 (byte 12 (omega arith) (kind_p ∙ ap (λ (l : ℕ). cond (eqb l 0) 1 2) level_is ∙ sym kind_q)) in
      let s14 = grow p q 13 1 s13 (byte 13 (omega arith) (byte_kind kind (byte_at p 13) a.tree_kind ∙ sym (byte_kind kind (byte_at q 13) b.tree_kind))) in
      let s15 = grow p q 14 1 s14 (byte 14 (omega arith) level_is) in
      let s16 = grow p q 15 1 s15 (byte 15 (omega arith) (a.zero_15 ∙ sym b.zero_15)) in
      let s24 = grow p q 16 8 s16 (number 16 8 (omega arith) (a.block ∙ sym b.block)) in
      let s32 = grow p q 24 8 s24 (number 24 8 (omega arith) (a.generation ∙ sym b.generation)) in
      let s34 = grow p q 32 2 s32 (number 32 2 (omega arith) count_is) in
      let s36 = grow p q 34 2 s34 (number 34 2 (omega arith) payload_is) in
      let s40 = grow p q 36 4 s36 (a.zero_36 ∙ sym b.zero_36) in
      let s56 = grow p q 40 16 s40 (a.uuid_is ∙ sym b.uuid_is) in
      grow p q 56 8 s56 (number 56 8 (omega arith) total_is)

  padding_same : drop (80 + payload_length p) p ≡ drop (80 + payload_length q) q
  padding_same = g.holds.content.padding ∙ ap (λ (n : ℕ). replicate (4016 - n) 0) payload_is ∙ sym h.holds.content.padding

  split_payload : (x : List ℕ) → drop 80 x ≡ part x 80 (payload_length x) ++ drop (80 + payload_length x) x
  split_payload x = sym (ap (λ (l : List ℕ). part x 80 (payload_length x) ++ l) (sym (drop-drop (payload_length x) 80 x)) ∙ take-append-drop (payload_length x) (drop 80 x))

  from_80 : drop 80 p ≡ drop 80 q
  from_80 = split_payload p ∙ ap₂ ◌++◌ held padding_same ∙ sym (split_payload q)

  split_68 : (x : List ℕ) → drop 68 x ≡ part x 68 12 ++ drop 80 x
  split_68 x = sym (ap (λ (l : List ℕ). part x 68 12 ++ l) (sym (drop-drop 12 68 x)) ∙ take-append-drop 12 (drop 68 x))

  from_68 : drop 68 p ≡ drop 68 q
  from_68 = split_68 p ∙ ap₂ ◌++◌ (g.holds.header.zero_68 ∙ sym h.holds.header.zero_68) from_80 ∙ sym (split_68 q)

  checksum_same : crc32c_with_zero p 64 68 ≡ crc32c_with_zero q 64 68
  unfolding crc32c_with_zero
  checksum_same = ap crc32c (zeroed_page p size_p ∙ ap₂ (λ (a b : List ℕ). a ++ (replicate 4 0 ++ b)) front from_68 ∙ sym (zeroed_page q size_q))

  pub page_same : p ≡ q
  page_same =
      let s68 : take 68 p ≡ take 68 q = grow p q 64 4 front (number 64 4 (omega arith) (g.holds.header.checksum ∙ checksum_same ∙ sym h.holds.header.checksum)) in
      sym (take-append-drop 68 p) ∙ ap₂ ◌++◌ s68 from_68 ∙ take-append-drop 68 q
