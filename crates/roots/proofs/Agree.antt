-- Demand 3 for roots: every byte of an accepted root is a field, a constant, the slot, zero, or the checksum of the rest.
use mathlib.Core.Path.{◌≡◌, refl, sym, ap, ap₂, subst, ◌∙◌}
use mathlib.Core.Bool.{Bool, true, false, not, cond}
use mathlib.Core.List.{List, ◌++◌}
use Prim.Native.Nat.{ℕ, ◌+◌, ◌-◌, ◌≤◌, min}
use native.Mathlib.Omega.{arith}
use borrow.Author.Tests.{eqb-true, not-false}
use lib.Dec.{eqb}
use lib.ListN.{length, take, drop, replicate, drop_of_length-le}
use lib.Seq.{take_all, take_at}
use Rattle.std.specs.Prelude.{Option, Some, None}
use Rattle.octets.proofs.Parts.{grow}
use Rattle.octets.specs.Bytes.{part, Bytes}
use Rattle.octets.specs.Number.{field, u64_at}
use Rattle.octets.proofs.Join.{part_length}
use Rattle.octets.proofs.Digits.{field_same}
use Rattle.crc.specs.Crc.{crc32c, zeroed, crc32c_with_zero}
use Rattle.crc.proofs.Parts.{parts, zeroed_parts}
use Rattle.volume.specs.declared.TreeRef.{TreeRef}
use Rattle.root.specs.declared.Label.{Label}
use Rattle.root.specs.declared.Root.{Root}
use Rattle.root.specs.Label.{label_of, text_of}
use Rattle.volume.specs.References.{ref_at}
use Rattle.root.specs.Root.{label_length, has_label, label_text, label_in, root_of}
use Rattle.roots.specs.Accept.{RootHolds}
use Rattle.roots.specs.Agree.{LabelsAgree, FieldsAgree, RootsAgree}
use Rattle.roots.proofs.Accept.{root_exactly}

-- ---- labels

-- a label's text is what it was made of
text_of_lem : (t : List ℕ) → length t ≤ 255 → text_of (label_of t) ≡ t
unfolding label_of
text_of_lem t h = ap (λ (l : List ℕ). take (length t) (l ++ replicate (255 - length t) 0)) (take_all 255 t h) ∙ take_at t (replicate (255 - length t) 0) (length t) refl

len_of : (t : List ℕ) → (label_of t).len ≡ length t
unfolding label_of
len_of t = refl

-- there is a label, or there is none and its length is 0
none_zero : (n : ℕ) → not (eqb n 0) ≡ false → n ≡ 0
none_zero n e = eqb-true n 0 (not-false (eqb n 0) e)

-- ---- bytes, from the front

-- the bytes with the checksum's four read as zeros
zeroed_root : (s : List ℕ) → length s ≡ 4096 → zeroed 4092 4096 s ≡ take 4092 s ++ (replicate 4 0 ++ drop 4096 s)
zeroed_root s e = zeroed_parts 4092 4096 s ∙ ap (λ (n : ℕ). parts (min 4092 (min 4096 n)) (min 4096 n) s) e

module _ (slot b c : ℕ) (s t : List ℕ) (bs : Bytes s) (bt : Bytes t) (g : RootHolds s slot b) (h : RootHolds t slot c) where
  -- a field's bytes follow from its number
  same : (o w : ℕ) → o + w ≤ 4096 → field s o w ≡ field t o w → part s o w ≡ part t o w
  same o w l e = field_same s t o w bs bt (omega (arith, g.size)) (omega (arith, h.size)) e

  text_length : length (label_text s) ≡ label_length s
  unfolding label_text
  text_length = part_length s 186 (label_length s) (omega (arith, g.size, g.label_most))

  text_length_t : length (label_text t) ≡ label_length t
  unfolding label_text
  text_length_t = part_length t 186 (label_length t) (omega (arith, h.size, h.label_most))

  -- the label's length and text follow from the returned label
  label_same : LabelsAgree (label_in s) (label_in t) → (label_length s ≡ label_length t) × (label_text s ≡ label_text t)
  unfolding label_text
  label_same l = go (has_label s) (has_label t) refl refl l
    where
      go : (x y : Bool) → has_label s ≡ x → has_label t ≡ y
          → LabelsAgree (cond x (Some (label_of (label_text s))) None) (cond y (Some (label_of (label_text t))) None)
          → (label_length s ≡ label_length t) × (label_text s ≡ label_text t)
      go true true p q l = (
        sym text_length ∙ sym (len_of (label_text s)) ∙ l.length_same ∙ len_of (label_text t) ∙ text_length_t,
        sym (text_of_lem (label_text s) (omega (arith, text_length, g.label_most)))
            ∙ l.text_same
            ∙ text_of_lem (label_text t) (omega (arith, text_length_t, h.label_most)),
      )
      go true false p q l = absurd l
      go false true p q l = absurd l
      go false false p q l =
          let m = none_zero (label_length s) p in
          let n = none_zero (label_length t) q in
          (m ∙ sym n, ap (λ (k : ℕ). part s 186 k) m ∙ sym (ap (λ (k : ℕ). part t 186 k) n))

  module _ (a : FieldsAgree (root_of s) (root_of t)) where
    ref_same : (o : ℕ) → o + 16 ≤ 4096 → ref_at s o ≡ ref_at t o → take o s ≡ take o t → take (o + 16) s ≡ take (o + 16) t
    ref_same o l e f =
        let first = grow s t o 8 f (same o 8 (omega arith) (ap (λ (r : TreeRef). r.block) e)) in
        let z : o + 8 + 8 ≡ o + 16 = omega arith in
        let both = grow s t (o + 8) 8 first (same (o + 8) 8 (omega arith) (ap (λ (r : TreeRef). r.generation) e)) in
        ap (λ (n : ℕ). take n s) (sym z) ∙ both ∙ ap (λ (n : ℕ). take n t) z

    -- 0 to 64: magic, revision, sizes, UUID, the slot, generation, blocks
    front : take 64 s ≡ take 64 t
    unfolding root_of
    front =
        let s8 = grow s t 0 8 refl (g.magic_is ∙ sym h.magic_is) in
        let s12 = grow s t 8 4 s8 (same 8 4 (omega arith) (g.revision ∙ sym h.revision)) in
        let s16 = grow s t 12 4 s12 (same 12 4 (omega arith) (g.record_bytes ∙ sym h.record_bytes)) in
        let s20 = grow s t 16 4 s16 (same 16 4 (omega arith) (g.allocation_bytes ∙ sym h.allocation_bytes)) in
        let s24 = grow s t 20 4 s20 (same 20 4 (omega arith) (g.unit_bytes ∙ sym h.unit_bytes)) in
        let s40 = grow s t 24 16 s24 a.uuid in
        let s48 = grow s t 40 8 s40 (same 40 8 (omega arith) (g.self_block ∙ sym h.self_block)) in
        let s56 = grow s t 48 8 s48 (same 48 8 (omega arith) a.generation) in
        grow s t 56 8 s56 (same 56 8 (omega arith) a.blocks)

    -- 64 to 128: the three trees, next object, free blocks
    trees : take 128 s ≡ take 128 t
    unfolding root_of
    trees =
        let s80 = ref_same 64 (omega arith) a.catalog front in
        let s96 = ref_same 80 (omega arith) a.allocation s80 in
        let s112 = ref_same 96 (omega arith) a.cleanup s96 in
        let s120 = grow s t 112 8 s112 (same 112 8 (omega arith) a.next_object) in
        grow s t 120 8 s120 (same 120 8 (omega arith) a.free_blocks)

    -- 128 to 186: features, profile, state, reserve, next job, workspace, cursor, the label's length
    rest : take 186 s ≡ take 186 t
    unfolding root_of
    rest =
        let s136 = grow s t 128 8 trees (same 128 8 (omega arith) (g.features ∙ sym h.features)) in
        let s140 = grow s t 136 4 s136 (same 136 4 (omega arith) (g.profile ∙ sym h.profile)) in
        let s144 = grow s t 140 4 s140 (same 140 4 (omega arith) (g.state ∙ sym h.state)) in
        let s152 = grow s t 144 8 s144 (same 144 8 (omega arith) (g.reserve ∙ sym h.reserve)) in
        let s160 = grow s t 152 8 s152 (same 152 8 (omega arith) a.next_job) in
        let s176 = ref_same 160 (omega arith) a.workspace s160 in
        let cursor : u64_at s 176 ≡ u64_at t 176 = omega (arith, a.workspace_cursor) in
        let s184 = grow s t 176 8 s176 (same 176 8 (omega arith) cursor) in
        grow s t 184 2 s184 (same 184 2 (omega arith) (label_same a.label).0)

    -- 186 to 4092: the label's text, and zeros after it
    all_but_sum : take 4092 s ≡ take 4092 t
    unfolding root_of label_text
    all_but_sum =
        let n = label_length s in
        let m = label_length t in
        let e : n ≡ m = (label_same a.label).0 in
        let text : take (186 + n) s ≡ take (186 + n) t =
        grow s t 186 n rest ((label_same a.label).1 ∙ ap (λ (k : ℕ). part t 186 k) (sym e)) in
        let zeros : part s (186 + n) (4092 - (186 + n)) ≡ part t (186 + n) (4092 - (186 + n)) =
        g.padding ∙ ap (λ (k : ℕ). replicate (4092 - (186 + k)) 0) e ∙ sym h.padding ∙ ap (λ (k : ℕ). part t (186 + k) (4092 - (186 + k))) (sym e) in
        let z : 186 + n + (4092 - (186 + n)) ≡ 4092 = omega (arith, g.label_most) in
        ap (λ (k : ℕ). take k s) (sym z) ∙ grow s t (186 + n) (4092 - (186 + n)) text zeros ∙ ap (λ (k : ℕ). take k t) z

    -- 4092 to 4096: the checksum of the rest
    sum_same : crc32c_with_zero s 4092 4096 ≡ crc32c_with_zero t 4092 4096
    unfolding crc32c_with_zero
    sum_same =
        let ends : drop 4096 s ≡ drop 4096 t = drop_of_length-le s {i = 4096} (omega (arith, g.size)) ∙ sym (drop_of_length-le t {i = 4096} (omega (arith, h.size))) in
        ap crc32c (zeroed_root s g.size ∙ ap₂ (λ (x y : List ℕ). x ++ (replicate 4 0 ++ y)) all_but_sum ends ∙ sym (zeroed_root t h.size))

    pub bytes_same : s ≡ t
    bytes_same =
        let all : take 4096 s ≡ take 4096 t = grow s t 4092 4 all_but_sum (same 4092 4 (omega arith) (g.checksum ∙ sum_same ∙ sym h.checksum)) in
        sym (take_all 4096 s (omega (arith, g.size))) ∙ all ∙ take_all 4096 t (omega (arith, h.size))

-- ---- the theorem

label_self : (l : Option Label) → LabelsAgree l l
label_self None = tt
label_self (Some l) = record { length_same = refl; text_same = refl }

self : (a : Root) → FieldsAgree a a
self a = record {
  label = label_self a.label;
  uuid = refl;
  generation = refl;
  blocks = refl;
  catalog = refl;
  allocation = refl;
  cleanup = refl;
  next_object = refl;
  free_blocks = refl;
  next_job = refl;
  workspace = refl;
  workspace_cursor = refl;
}

pub roots_agree : RootsAgree
roots_agree slot b c s t x y p q =
    let g = (root_exactly s slot b x).0 p.passed in
    let h = (root_exactly t slot c y).0 q.passed in (
      λ e. subst (FieldsAgree x) (g.1 ∙ ap root_of e ∙ sym h.1) (self x),
      λ a. bytes_same slot b c s t p.bytes q.bytes g.0 h.0 (rw h.1 at (rw g.1 at a)),
    )
