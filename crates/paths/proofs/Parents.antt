-- The root's generation for every page: no page tells it from its parent's.
use mathlib.Core.Path.{◌≡◌, refl, sym, ap, ◌∙◌, subst}
use mathlib.Core.Bool.{Bool, true, false, cond}
use mathlib.Core.List.{List}
use Prim.Native.Nat.{ℕ, zero, suc, ◌+◌, ◌*◌, ◌≤◌, ◌<◌}
use native.Mathlib.Omega.{arith}
use native.Mathlib.Decide.{dec_le}
use borrow.Author.Tests.{le-leb, ne_eqb, eqb-true, eqb-false}
use lib.Dec.{eqb}
use lib.ListN.{length}
use Rattle.std.specs.Prelude.{Option, Some, None, Result, Ok, Err}
use Rattle.error.specs.declared.Error.{Error}
use Rattle.error.specs.declared.Error.TheVariants.{Added}
use Rattle.error.specs.declared.Class.TheVariants.{BeyondImage, OutOfBounds}
use Rattle.error.specs.Demand.{outcome}
use Rattle.octets.specs.Bytes.{Bytes}
use Rattle.volume.specs.declared.TreeRef.{TreeRef}
use Rattle.volume.specs.declared.TreeKind.{TreeKind}
use Rattle.page.specs.declared.Page.{Page}
use Rattle.page.specs.Header.{generation, check_caller, is_referred, check_identity, validate_page_header}
use Rattle.page.specs.Page.{decode_page}
use Rattle.search.specs.Search.{Sought, Under, page_of, records_of, read_page, keys_in_bounds, with_key, found_at, floor_of, Turn, ends, goes, below, onward, searched, follow, counted, descend, sought, top, answered, search}
use Rattle.search.proofs.Visits.{read_beyond, read_inside}
use Rattle.paths.specs.Paths.{Accepted, below_in}
use Rattle.paths.specs.Parents.{under_parent, descend_under, OneParentForAll}
use Rattle.paths.proofs.Records.{FloorAt, floor_is}
use Rattle.paths.proofs.Pages.{known}

-- ---- one page, under two parents that aren't older than it
module _ (reference : TreeRef) (uuid : List ℕ) (kind : TreeKind) (expected_level : Option ℕ) (blocks : ℕ) (page : List ℕ) (a b : ℕ)
    (some_a : 1 ≤ a) (some_b : 1 ≤ b) (not_newer_a : reference.generation ≤ a) (not_newer_b : reference.generation ≤ b) where
  caller_same : check_caller reference uuid kind a expected_level blocks page ≡ check_caller reference uuid kind b expected_level blocks page
  unfolding check_caller
  caller_same =
      rw
      (ne_eqb a 0 (λ e. omega arith), ne_eqb b 0 (λ e. omega arith), le-leb reference.generation a not_newer_a, le-leb reference.generation b not_newer_b)
      refl

  referred_same : is_referred reference a page ≡ is_referred reference b page
  unfolding is_referred
  referred_same = go (eqb (generation page) reference.generation) refl
    where
      go : (t : Bool) → eqb (generation page) reference.generation ≡ t → is_referred reference a page ≡ is_referred reference b page
      go true e =
          let g : generation page ≡ reference.generation = eqb-true (generation page) reference.generation e in
          rw (le-leb (generation page) a (omega arith), le-leb (generation page) b (omega arith)) refl
      go false e = rw e refl

  identity_same : check_identity reference uuid kind a blocks page ≡ check_identity reference uuid kind b blocks page
  unfolding check_identity
  identity_same = rw referred_same refl

  header_same : validate_page_header reference uuid kind a expected_level blocks page ≡ validate_page_header reference uuid kind b expected_level blocks page
  unfolding validate_page_header
  header_same = rw (caller_same, identity_same) refl

  decoded_same : decode_page reference uuid kind a expected_level blocks page ≡ decode_page reference uuid kind b expected_level blocks page
  unfolding decode_page
  decoded_same = rw header_same refl

-- ---- the two descents

module _ (s : Sought) (bytes : Bytes s.image) (g : ℕ) where
  -- read alike under its parent and under that one
  abbrev Alike : Under → Type 0
  Alike u = read_page s u ≡ read_page s (under_parent g u)

  older_alike : (u : Under) → u.reference.generation ≤ u.parent_generation → 1 ≤ u.parent_generation → u.parent_generation ≤ g → Alike u
  unfolding read_page
  older_alike u l m n =
      ap (outcome _) (decoded_same u.reference s.uuid s.kind u.expected_level s.blocks (page_of s u) u.parent_generation g m (omega arith) l (omega arith))

  -- a page that is read is accepted in the image
  is_accepted : (u : Under) (p : Page) → read_page s u ≡ Ok p → Accepted s u p
  is_accepted u p e = go (dec_le ((u.reference.block + 1) * 4096) (length s.image))
    where
      go : Dec ((u.reference.block + 1) * 4096 ≤ length s.image) → Accepted s u p
      go (yes h) = record { inside = h; taken = sym (read_inside s u h) ∙ e }
      go (no h) = let q : Err (Added BeyondImage) ≡ Ok p = sym (read_beyond s u (omega arith)) ∙ e in absurd cc

  -- a page that is left is left through a record of its own
  record Left (u : Under) (p : Page) (v : Under) : Type 0 where
    index : ℕ
    there : index < p.count
    internal : 1 ≤ p.level
    is : below_in s u p index ≡ v

  left_is : (u : Under) (p : Page) (v : Under) → searched s u p ≡ goes v → Left u p v
  unfolding searched
  left_is u p v e = go (keys_in_bounds payload p.count u.lower u.upper) (eqb p.level 0) refl (floor_of payload s.key p.count) (floor_is payload s.key p.count) e
    where
      payload : List ℕ
      payload = records_of (page_of s u) p

      go : (a b : Bool) → eqb p.level 0 ≡ b → (o : Option ℕ) → FloorAt payload s.key p.count o
          → cond a (cond b (ends (Ok (found_at payload (u.reference.block * 4096 + p.start) (with_key payload s.key p.count)))) (onward (page_of s u) payload p.level p.count u.upper o)) (ends (Err (Added OutOfBounds))) ≡ goes v
          → Left u p v
      go true true q o h f = absurd cc
      go true false q (Some k) h f =
          let z : p.level ≡ 0 → ⊥ = eqb-false p.level 0 q in
          record { index = k; there = h.0; internal = omega arith; is = cc }
      go true false q None h f = absurd cc
      go false b q o h f = absurd cc

  -- the page below is read alike
  child_alike : (u : Under) (p : Page) (k : ℕ) → u.parent_generation ≤ g → Accepted s u p → 1 ≤ p.level → k < p.count → (below_in s u p k).parent_generation ≤ g × Alike (below_in s u p k)
  unfolding below
  child_alike u p k m a i l =
      let h = known s bytes u p a in
      let v : Under = below_in s u p k in
      let old : v.parent_generation ≤ g = omega (arith, h.generation_is, h.not_newer) in
      (old, older_alike v (h.older i k l) (omega (arith, h.generation_is, h.dated)) old)

  searched_same : (u : Under) (p : Page) → searched s u p ≡ searched s (under_parent g u) p
  unfolding searched below
  searched_same u p = refl

  same : (pages : ℕ) (u : Under) (n : ℕ) → u.parent_generation ≤ g → Alike u → descend s pages u n ≡ descend_under g s pages u n
  unfolding descend descend_under
  same zero u n m alike = refl
  same (suc pages) u n m alike = go (read_page s u) refl (λ v x i j. same pages v x i j) ∙ ap (counted s (λ v m. descend_under g s pages v m) (under_parent g u) n) alike
    where
      Rest : Type 0
      Rest = (v : Under) (x : ℕ) → v.parent_generation ≤ g → Alike v → descend s pages v x ≡ descend_under g s pages v x

      turned : (p : Page) → Accepted s u p → Rest → (t : Turn) → searched s u p ≡ t → follow (λ v. descend s pages v (n + 1)) (n + 1) t ≡ follow (λ v. descend_under g s pages v (n + 1)) (n + 1) t
      turned p a rest (ends answer) e = refl
      turned p a rest (goes v) e =
          let h = left_is u p v e in
          let c = child_alike u p h.index m a h.internal h.there in
          subst (λ (w : Under). descend s pages w (n + 1) ≡ descend_under g s pages w (n + 1)) h.is (rest (below_in s u p h.index) (n + 1) c.0 c.1)

      go : (r : Result Page Error) → read_page s u ≡ r → Rest → counted s (λ v m. descend s pages v m) u n r ≡ counted s (λ v m. descend_under g s pages v m) (under_parent g u) n r
      go (Ok p) e rest = turned p (is_accepted u p e) rest (searched s u p) refl ∙ ap (follow (λ v. descend_under g s pages v (n + 1)) (n + 1)) (searched_same u p)
      go (Err x) e rest = refl

pub one_parent_for_all : OneParentForAll
unfolding search
one_parent_for_all image root kind key state bytes =
    ap (answered state) (same (sought image root kind key) bytes root.generation 8 (top root kind) 0 (omega arith) refl)
