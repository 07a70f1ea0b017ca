-- What stands in the image at an answered record's places.
use mathlib.Core.Path.{◌≡◌, refl, sym, ap, ap₂, ◌∙◌, subst}
use mathlib.Core.List.{List}
use Prim.Native.Nat.{ℕ, ◌+◌, ◌-◌, ◌*◌, ◌≤◌, ◌<◌}
use native.Mathlib.Omega.{arith}
use lib.ListN.{length}
use Rattle.std.specs.Prelude.{Some, Ok}
use Rattle.octets.specs.Bytes.{Bytes, part}
use Rattle.lookup.specs.Sorted.{Sorted}
use Rattle.page.specs.declared.Page.{Page}
use Rattle.search.specs.declared.Found.{Found}
use Rattle.search.specs.Search.{Sought, Under, block_at, page_of, records_of, value_at, place_of, Descent, sought, top, search}
use Rattle.search.proofs.Places.{part_part, whole, key_stands, value_stands}
use Rattle.paths.specs.Paths.{key_in, Sound, place_in, Answers, beyond, refused, outside, found, not_in_leaf, below_first}
use Rattle.paths.specs.Exactly.{RecordStands, RecordIsThere}
use Rattle.paths.proofs.Pages.{known}
use Rattle.paths.proofs.Down.{search_answers}
use Rattle.paths.proofs.Exactly.{answer_is}

module _ (s : Sought) (bytes : Bytes s.image) (v : Under) (p : Page) (h : Sound s v p) (k : ℕ) (l : k < p.count) where
  abbrev payload : List ℕ
  payload = records_of (page_of s v) p

  abbrev base : ℕ
  base = v.reference.block * 4096 + 80

  -- its payload is a part of the image
  payload_stands : payload ≡ part s.image base (length payload)
  unfolding block_at
  payload_stands =
      let a = known s bytes v p h.accepted in
      let start : v.reference.block * 4096 + p.start ≡ base = omega (arith, a.start) in
      sym (part_part s.image (v.reference.block * 4096) 4096 p.start (p.end - p.start) (omega (arith, a.start, a.end, a.fits))) ∙ ap₂ (λ (q n : ℕ). part s.image q n) start (sym a.long)

  sorted : Sorted payload p.count
  sorted = (known s bytes v p h.accepted).sorted

  abbrev f : Found
  f = place_in s v p k

  lies : (f.key_start ≤ f.key_end) × (f.key_end ≤ f.value_end) × (f.value_end ≤ (v.reference.block + 1) * 4096)
  unfolding place_of
  lies =
      let a = known s bytes v p h.accepted in
      (omega arith, omega arith, omega (arith, whole s.image payload base p.count payload_stands sorted k l, a.long, a.start, a.fits))

  key_in_image : part s.image f.key_start (f.key_end - f.key_start) ≡ key_in s v p k
  key_in_image = key_stands s.image payload base p.count payload_stands sorted k l

  value_in_image : part s.image f.key_end (f.value_end - f.key_end) ≡ value_at payload k
  value_in_image = value_stands s.image payload base p.count payload_stands sorted k l

stands_of : (s : Sought) → Bytes s.image → (u : Under) {d : Descent} → Answers s u d → (f : Found) → d.0 ≡ Ok (Some f) → RecordStands s u f
stands_of s bytes u (beyond w h) f q = absurd cc
stands_of s bytes u (refused x w h c) f q = absurd cc
stands_of s bytes u (outside p k w a i o) f q = absurd cc
stands_of s bytes u (found {v} {m} p k w h z i e) f q =
    let same : place_in s v p k ≡ f = cc in
    record {
      leaf = v;
      above = m;
      path = w;
      page = p;
      index = k;
      sound = h;
      is_leaf = z;
      there = i;
      place = sym same;
      key_there = e;
      ordered = let l = lies s bytes v p h k i in subst (λ (g : Found). (g.key_start ≤ g.key_end) × (g.key_end ≤ g.value_end)) same (l.0, l.1);
      inside = subst (λ (g : Found). g.value_end ≤ (v.reference.block + 1) * 4096) same (lies s bytes v p h k i).2;
      key_is = ap (λ (g : Found). part s.image g.key_start (g.key_end - g.key_start)) (sym same) ∙ key_in_image s bytes v p h k i ∙ e;
      value_is = ap (λ (g : Found). part s.image g.key_end (g.value_end - g.key_end)) (sym same) ∙ value_in_image s bytes v p h k i;
    }
stands_of s bytes u (not_in_leaf p w h z i) f q = absurd cc
stands_of s bytes u (below_first p w h i e) f q = absurd cc

pub record_is_there : RecordIsThere
record_is_there image root kind key state f bytes e =
    let g = (search_answers image root kind key state (search image root kind key state) bytes).0 refl in
    stands_of (sought image root kind key) bytes (top root kind) g.1 f (sym (answer_is state _ g.0 g.2) ∙ e)
