-- The offsets that are written, and the whole lookup, by the tests that the code makes.
use mathlib.Core.Path.{◌≡◌, refl, sym, ap}
use mathlib.Core.Bool.{Bool, true, false, ◌&&◌, cond}
use mathlib.Core.List.{List, [], ◌++◌, append_assoc, append-nil}
use Prim.Native.Nat.{ℕ, zero, suc, ◌+◌, ◌-◌, ◌/◌, ◌<◌, ◌≤◌}
use native.Mathlib.Omega.{arith}
use lib.Dec.{ltb}
use lib.ListN.{length, get_or, take, drop, length-drop, take-append-drop}
use Rattle.std.proofs.lemmas.List.{length-take-le, drop-append-le, drop_all}
use borrow.Author.Tests.{lt-ltb, le-ltb, ltb-true}
use Rattle.lookup.specs.Record.{split_record, is_record}
use Rattle.lookup.specs.Floor.{next_offset, written, unbroken, over, above_at, bisect, before, walk_floor, floor_at, scratch_of}
use Rattle.lookup.specs.declared.Lengths.{Lengths}
use Rattle.lookup.specs.declared.Floor.{Floor}
use Rattle.std.specs.Prelude.{Option, Some, None}
use Rattle.std.proofs.lemmas.Option.{same_Some}
use Rattle.error.proofs.Tests.{and_left, and_right}
use Rattle.lookup.proofs.RecordLaws.{split_fits}

module _ (part : List ℕ) where
  -- the next record starts in the part
  pub next_within : (p : ℕ) → p ≤ length part → next_offset part p ≤ length part
  next_within p l = go (split_record (drop p part)) refl
    where
      go : (r : Option Lengths) → split_record (drop p part) ≡ r → next_offset part p ≤ length part
      go (Some l) e = rw e (omega (arith, split_fits (drop p part) l e, length-drop p part))
      go None e = rw e (omega arith)

  pub written_length : (n p : ℕ) → unbroken part n p ≡ true → length (written part n p) ≡ n
  unfolding written unbroken
  written_length zero p u = refl
  written_length (suc n) p u = go (is_record (split_record (drop p part))) (written_length n (next_offset part p)) u
    where
      go : (b : Bool) → (unbroken part n (next_offset part p) ≡ true → length (written part n (next_offset part p)) ≡ n) → (b && unbroken part n (next_offset part p)) ≡ true → suc (length (cond b (written part n (next_offset part p)) [])) ≡ suc n
      go true h e = ap suc (h e)
      go false h e = let z : ◌≡◌ {A = ℕ} 0 1 = cc in absurd (omega arith)

  -- at most one is written for each record
  pub written_most : (n p : ℕ) → length (written part n p) ≤ n
  unfolding written
  written_most zero p = omega arith
  written_most (suc n) p = go (is_record (split_record (drop p part))) (written_most n (next_offset part p))
    where
      go : (b : Bool) → length (written part n (next_offset part p)) ≤ n → suc (length (cond b (written part n (next_offset part p)) [])) ≤ suc n
      go true h = omega arith
      go false h = omega arith

  -- where none is broken, each offset that is written is a record's
  pub written_whole : (n p k : ℕ) → unbroken part n p ≡ true → k < n → is_record (split_record (drop (get_or (written part n p) k 0) part)) ≡ true
  unfolding written unbroken
  written_whole zero p k u l = absurd (omega arith)
  written_whole (suc n) p zero u l = and_left (is_record (split_record (drop p part))) (unbroken part n (next_offset part p)) u
  written_whole (suc n) p (suc k) u l =
      rw (and_left (is_record (split_record (drop p part))) (unbroken part n (next_offset part p)) u)
      (written_whole n (next_offset part p) k (and_right (is_record (split_record (drop p part))) (unbroken part n (next_offset part p)) u) (omega arith))

-- a bisection ends between its ends
pub bisect_between : (part key o : List ℕ) (fuel low high : ℕ) → low ≤ high → bisect part key o fuel low high ≤ high
unfolding bisect
bisect_between part key o zero low high l = l
bisect_between part key o (suc f) low high l = go (ltb low high) refl (bisect_between part key o f low ((low + high) / 2)) (bisect_between part key o f ((low + high) / 2 + 1) high)
  where
    go : (b : Bool) → ltb low high ≡ b
        → (low ≤ (low + high) / 2 → bisect part key o f low ((low + high) / 2) ≤ (low + high) / 2)
        → ((low + high) / 2 + 1 ≤ high → bisect part key o f ((low + high) / 2 + 1) high ≤ high)
        → cond b (cond (above_at part key (get_or o ((low + high) / 2) 0)) (bisect part key o f low ((low + high) / 2)) (bisect part key o f ((low + high) / 2 + 1) high)) low ≤ high
    go true t down up = there (above_at part key (get_or o ((low + high) / 2) 0))
      where
        h : low < high
        h = ltb-true low high t

        there : (b : Bool) → cond b (bisect part key o f low ((low + high) / 2)) (bisect part key o f ((low + high) / 2 + 1) high) ≤ high
        there true = omega (arith, down (omega (arith, h)), h)
        there false = up (omega (arith, h))
    go false t down up = l

-- writing into the first n entries is writing into the whole
over_front : (ws s : List ℕ) (n : ℕ) → length ws ≤ n → n ≤ length s → over ws (take n s) ++ drop n s ≡ over ws s
over_front ws s n l m =
    rw (append_assoc, ← drop-append-le (length ws) (take n s) (drop n s) (omega (arith, length-take-le n s m)), take-append-drop)

module _ (part : List ℕ) (count : ℕ) (key scratch : List ℕ) where
  pub floor_large : 65535 < length part → (None ≡ floor_at part count key (length scratch)) × (scratch ≡ scratch_of part count scratch)
  unfolding floor_at scratch_of
  floor_large l = (rw (lt-ltb 65535 (length part) l), rw (lt-ltb 65535 (length part) l))

  module _ (small : length part ≤ 65535) where
    pub floor_walk : length scratch < count → (walk_floor part key count 0 0 None ≡ floor_at part count key (length scratch)) × (scratch ≡ scratch_of part count scratch)
    unfolding floor_at scratch_of
    floor_walk l = (rw (le-ltb 65535 (length part) small, lt-ltb (length scratch) count l), rw (le-ltb 65535 (length part) small, lt-ltb (length scratch) count l))

    -- the scratch's first entries, one for each record, are what is written into
    module _ (room : count ≤ length scratch) (o : List ℕ) (filled : o ≡ over (written part (length (take count scratch)) 0) (take count scratch)) where
      fitted : length (take count scratch) ≡ count
      fitted = length-take-le count scratch room

      pub scratch_filled : o ++ drop count scratch ≡ scratch_of part count scratch
      unfolding scratch_of
      scratch_filled =
          rw (le-ltb 65535 (length part) small, le-ltb (length scratch) count room, filled, fitted) (over_front (written part count 0) scratch count (written_most part count 0) room)

      pub floor_broken : false ≡ unbroken part (length (take count scratch)) 0 → None ≡ floor_at part count key (length scratch)
      unfolding floor_at
      floor_broken u =
          let v : unbroken part count 0 ≡ false = sym (rw fitted at u) in
          rw (le-ltb 65535 (length part) small, le-ltb (length scratch) count room, v)

      module _ (u : true ≡ unbroken part (length (take count scratch)) 0) where
        all : unbroken part count 0 ≡ true
        all = sym (rw fitted at u)

        -- each entry is a record's offset
        offsets : o ≡ written part count 0
        offsets = rw (filled, fitted, drop_all (length (written part count 0)) (take count scratch) (omega (arith, written_length part count 0 all, fitted)), append-nil)

        pub filled_whole : (k : ℕ) → k < length o → is_record (split_record (drop (get_or o k 0) part)) ≡ true
        filled_whole k l = rw offsets (written_whole part count 0 k all (omega (arith, ap length offsets, written_length part count 0 all)))

        pub floor_bisect : before o (bisect part key o (length o) 0 (length o)) ≡ floor_at part count key (length scratch)
        unfolding floor_at
        floor_bisect =
            rw (le-ltb 65535 (length part) small, le-ltb (length scratch) count room, all, offsets, written_length part count 0 all)

-- a record that a lookup finds is one of the part's
pub walk_index : (part key : List ℕ) (m n p j : ℕ) (found : Option Floor) → ((f : Floor) → found ≡ Some f → f.index < m) → j + n ≤ m → (f : Floor) → walk_floor part key n p j found ≡ Some f → f.index < m
unfolding walk_floor
walk_index part key m zero p j found h l f e = h f e
walk_index part key m (suc n) p j found h l f e =
    go (above_at part key p) (walk_index part key m n (next_offset part p) (j + 1) (Some this) here (omega arith) f) e
  where
    this : Floor
    this = record { index = j; offset = p }

    here : (f : Floor) → Some this ≡ Some f → f.index < m
    here f e = rw (← same_Some this f e) (omega arith)

    go : (b : Bool) → (walk_floor part key n (next_offset part p) (j + 1) (Some this) ≡ Some f → f.index < m) → cond b found (walk_floor part key n (next_offset part p) (j + 1) (Some this)) ≡ Some f → f.index < m
    go true more e = h f e
    go false more e = more e

pub floor_index : (part : List ℕ) (count : ℕ) (key : List ℕ) (entries : ℕ) (f : Floor) → floor_at part count key entries ≡ Some f → f.index < count
unfolding floor_at
floor_index part count key entries f e = go (ltb 65535 (length part)) (ltb entries count) (unbroken part count 0) e
  where
    b : ℕ
    b = bisect part key (written part count 0) count 0 count

    last : Floor
    last = record { index = b - 1; offset = get_or (written part count 0) (b - 1) 0 }

    there : (t : Bool) → ltb 0 b ≡ t → cond t (Some last) None ≡ Some f → f.index < count
    there true q e =
        rw (← same_Some last f e) (omega (arith, ltb-true 0 b q, bisect_between part key (written part count 0) count 0 count (omega arith)))
    there false q e = absurd cc

    go : (x y z : Bool) → cond x None (cond y (walk_floor part key count 0 0 None) (cond z (before (written part count 0) (bisect part key (written part count 0) count 0 count)) None)) ≡ Some f → f.index < count
    go true y z e = absurd cc
    go false true z e = walk_index part key count count 0 0 None none (omega arith) f e
      where
        none : (f : Floor) → None ≡ Some f → f.index < count
        none f e = absurd cc
    go false false true e = there (ltb 0 b) refl e
    go false false false e = absurd cc
