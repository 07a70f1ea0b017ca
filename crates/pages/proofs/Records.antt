-- The records of a page: what the walk accepts, by the fields of each record.
use mathlib.Core.Path.{◌≡◌, refl, sym, ap, ap₂, ◌∙◌}
use mathlib.Core.Bool.{Bool, true, false, true≢false, false≢true}
use mathlib.Core.List.Memᴰ.{head as here, tail as later}
use mathlib.Core.List.{List, [], ◌∷◌, map, sum, Nodup, Memᴰ as Among}
use mathlib.Core.Path.{subst}
use Prim.Native.Nat.{ℕ, ◌+◌}
use native.Mathlib.Omega.{arith}
use borrow.Author.Tests.{eqb-true, eqb-false}
use lib.Dec.{eqb}
use mathlib.Core.Logic.{◌↔◌}
use Rattle.std.specs.Prelude.{Ok, Err}
use Rattle.error.specs.declared.Validation.{Validation}
use Rattle.error.specs.Answer.{Number, number_check, number_of}
use Rattle.octets.specs.Bytes.{Bytes}
use Rattle.octets.specs.Number.{u64_at}
use Rattle.volume.specs.declared.TreeRef.{TreeRef}
use Rattle.volume.specs.References.{ref_at}
use Rattle.record.specs.Internal.{Child, validate_internal_record, child_block}
use Rattle.records.specs.Record.{LeafHolds, InternalHolds, blocks_counted, RecordsExactly}
use Rattle.walk.specs.declared.RecordValidation.{RecordValidation}
use Rattle.walk.specs.Entries.{Entry, Walked}
use Rattle.walk.specs.Records.{leaf_rules, child_rules, validate_records}
use Rattle.walk.proofs.Walked.{walked_exactly}
use Rattle.pages.specs.Records.{RecordsHold, RecordsWalked, in_mode, WalkModeFree}

-- numbers that agree on each member
same_numbers : (f g : Entry → ℕ) (es : List Entry) → ((e : Entry) → Among e es → f e ≡ g e) → map f es ≡ map g es
same_numbers f g [] h = refl
same_numbers f g (e ∷ es) h = ap₂ (λ (x : ℕ) (xs : List ℕ). x ∷ xs) (h e (here refl)) (same_numbers f g es (λ x m. h x (later m)))

pub value_is : (r : Number) → number_check r ≡ Ok tt → r ≡ Ok (number_of r)
value_is (Ok n) e = refl
value_is (Err x) e = cc

module _ (exact : RecordsExactly) (c : RecordValidation) where
  -- ---- one record

  leaf_holds : (key value : List ℕ) → number_check (leaf_rules c key value) ≡ Ok tt → LeafHolds c.kind key value c.blocks c.page_generation × (number_of (leaf_rules c key value) ≡ blocks_counted c.kind key value)
  leaf_holds key value e = (exact.leaf_record c.kind key value c.blocks c.page_generation c.mode (number_of (leaf_rules c key value))).0 (value_is (leaf_rules c key value) e)

  holds_leaf : (key value : List ℕ) → LeafHolds c.kind key value c.blocks c.page_generation → leaf_rules c key value ≡ Ok (blocks_counted c.kind key value)
  holds_leaf key value h = (exact.leaf_record c.kind key value c.blocks c.page_generation c.mode (blocks_counted c.kind key value)).1 (h, refl)

  child_holds : (key value : List ℕ) → number_check (child_rules c key value) ≡ Ok tt → InternalHolds c.kind key value c.blocks c.page_generation × (number_of (child_rules c key value) ≡ u64_at value 0)
  child_holds key value e = go (validate_internal_record c.kind key value c.blocks c.page_generation c.mode) refl e
    where
      go : (r : Child) → validate_internal_record c.kind key value c.blocks c.page_generation c.mode ≡ r → number_check (child_block r) ≡ Ok tt
          → InternalHolds c.kind key value c.blocks c.page_generation × (number_of (child_rules c key value) ≡ u64_at value 0)
      go (Ok b) p f =
          let h = (exact.internal_record c.kind key value c.blocks c.page_generation c.mode b).0 p in
          (h.0, ap (λ (x : Child). number_of (child_block x)) p ∙ ap (λ (r : TreeRef). r.block) h.1)
      go (Err x) p f = absurd cc

  holds_child : (key value : List ℕ) → InternalHolds c.kind key value c.blocks c.page_generation → child_rules c key value ≡ Ok (u64_at value 0)
  holds_child key value h = ap child_block ((exact.internal_record c.kind key value c.blocks c.page_generation c.mode (ref_at value 0)).1 (h, refl))

  -- ---- all of them

  -- what is added up of the entries, by the rules and by the conditions
  counted : (es : List Entry) → ((e : Entry) → Among e es → number_of (leaf_rules c e.key e.value) ≡ blocks_counted c.kind e.key e.value)
      → sum ◌+◌ 0 (map (λ (e : Entry). number_of (leaf_rules c e.key e.value)) es) ≡ sum ◌+◌ 0 (map (λ (e : Entry). blocks_counted c.kind e.key e.value) es)
  counted es h = ap (sum ◌+◌ 0) (same_numbers (λ e. number_of (leaf_rules c e.key e.value)) (λ e. blocks_counted c.kind e.key e.value) es h)

  module _ (rest : List ℕ) (payload_length count total : ℕ) where
    leaf_there : c.page_kind ≡ 1 → Walked true (leaf_rules c) rest payload_length count total → RecordsHold c rest payload_length count total
    leaf_there p w = record {
      inside = w.inside;
      leaf = λ _. (
        record {
          read = w.read;
          hold = λ e m. (leaf_holds e.key e.value (w.obey e m)).0;
          total_is = omega (arith, w.leaf_total refl, counted w.read.entries (λ e m. (leaf_holds e.key e.value (w.obey e m)).1));
        },
        w.leaf_small refl,
      );
      internal = λ n. absurd (n p);
    }

    leaf_back : c.page_kind ≡ 1 → RecordsHold c rest payload_length count total → Walked true (leaf_rules c) rest payload_length count total
    leaf_back p h =
        let l = h.leaf p in
        record {
          inside = h.inside;
          read = l.0.read;
          obey = λ e m. ap number_check (holds_leaf e.key e.value (l.0.hold e m));
          leaf_total = λ _. omega (arith, l.0.total_is, counted l.0.read.entries (λ e m. ap number_of (holds_leaf e.key e.value (l.0.hold e m))));
          leaf_small = λ _. l.1;
          internal_total = λ q. absurd (true≢false q);
          distinct = λ q. absurd (true≢false q);
        }

    child_there : (c.page_kind ≡ 1 → ⊥) → Walked false (child_rules c) rest payload_length count total → RecordsHold c rest payload_length count total
    child_there n w = record {
      inside = w.inside;
      leaf = λ p. absurd (n p);
      internal = λ _. (
        record {
          read = w.read;
          hold = λ e m. (child_holds e.key e.value (w.obey e m)).0;
          distinct = subst Nodup (same_numbers (λ e. number_of (child_rules c e.key e.value)) (λ e. u64_at e.value 0) w.read.entries (λ e m. (child_holds e.key e.value (w.obey e m)).1)) (w.distinct refl);
        },
        w.internal_total refl,
      );
    }

    child_back : (c.page_kind ≡ 1 → ⊥) → RecordsHold c rest payload_length count total → Walked false (child_rules c) rest payload_length count total
    child_back n h =
        let l = h.internal n in
        record {
          inside = h.inside;
          read = l.0.read;
          obey = λ e m. ap number_check (holds_child e.key e.value (l.0.hold e m));
          leaf_total = λ q. absurd (false≢true q);
          leaf_small = λ q. absurd (false≢true q);
          internal_total = λ _. l.1;
          distinct = λ _. subst Nodup (same_numbers (λ e. u64_at e.value 0) (λ e. number_of (child_rules c e.key e.value)) l.0.read.entries (λ e m. sym (ap number_of (holds_child e.key e.value (l.0.hold e m))))) l.0.distinct;
        }

    -- by the page's kind
    exactly : Bytes rest → (validate_records rest payload_length count c ≡ Ok total) ↔ RecordsHold c rest payload_length count total
    unfolding validate_records
    exactly bytes = go (eqb c.page_kind 1) refl
      where
        go : (b : Bool) → eqb c.page_kind 1 ≡ b → (validate_records rest payload_length count c ≡ Ok total) ↔ RecordsHold c rest payload_length count total
        go true p =
            let walked = walked_exactly true c.mode (leaf_rules c) rest payload_length count total bytes in
            rw p (λ e. leaf_there (eqb-true c.page_kind 1 p) (walked.0 e), λ h. walked.1 (leaf_back (eqb-true c.page_kind 1 p) h))
        go false p =
            let walked = walked_exactly false c.mode (child_rules c) rest payload_length count total bytes in
            rw p (λ e. child_there (eqb-false c.page_kind 1 p) (walked.0 e), λ h. walked.1 (child_back (eqb-false c.page_kind 1 p) h))

pub records_walked : RecordsExactly → RecordsWalked
records_walked exact rest payload_length count c total bytes = exactly exact c rest payload_length count total bytes

-- the conditions don't name the mode
moded : (c : RecordValidation) (one other : Validation) (rest : List ℕ) (payload_length count total : ℕ) → RecordsHold (in_mode one c) rest payload_length count total → RecordsHold (in_mode other c) rest payload_length count total
moded c one other rest payload_length count total h = record { inside = h.inside; leaf = h.leaf; internal = h.internal }

pub walk_mode_free : RecordsExactly → WalkModeFree
walk_mode_free exact rest payload_length count c mode total bytes =
    let mine = records_walked exact rest payload_length count c total bytes in
    let other = records_walked exact rest payload_length count (in_mode mode c) total bytes in
    (λ e. other.1 (moded c c.mode mode rest payload_length count total (mine.0 e)), λ e. mine.1 (moded c mode c.mode rest payload_length count total (other.0 e)))
