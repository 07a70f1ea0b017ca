-- Owner numbers and catalog keys are accepted exactly when their conditions hold.
-- Kept, here and in the proofs beside it: a condition is made of its test, and serves it, by `omega`, where the fact alone would do. A weaker condition is then refused at numbers that it lets through.
use mathlib.Core.Path.{◌≡◌}
use mathlib.Core.Bool.{Bool, true, ◌&&◌, ◌||◌}
use mathlib.Core.Logic.{◌↔◌, ⊎_elim}
use mathlib.Core.List.{List}
use Prim.Native.Nat.{ℕ, ◌-◌, ◌^◌, ◌≤◌}
use native.Mathlib.Omega.{arith}
use borrow.Author.Tests.{le-leb, leb-true, eq-eqb, eqb-true}
use lib.Dec.{eqb, leb}
use lib.ListN.{length, drop}
use Rattle.std.specs.Prelude.{Ok}
use Rattle.std.proofs.lemmas.Bool.{or_cases}
use Rattle.error.specs.declared.Validation.{Validation}
use Rattle.error.specs.Demand.{AllHold}
use Rattle.error.proofs.Exactly.{all_hold, all_pass, given_exactly, passed_is, passed_test}
use Rattle.error.proofs.Tests.{and_left, and_right, and_both, or_first, or_second}
use Rattle.octets.specs.Bytes.{byte_at}
use Rattle.octets.specs.Number.{big_at}
use Rattle.utf8.specs.Inside.{utf8}
use Rattle.utf8.proofs.Grammar.{utf8_is_grammar}
use Rattle.catalog.specs.Keys.{owner_demands, validate_owner_id, is_inode_key, is_entry_key, is_number_key, is_catalog_key, catalog_key_demands, validate_catalog_key}
use Rattle.records.specs.Catalog.{OwnerHolds, KeyForm, KeyHolds}
use Rattle.records.specs.Catalog.KeyForm.{inode, entry, extent, group}

-- ---- owners

pub owner_exactly : (owner : ℕ) (mode : Validation) → (validate_owner_id owner mode ≡ Ok tt) ↔ OwnerHolds owner
unfolding validate_owner_id
owner_exactly owner mode = (
  λ e.
      let h = (all_hold (owner_demands owner mode) e).0 in
      let l : 1 ≤ owner = leb-true 1 owner (and_left (leb 1 owner) (leb owner (2 ^ 63 - 2)) h) in
      let m : owner ≤ 2 ^ 63 - 2 = leb-true owner (2 ^ 63 - 2) (and_right (leb 1 owner) (leb owner (2 ^ 63 - 2)) h) in
      record { least = omega (arith, l); most = omega (arith, m) },
  λ h. all_pass (owner_demands owner mode) (and_both _ _ (le-leb 1 owner (omega (arith, h.least))) (le-leb owner (2 ^ 63 - 2) (omega (arith, h.most))), tt),
)

-- ---- the form of a key

module _ (key : List ℕ) where
  is_inode : is_inode_key key ≡ true → KeyForm key
  is_inode p =
      let l : length key ≡ 9 = eqb-true (length key) 9 (and_right (eqb (byte_at key 8) 1) (eqb (length key) 9) p) in
      inode (eqb-true (byte_at key 8) 1 (and_left _ _ p)) (omega (arith, l))

  is_entry : is_entry_key key ≡ true → KeyForm key
  is_entry p =
      let kind : Bool = eqb (byte_at key 8) 2 in
      let low : Bool = leb 10 (length key) in
      let high : Bool = leb (length key) 774 in
      let q = and_left (kind && low && high) (utf8 (drop 9 key)) p in
      let r = and_left (kind && low) high q in
      let a : 10 ≤ length key = leb-true 10 (length key) (and_right kind low r) in
      let b : length key ≤ 774 = leb-true (length key) 774 (and_right (kind && low) high q) in
      entry (eqb-true (byte_at key 8) 2 (and_left kind low r)) (omega (arith, a)) (omega (arith, b)) ((utf8_is_grammar (drop 9 key)).0 (and_right _ _ p))

  is_number : is_number_key key ≡ true → KeyForm key
  is_number p =
      let l : length key ≡ 17 = eqb-true (length key) 17 (and_right (eqb (byte_at key 8) 3 || eqb (byte_at key 8) 4) (eqb (length key) 17) p) in
      ⊎_elim (λ k. extent (eqb-true (byte_at key 8) 3 k) (omega (arith, l))) (λ k. group (eqb-true (byte_at key 8) 4 k) (omega (arith, l))) (or_cases _ _ (and_left _ _ p))

  form_of : is_catalog_key key ≡ true → KeyForm key
  unfolding is_catalog_key
  form_of e = ⊎_elim (λ p. ⊎_elim is_inode is_entry (or_cases (is_inode_key key) (is_entry_key key) p)) is_number (or_cases (is_inode_key key || is_entry_key key) (is_number_key key) e)

  passes : KeyForm key → is_catalog_key key ≡ true
  unfolding is_catalog_key
  passes (inode k l) = or_first _ _ (or_first _ _ (and_both _ _ (eq-eqb (byte_at key 8) 1 k) (eq-eqb (length key) 9 (omega (arith, l)))))
  passes (entry k a b t) =
      or_first _ _ (or_second _ _ (and_both _ _ (and_both _ _ (and_both _ _ (eq-eqb (byte_at key 8) 2 k) (le-leb 10 (length key) (omega (arith, a)))) (le-leb (length key) 774 (omega (arith, b)))) ((utf8_is_grammar (drop 9 key)).1 t)))
  passes (extent k l) = or_second _ _ (and_both _ _ (or_first _ _ (eq-eqb (byte_at key 8) 3 k)) (eq-eqb (length key) 17 (omega (arith, l))))
  passes (group k l) = or_second _ _ (and_both _ _ (or_second _ _ (eq-eqb (byte_at key 8) 4 k)) (eq-eqb (length key) 17 (omega (arith, l))))

  long : KeyForm key → 9 ≤ length key
  long (inode k l) = omega (arith, l)
  long (entry k a b t) = omega (arith, a)
  long (extent k l) = omega (arith, l)
  long (group k l) = omega (arith, l)

-- ---- keys

module _ (key : List ℕ) (mode : Validation) where
  holds : AllHold (catalog_key_demands key mode) → KeyHolds key
  holds h = record { owner = (owner_exactly (big_at key 0) mode).0 (passed_is (validate_owner_id (big_at key 0) mode) h.1.0); form = form_of key h.1.1.0 }

  back : KeyHolds key → AllHold (catalog_key_demands key mode)
  back h = (le-leb 9 (length key) (long key h.form), (passed_test _ tt ((owner_exactly (big_at key 0) mode).1 h.owner), (passes key h.form, tt)))

  pub key_exactly : (kind : ℕ) → (validate_catalog_key key mode ≡ Ok kind) ↔ (KeyHolds key × (kind ≡ byte_at key 8))
  unfolding validate_catalog_key
  key_exactly kind =
      let given = given_exactly (catalog_key_demands key mode) (byte_at key 8) kind in
      (λ e. let h = given.0 e in (holds h.0, h.1), λ h. given.1 (back h.0, h.1))
