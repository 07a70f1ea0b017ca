-- A page is accepted exactly when each of its rules holds.
-- Kept, here and in Records: a rule is made of its test, and serves it, by `omega`, where the fact alone would do. A weaker rule is then refused at numbers that it lets through.
use mathlib.Core.Path.{◌≡◌, refl, sym, ap, ◌∙◌, subst}
use mathlib.Core.Bool.{Bool, true, false, not, ◌&&◌, ◌||◌}
use mathlib.Core.Logic.{◌↔◌, ◌⊎◌, inl, inr}
use mathlib.Core.List.{List}
use Prim.Native.Nat.{ℕ, ◌+◌, ◌-◌, ◌≤◌}
use native.Mathlib.Omega.{arith}
use borrow.Author.Tests.{le-leb, leb-true, eq-eqb, ne_eqb, eqb-true}
use lib.Dec.{leb, eqb}
use lib.ListN.{length, drop, length-drop}
use Rattle.error.specs.declared.Validation.TheVariants.{Input}
use Rattle.std.specs.Prelude.{Option, Some, None, Result, Ok, Err}
use Rattle.error.specs.declared.Error.{Error}
use Rattle.error.specs.Answer.{number_check, number_of, check_class}
use Rattle.error.proofs.Exactly.{all_hold, all_pass, passed_is, passed_test, number_passed, number_test, given_exactly, class_some}
use Rattle.error.proofs.Tests.{one_of, is_one_of_lem, and_left, and_right, and_both, not_yes}
use Rattle.octets.specs.Bytes.{byte_at, part, all_zero, Bytes}
use Rattle.octets.specs.Number.{u16_at, u32_at, u64_at}
use Rattle.octets.proofs.Digits.{bytes_drop, field_below}
use Rattle.octets.proofs.Join.{part_length}
use Rattle.octets.proofs.Same.{same_is, same_self}
use Rattle.octets.proofs.Zero.{zeros_are, zeros_zero}
use Rattle.crc.specs.Crc.{crc32c_with_zero}
use Rattle.volume.specs.declared.TreeRef.{TreeRef}
use Rattle.volume.specs.declared.TreeKind.{TreeKind}
use Rattle.volume.specs.Accept.{VolumeExactly}
use Rattle.volume.specs.References.{tree_kind_value, validate_blocks, validate_page_ref, validate_uuid}
use Rattle.records.specs.Record.{RecordsExactly}
use Rattle.records.proofs.Record.{records_exactly}
use Rattle.volume.proofs.Accept.{volume_exactly}
use Rattle.page.specs.declared.Page.{Page}
use Rattle.page.specs.Header.{magic, page_kind, tree_kind, level, self_block, generation, count, payload_length, total, is_level, caller_demands, check_caller, checksum_fits, format_demands, check_format, is_page_kind, is_tree_kind, level_fits, is_expected, reserved_zero, is_of_tree, kind_demands, check_kind, is_referred, has_uuid, total_allowed, identity_demands, check_identity, header_demands, validate_page_header}
use Rattle.page.specs.Page.{context, validate_page_records, total_fits, padding_zero, enough_children, content_demands, check_content, page_demands, check_page, accepted_page, decode_page}
use Rattle.pages.specs.Records.{LeafRecords}
use Rattle.pages.specs.Accept.{CallerHolds, LeafOrInternal, LevelHolds, KindByte, HeaderHolds, ContentHolds, PageHolds, PageStates, PageExactly, PageAcceptedExactly}
use Rattle.pages.proofs.Records.{value_is, records_walked}

-- ---- a tree's kind and its byte

kind_byte : (k : TreeKind) (b : ℕ) → b ≡ tree_kind_value k → KindByte k b
kind_byte TreeKind.Catalog b e = omega (arith, e)
kind_byte TreeKind.Allocation b e = omega (arith, e)
kind_byte TreeKind.Cleanup b e = omega (arith, e)
kind_byte TreeKind.Workspace b e = omega (arith, e)

pub byte_kind : (k : TreeKind) (b : ℕ) → KindByte k b → b ≡ tree_kind_value k
byte_kind TreeKind.Catalog b e = omega (arith, e)
byte_kind TreeKind.Allocation b e = omega (arith, e)
byte_kind TreeKind.Cleanup b e = omega (arith, e)
byte_kind TreeKind.Workspace b e = omega (arith, e)

-- ---- tests that ask only under a condition

-- a test that is asked only where n is m
asked : (n m : ℕ) (b : Bool) → (not (eqb n m) || b) ≡ true → n ≡ m → b ≡ true
asked n m b e p = rw (eq-eqb n m p) at e

unasked : (n m : ℕ) (b : Bool) → (n ≡ m → b ≡ true) → (not (eqb n m) || b) ≡ true
unasked n m b h = go (eqb n m) refl
  where
    go : (t : Bool) → eqb n m ≡ t → (not t || b) ≡ true
    go true p = h (eqb-true n m p)
    go false p = refl

-- the level that is expected, if one is
expected_is : (o : Option ℕ) (page : List ℕ) → is_expected o page ≡ true → (n : ℕ) → o ≡ Some n → byte_at page 14 ≡ n
unfolding is_expected
expected_is None page e n p = absurd cc
expected_is (Some m) page e n p = let q : m ≡ n = cc in sym (eqb-true m (byte_at page 14) e) ∙ q

is_expected_lem : (o : Option ℕ) (page : List ℕ) → ((n : ℕ) → o ≡ Some n → byte_at page 14 ≡ n) → is_expected o page ≡ true
unfolding is_expected
is_expected_lem None page h = refl
is_expected_lem (Some m) page h = eq-eqb m (byte_at page 14) (sym (h m refl))

-- .. it is one that a page can have
known : (o : Option ℕ) (page : List ℕ) → byte_at page 14 ≤ 7 → ((n : ℕ) → o ≡ Some n → byte_at page 14 ≡ n) → is_level o ≡ true
unfolding is_level
known None page l h = refl
known (Some m) page l h = let q : byte_at page 14 ≡ m = h m refl in le-leb m 7 (omega (arith, q))

-- outside the catalog the total is 0
allowed_is : (kind : TreeKind) (page : List ℕ) → total_allowed kind page ≡ true → (kind ≡ TreeKind.Catalog → ⊥) → u64_at page 56 ≡ 0
unfolding total_allowed
allowed_is TreeKind.Catalog page e n = absurd (n refl)
allowed_is TreeKind.Allocation page e n = eqb-true (total page) 0 e
allowed_is TreeKind.Cleanup page e n = eqb-true (total page) 0 e
allowed_is TreeKind.Workspace page e n = eqb-true (total page) 0 e

is_allowed : (kind : TreeKind) (page : List ℕ) → ((kind ≡ TreeKind.Catalog → ⊥) → u64_at page 56 ≡ 0) → total_allowed kind page ≡ true
unfolding total_allowed
is_allowed TreeKind.Catalog page h = refl
is_allowed TreeKind.Allocation page h = eq-eqb (total page) 0 (h (λ (e : TreeKind.Allocation ≡ TreeKind.Catalog). absurd cc))
is_allowed TreeKind.Cleanup page h = eq-eqb (total page) 0 (h (λ (e : TreeKind.Cleanup ≡ TreeKind.Catalog). absurd cc))
is_allowed TreeKind.Workspace page h = eq-eqb (total page) 0 (h (λ (e : TreeKind.Workspace ≡ TreeKind.Catalog). absurd cc))

-- ---- from the chain to the rules, and back

module _ (volume : VolumeExactly) (exact : RecordsExactly) (reference : TreeRef) (uuid : List ℕ) (kind : TreeKind) (parent_generation : ℕ) (expected_level : Option ℕ) (blocks : ℕ) (page : List ℕ) where
  caller_holds : check_caller reference uuid kind parent_generation expected_level blocks page ≡ Ok tt → CallerHolds reference uuid kind parent_generation blocks page
  unfolding check_caller
  caller_holds e =
      let h = all_hold (caller_demands reference uuid kind parent_generation expected_level blocks page) e in
      let n : reference.generation ≤ parent_generation = leb-true reference.generation parent_generation (and_right (not (eqb parent_generation 0)) (leb reference.generation parent_generation) h.1.1.1.1.0) in
      record {
        size = eqb-true (length page) 4096 h.0;
        geometry = (volume.blocks blocks Input).0 (passed_is (validate_blocks blocks Input) h.1.0);
        place = (volume.page_ref reference kind blocks Input).0 (passed_is (validate_page_ref reference kind blocks Input) h.1.1.0);
        volume = (volume.uuid uuid Input).0 (passed_is (validate_uuid uuid Input) h.1.1.1.0);
        not_newer = omega (arith, n);
      }

  caller_passes : CallerHolds reference uuid kind parent_generation blocks page → LevelHolds expected_level page → check_caller reference uuid kind parent_generation expected_level blocks page ≡ Ok tt
  unfolding check_caller
  caller_passes h l =
      all_pass (caller_demands reference uuid kind parent_generation expected_level blocks page) (
        eq-eqb (length page) 4096 h.size,
        (
          passed_test (validate_blocks blocks Input) tt ((volume.blocks blocks Input).1 h.geometry),
          (
            passed_test (validate_page_ref reference kind blocks Input) tt ((volume.page_ref reference kind blocks Input).1 h.place),
            (
              passed_test (validate_uuid uuid Input) tt ((volume.uuid uuid Input).1 h.volume),
              (
                and_both (not (eqb parent_generation 0)) (leb reference.generation parent_generation) (not_yes (eqb parent_generation 0) (ne_eqb parent_generation 0 given)) (le-leb reference.generation parent_generation (omega (arith, h.not_newer))),
                (known expected_level page (few l.kind) l.expected, tt),
              ),
            ),
          ),
        ),
      )
    where
      given : parent_generation ≡ 0 → ⊥
      given z = omega (arith, h.place.generation, h.not_newer)

      few : LeafOrInternal page → byte_at page 14 ≤ 7
      few (inl p) = omega (arith, p.1)
      few (inr p) = omega (arith, p.2)

  level_holds : check_kind kind expected_level page ≡ Ok tt → LevelHolds expected_level page
  unfolding check_kind is_page_kind level_fits
  level_holds e =
      let k = all_hold (kind_demands kind expected_level page) e in
      let leaf : Bool = not (eqb (page_kind page) 1) || eqb (level page) 0 in
      let range : Bool = leb 1 (level page) && leb (level page) 7 in
      let inner : Bool = not (eqb (page_kind page) 2) || range in
      record {
        kind = go (one_of (page_kind page) 1 2 k.0) (and_left leaf inner k.1.1.1.0) (and_right leaf inner k.1.1.1.0);
        expected = expected_is expected_level page k.1.1.1.1.0;
      }
    where
      go : (page_kind page ≡ 1) ⊎ (page_kind page ≡ 2) → (not (eqb (page_kind page) 1) || eqb (level page) 0) ≡ true → (not (eqb (page_kind page) 2) || (leb 1 (level page) && leb (level page) 7)) ≡ true
          → LeafOrInternal page
      go (inl p) l i =
          let z : level page ≡ 0 = eqb-true (level page) 0 (asked (page_kind page) 1 (eqb (level page) 0) l p) in
          inl (omega (arith, p), omega (arith, z))
      go (inr p) l i =
          let r = asked (page_kind page) 2 (leb 1 (level page) && leb (level page) 7) i p in
          let a : 1 ≤ level page = leb-true 1 (level page) (and_left (leb 1 (level page)) (leb (level page) 7) r) in
          let b : level page ≤ 7 = leb-true (level page) 7 (and_right (leb 1 (level page)) (leb (level page) 7) r) in
          inr (omega (arith, p), omega (arith, a), omega (arith, b))

  header_holds : length page ≡ 4096 → check_format page ≡ Ok tt → check_kind kind expected_level page ≡ Ok tt → check_identity reference uuid kind parent_generation blocks page ≡ Ok tt → HeaderHolds reference uuid kind expected_level blocks page
  unfolding check_format check_kind check_identity checksum_fits reserved_zero is_of_tree is_referred has_uuid
  header_holds size fe ke ie =
      let f = all_hold (format_demands page) fe in
      let no : u16_at page 10 ≡ 0 = eqb-true (u16_at page 10) 0 f.1.1.1.0 in
      let k = all_hold (kind_demands kind expected_level page) ke in
      let i = all_hold (identity_demands reference uuid kind parent_generation blocks page) ie in
      let z15 : Bool = eqb (byte_at page 15) 0 in
      let z36 : Bool = all_zero (part page 36 4) in
      let z68 : Bool = all_zero (part page 68 12) in
      let z : (z15 && (z36 && z68)) ≡ true = k.1.1.1.1.1.0 in
      let b16 : Bool = eqb (self_block page) reference.block in
      let b24 : Bool = eqb (generation page) reference.generation in
      let bp : Bool = leb (generation page) parent_generation in
      record {
        magic_is = same_is (part page 0 8) magic f.1.0;
        revision = eqb-true (u16_at page 8) 1 f.1.1.0;
        flags = omega (arith, no);
        level = level_holds ke;
        tree_kind = kind_byte kind (tree_kind page) (eqb-true (tree_kind page) (tree_kind_value kind) k.1.1.0);
        zero_15 = eqb-true (byte_at page 15) 0 (and_left z15 (z36 && z68) z);
        block = eqb-true (self_block page) reference.block (and_left b16 (b24 && bp) i.0);
        generation = eqb-true (generation page) reference.generation (and_left b24 bp (and_right b16 (b24 && bp) i.0));
        payload_fits = leb-true (payload_length page) 4016 i.1.1.0;
        zero_36 = zeros_are (part page 36 4) 4 (part_length page 36 4 (omega (arith, size))) (and_left z36 z68 (and_right z15 (z36 && z68) z));
        uuid_is = same_is (part page 40 16) uuid i.1.0;
        total_fits = leb-true (total page) blocks i.1.1.1.0;
        total_allowed = allowed_is kind page i.1.1.1.1.0;
        checksum = sym (eqb-true (crc32c_with_zero page 64 68) (u32_at page 64) f.0);
        zero_68 = zeros_are (part page 68 12) 12 (part_length page 68 12 (omega (arith, size))) (and_right z36 z68 (and_right z15 (z36 && z68) z));
      }

  format_passes : HeaderHolds reference uuid kind expected_level blocks page → check_format page ≡ Ok tt
  unfolding check_format checksum_fits
  format_passes h =
      all_pass (format_demands page) (
        eq-eqb (crc32c_with_zero page 64 68) (u32_at page 64) (sym h.checksum),
        (
          rw h.magic_is,
          (eq-eqb (u16_at page 8) 1 h.revision, (eq-eqb (u16_at page 10) 0 (omega (arith, h.flags)), tt)),
        ),
      )

  kind_passes : HeaderHolds reference uuid kind expected_level blocks page → check_kind kind expected_level page ≡ Ok tt
  unfolding check_kind is_page_kind is_tree_kind level_fits reserved_zero is_of_tree
  kind_passes h =
      all_pass (kind_demands kind expected_level page) (
        is_one_of_lem (page_kind page) 1 2 (kinds h.level.kind),
        (
          numbered kind (byte_kind kind (tree_kind page) h.tree_kind),
          (
            eq-eqb (tree_kind page) (tree_kind_value kind) (byte_kind kind (tree_kind page) h.tree_kind),
            (
              levels h.level.kind,
              (
                is_expected_lem expected_level page h.level.expected,
                (and_both (eqb (byte_at page 15) 0) (all_zero (part page 36 4) && all_zero (part page 68 12)) (eq-eqb (byte_at page 15) 0 h.zero_15) (and_both (all_zero (part page 36 4)) (all_zero (part page 68 12)) (ap all_zero h.zero_36 ∙ zeros_zero 4) (ap all_zero h.zero_68 ∙ zeros_zero 12)), tt),
              ),
            ),
          ),
        ),
      )
    where
      kinds : LeafOrInternal page → (page_kind page ≡ 1) ⊎ (page_kind page ≡ 2)
      kinds (inl p) = inl (omega (arith, p.0))
      kinds (inr p) = inr (omega (arith, p.0))

      levels : LeafOrInternal page → ((not (eqb (page_kind page) 1) || eqb (level page) 0) && (not (eqb (page_kind page) 2) || (leb 1 (level page) && leb (level page) 7))) ≡ true
      levels (inl p) = rw (p.0, p.1)
      levels (inr p) = rw (p.0, le-leb 1 (level page) (omega (arith, p.1)), le-leb (level page) 7 (omega (arith, p.2)))

      numbered : (k : TreeKind) → tree_kind page ≡ tree_kind_value k → (leb 1 (tree_kind page) && leb (tree_kind page) 4) ≡ true
      numbered TreeKind.Catalog e = rw e
      numbered TreeKind.Allocation e = rw e
      numbered TreeKind.Cleanup e = rw e
      numbered TreeKind.Workspace e = rw e

  identity_passes : reference.generation ≤ parent_generation → HeaderHolds reference uuid kind expected_level blocks page → check_identity reference uuid kind parent_generation blocks page ≡ Ok tt
  unfolding check_identity is_referred has_uuid
  identity_passes newer h =
      all_pass (identity_demands reference uuid kind parent_generation blocks page) (
        and_both (eqb (self_block page) reference.block) (eqb (generation page) reference.generation && leb (generation page) parent_generation)
            (eq-eqb (self_block page) reference.block h.block)
            (and_both (eqb (generation page) reference.generation) (leb (generation page) parent_generation) (eq-eqb (generation page) reference.generation h.generation) (le-leb (generation page) parent_generation (omega (arith, h.generation)))),
        (
          rw h.uuid_is (same_self uuid),
          (
            le-leb (payload_length page) 4016 h.payload_fits,
            (le-leb (total page) blocks h.total_fits, (is_allowed kind page h.total_allowed, tt)),
          ),
        ),
      )

  -- ---- the content

  abbrev payload : List ℕ
  payload = part page 80 (u16_at page 34)

  content_holds : length page ≡ 4096 → Bytes page → check_content kind blocks page ≡ Ok tt → ContentHolds kind blocks page
  unfolding check_content validate_page_records total_fits padding_zero enough_children
  content_holds size bytes e =
      let c = all_hold (content_demands kind blocks page) e in
      let r = validate_page_records kind blocks page in
      let h = (records_walked exact (drop 80 page) (payload_length page) (count page) (context kind blocks page) (number_of r) (bytes_drop page 80 bytes)).0 (value_is r (number_passed r c.0)) in
      record {
        leaf = λ p. subst (λ (n : ℕ). LeafRecords kind blocks (u64_at page 24) payload (u16_at page 32) n) (sym (eqb-true (total page) (number_of r) (asked (page_kind page) 1 (eqb (total page) (number_of r)) c.1.0 p))) (h.leaf p).0;
        internal = λ p.
            let two : 2 ≤ count page = leb-true 2 (count page) (asked (page_kind page) 2 (leb 2 (count page)) c.1.1.1.0 p) in
            ((h.internal (λ q. omega (arith, p, q))).0, omega (arith, two));
        padding = zeros_are (drop (80 + payload_length page) page) (4016 - payload_length page) (length-drop (80 + payload_length page) page ∙ omega (arith, size)) c.1.1.0;
      }

  -- the walk's answer: a leaf's total, 0 of an internal page
  walked : CallerHolds reference uuid kind parent_generation blocks page → HeaderHolds reference uuid kind expected_level blocks page → Bytes page → ContentHolds kind blocks page
      → (byte_at page 12 ≡ 1) × (validate_page_records kind blocks page ≡ Ok (u64_at page 56)) ⊎ (byte_at page 12 ≡ 2) × (validate_page_records kind blocks page ≡ Ok 0)
  unfolding validate_page_records
  walked caller header bytes h = go header.level.kind
    where
      inside : payload_length page ≤ length (drop 80 page)
      inside = omega (arith, header.payload_fits, caller.size, length-drop 80 page)

      go : LeafOrInternal page → (byte_at page 12 ≡ 1) × (validate_page_records kind blocks page ≡ Ok (u64_at page 56)) ⊎ (byte_at page 12 ≡ 2) × (validate_page_records kind blocks page ≡ Ok 0)
      go (inl p) = inl (
        p.0,
        (records_walked exact (drop 80 page) (payload_length page) (count page) (context kind blocks page) (u64_at page 56) (bytes_drop page 80 bytes)).1
            (record { inside = inside; leaf = λ q. (h.leaf q, field_below page 56 8 bytes (omega (arith, caller.size))); internal = λ n. absurd (n p.0) }),
      )
      go (inr p) = inr (
        p.0,
        (records_walked exact (drop 80 page) (payload_length page) (count page) (context kind blocks page) 0 (bytes_drop page 80 bytes)).1
            (record { inside = inside; leaf = λ (q : byte_at page 12 ≡ 1). absurd (omega (arith, p.0, q)); internal = λ n. ((h.internal p.0).0, refl) }),
      )

  content_passes : CallerHolds reference uuid kind parent_generation blocks page → HeaderHolds reference uuid kind expected_level blocks page → Bytes page → ContentHolds kind blocks page → check_content kind blocks page ≡ Ok tt
  unfolding check_content total_fits padding_zero enough_children
  content_passes caller header bytes h = go (walked caller header bytes h)
    where
      zeros : all_zero (drop (80 + payload_length page) page) ≡ true
      zeros = ap all_zero h.padding ∙ zeros_zero (4016 - u16_at page 34)

      enough : (not (eqb (page_kind page) 2) || leb 2 (count page)) ≡ true
      enough = unasked (page_kind page) 2 (leb 2 (count page)) (λ p. le-leb 2 (count page) (omega (arith, (h.internal p).1)))

      go : (byte_at page 12 ≡ 1) × (validate_page_records kind blocks page ≡ Ok (u64_at page 56)) ⊎ (byte_at page 12 ≡ 2) × (validate_page_records kind blocks page ≡ Ok 0)
          → check_content kind blocks page ≡ Ok tt
      go (inl p) = all_pass (content_demands kind blocks page) (
        number_test (validate_page_records kind blocks page) (ap number_check p.1),
        (unasked (page_kind page) 1 (eqb (total page) (number_of (validate_page_records kind blocks page))) (λ q. eq-eqb (total page) (number_of (validate_page_records kind blocks page)) (sym (ap number_of p.1))), (zeros, (enough, tt))),
      )
      go (inr p) = all_pass (content_demands kind blocks page) (
        number_test (validate_page_records kind blocks page) (ap number_check p.1),
        (unasked (page_kind page) 1 (eqb (total page) (number_of (validate_page_records kind blocks page))) (λ (q : byte_at page 12 ≡ 1). absurd (omega (arith, p.0, q))), (zeros, (enough, tt))),
      )

  -- ---- the page

  pub page_holds : Bytes page → check_page reference uuid kind parent_generation expected_level blocks page ≡ Ok tt → PageHolds reference uuid kind parent_generation expected_level blocks page
  unfolding check_page validate_page_header
  page_holds bytes e =
      let h = all_hold (page_demands reference uuid kind parent_generation expected_level blocks page) e in
      let g = all_hold (header_demands reference uuid kind parent_generation expected_level blocks page) (passed_is (validate_page_header reference uuid kind parent_generation expected_level blocks page) h.0) in
      let c = caller_holds (passed_is (check_caller reference uuid kind parent_generation expected_level blocks page) g.0) in
      record {
        caller = c;
        header = header_holds c.size (passed_is (check_format page) g.1.0) (passed_is (check_kind kind expected_level page) g.1.1.0) (passed_is (check_identity reference uuid kind parent_generation blocks page) g.1.1.1.0);
        content = content_holds c.size bytes (passed_is (check_content kind blocks page) h.1.0);
      }

  pub page_passes : Bytes page → PageHolds reference uuid kind parent_generation expected_level blocks page → check_page reference uuid kind parent_generation expected_level blocks page ≡ Ok tt
  unfolding check_page validate_page_header
  page_passes bytes h =
      all_pass (page_demands reference uuid kind parent_generation expected_level blocks page) (
        passed_test (validate_page_header reference uuid kind parent_generation expected_level blocks page) tt
            (all_pass (header_demands reference uuid kind parent_generation expected_level blocks page) (
              passed_test (check_caller reference uuid kind parent_generation expected_level blocks page) tt (caller_passes h.caller h.header.level),
              (
                passed_test (check_format page) tt (format_passes h.header),
                (
                  passed_test (check_kind kind expected_level page) tt (kind_passes h.header),
                  (passed_test (check_identity reference uuid kind parent_generation blocks page) tt (identity_passes (omega (arith, h.caller.not_newer)) h.header), tt),
                ),
              ),
            )),
        (passed_test (check_content kind blocks page) tt (content_passes h.caller h.header bytes h.content), tt),
      )

-- what a page states is the answer, field by field
states : (page : List ℕ) (answer : Page) → answer ≡ accepted_page page → PageStates page answer
states page answer e = record {
  level = ap (λ (a : Page). a.level) e;
  total = ap (λ (a : Page). a.data_blocks) e;
  count = ap (λ (a : Page). a.count) e;
  start = ap (λ (a : Page). a.start) e;
  end = ap (λ (a : Page). a.end) e;
}

stated : (page : List ℕ) (answer : Page) → PageStates page answer → answer ≡ accepted_page page
stated page answer s = rw (sym s.level, sym s.total, sym s.count, sym s.end, sym s.start) refl

-- a page is answered with what it states exactly where all its checks pass
page_exactly_by : VolumeExactly → RecordsExactly → PageExactly
unfolding decode_page check_page
page_exactly_by volume exact reference uuid kind parent_generation expected_level blocks page answer bytes =
    let ds = page_demands reference uuid kind parent_generation expected_level blocks page in
    let given = given_exactly ds (accepted_page page) answer in (
      λ e. (page_holds volume exact reference uuid kind parent_generation expected_level blocks page bytes (all_pass ds (given.0 e).0), states page answer (given.0 e).1),
      λ h. given.1 (all_hold ds (page_passes volume exact reference uuid kind parent_generation expected_level blocks page bytes h.0), stated page answer h.1),
    )

pub page_exactly : PageExactly
page_exactly = page_exactly_by volume_exactly records_exactly

-- class 0 is an answer, and what it states is given
pub page_accepted_exactly : PageAcceptedExactly
page_accepted_exactly reference uuid kind parent_generation expected_level blocks page bytes = (
  holds (decode_page reference uuid kind parent_generation expected_level blocks page) refl,
  λ h. ap check_class ((exactly (accepted_page page)).1 (h, states page (accepted_page page) refl)),
)
  where
    exactly : (answer : Page) → (decode_page reference uuid kind parent_generation expected_level blocks page ≡ Ok answer) ↔ (PageHolds reference uuid kind parent_generation expected_level blocks page × PageStates page answer)
    exactly answer = page_exactly reference uuid kind parent_generation expected_level blocks page answer bytes

    holds : (r : Result Page Error) → decode_page reference uuid kind parent_generation expected_level blocks page ≡ r → check_class r ≡ 0 → PageHolds reference uuid kind parent_generation expected_level blocks page
    holds (Ok answer) e p = ((exactly answer).0 e).0
    holds (Err x) e p = absurd (class_some x p)
