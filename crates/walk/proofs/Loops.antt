-- The turns of the loop, by what the calls in it answered: r is the turn's result, q that of the joining.
use Rattle.std.specs.Prelude.{Result, Ok, Err}
use mathlib.Core.Path.{◌≡◌, refl, sym, ap, ◌∙◌}
use mathlib.Core.Bool.{Bool, true, false, cond}
use mathlib.Core.List.{List, [], ◌∷◌, ◌++◌}
use Prim.Native.Nat.{ℕ, ◌+◌, ◌-◌, ◌%◌, ◌≤◌, ◌<◌}
use native.Mathlib.Numerals.{add-one}
use native.Mathlib.Omega.{arith}
use lib.ListN.{length, take, drop, set, length-drop, length-set}
use Rattle.error.specs.declared.Error.{Error}
use Rattle.error.specs.Answer.{Number, number_check, number_of}
use Rattle.octets.proofs.Parts.{part_from}
use Rattle.lookup.proofs.RecordLaws.{split_record_lem}
use Rattle.lookup.specs.Record.{split_record, is_record}
use Rattle.lookup.specs.Sorted.{offset_of}
use Rattle.walk.specs.declared.RecordValidation.{RecordValidation}
use Rattle.walk.specs.declared.Turn.{Turn}
use Rattle.walk.specs.Records.{Own, leaf_rules, child_rules, own_answer, is_leaf, own_rules, next_blocks, walk}
use Rattle.walk.specs.Inside.{join_of, turn_of, stored_block, stored_blocks, blocks_of, Kept}
use Rattle.walk.proofs.Own.{own_block}
use Rattle.walk.proofs.Children.{lengths_at, offset_more, stored_suc, kept_start, kept_more}
use Rattle.walk.proofs.Going.{Turned, Going, going_start, turn, at_turn, turn_size, own_passed, going_on, going_refused, going_unjoined}

-- the loop, and in an internal page the array of blocks seen so far
pub record Walking (c : RecordValidation) (rest : List ℕ) (payload_length count total : ℕ) (seen : List ℕ) (position : ℕ) (previous : List ℕ) (i : ℕ) : Type 0 where
  pub going : Going (is_leaf c) c.mode (own_rules c) rest payload_length count total (blocks_of (is_leaf c) rest i) position previous i
  pub kept : is_leaf c ≡ false → Kept seen rest i
  pub room : length seen ≡ 192
  pub place : position ≡ offset_of rest i

pub walking_start : (c : RecordValidation) (rest : List ℕ) (payload_length count : ℕ) (seen : List ℕ) → length seen ≡ 192 → Walking c rest payload_length count 0 seen 0 [] 0
unfolding stored_blocks offset_of
walking_start c rest payload_length count seen e = record {
  going = start (is_leaf c);
  kept = λ p. kept_start seen rest e;
  room = e;
  place = refl;
}
  where
    start : (leaf : Bool) → Going leaf c.mode (own_rules c) rest payload_length count 0 (blocks_of leaf rest 0) 0 [] 0
    start true = going_start true c.mode (own_rules c) rest payload_length count
    start false = going_start false c.mode (own_rules c) rest payload_length count

module _ (c : RecordValidation) (rest : List ℕ) (payload_length count total : ℕ) (seen : List ℕ) (position : ℕ) (previous : List ℕ) (i : ℕ) (g : Walking c rest payload_length count total seen position previous i) (more : i < count)
    (r : Result Turn Error) (told : r ≡ turn_of c.mode (own_rules c) (take (length rest - position) (drop position rest)) (payload_length - position) previous) where
  told_here : r ≡ turn (is_leaf c) c.mode (own_rules c) rest payload_length count total (blocks_of (is_leaf c) rest i) position previous i g.going
  told_here = told ∙ ap (λ (s : List ℕ). turn_of c.mode (own_rules c) s (payload_length - position) previous) (part_from rest position)

  pub walk_refused : (x : Error) → r ≡ Err x → Err x ≡ walk (is_leaf c) c.mode (own_rules c) count rest payload_length [] 0 []
  walk_refused x e = going_refused (is_leaf c) c.mode (own_rules c) rest payload_length count total (blocks_of (is_leaf c) rest i) position previous i g.going more x (sym told_here ∙ e)

  module _ (t : Turn) (e : r ≡ Ok t) (q : Number) (joined : q ≡ join_of (is_leaf c) total (blocks_of (is_leaf c) rest i) t.number c.mode) where
    pub walk_unjoined : (x : Error) → q ≡ Err x → Err x ≡ walk (is_leaf c) c.mode (own_rules c) count rest payload_length [] 0 []
    walk_unjoined x f = going_unjoined (is_leaf c) c.mode (own_rules c) rest payload_length count total (blocks_of (is_leaf c) rest i) position previous i g.going more t x (sym told_here ∙ e) (sym joined ∙ f)

    module _ (after : ℕ) (f : q ≡ Ok after) where
      d : Turned (is_leaf c) c.mode (own_rules c) (drop position rest) (payload_length - position) previous total (blocks_of (is_leaf c) rest i) t after
      d = at_turn (is_leaf c) c.mode (own_rules c) rest payload_length count total (blocks_of (is_leaf c) rest i) position previous i g.going more t after (sym told_here ∙ e) (sym joined ∙ f)

      pub walk_size : position + 4 + t.key_len + t.value_len ≤ payload_length
      walk_size = turn_size (is_leaf c) c.mode (own_rules c) rest payload_length count total (blocks_of (is_leaf c) rest i) position previous i g.going more t after (sym told_here ∙ e) (sym joined ∙ f)

      module _ (inside : payload_length ≤ length rest) where
        whole : is_record (split_record (drop position rest)) ≡ true
        whole = rw (← split_record_lem (drop position rest) t.key_len t.value_len d.key_is d.value_is (rw length-drop (omega (arith, walk_size))))

        place_on : position + 4 + t.key_len + t.value_len ≡ offset_of rest (i + 1)
        place_on =
            let l = lengths_at rest position whole in
            omega (arith, offset_more rest i position g.place whole, l.0, l.1, d.key_is, d.value_is)

        -- a child's number is its block, as it is stored
        block_is : is_leaf c ≡ false → t.number ≡ stored_block (drop position rest)
        block_is p =
            let o : own_rules c ≡ child_rules c = ap (λ (b : Bool). cond b (leaf_rules c) (child_rules c)) p in
            let h : number_check (own_answer (own_rules c) (drop position rest)) ≡ Ok tt =
            own_passed (is_leaf c) c.mode (own_rules c) (drop position rest) (payload_length - position) previous total (blocks_of (is_leaf c) rest i) d.passed in
            d.number_is ∙ ap (λ (w : Own). number_of (own_answer w (drop position rest))) o ∙ own_block c (drop position rest) (sym (ap (λ (w : Own). number_check (own_answer w (drop position rest))) o) ∙ h)

        blocks_on : (leaf : Bool) → is_leaf c ≡ leaf → blocks_of leaf rest (i + 1) ≡ next_blocks leaf (blocks_of leaf rest i) t.number
        blocks_on true p = refl
        blocks_on false p =
            ap (stored_blocks rest) (add-one i) ∙ stored_suc rest i ∙ ap (λ (b : ℕ). stored_blocks rest i ++ (b ∷ [])) (ap (λ (p : ℕ). stored_block (drop p rest)) (sym g.place) ∙ sym (block_is p))

        pub walk_on : Walking c rest payload_length count after (set seen (i % 192) t.number) (position + 4 + t.key_len + t.value_len) (take (position + 4 + t.key_len - (position + 4)) (drop (position + 4) rest)) (i + 1)
        walk_on = record {
          going =
              rw (blocks_on (is_leaf c) refl, d.total_is, d.number_is)
              (going_on (is_leaf c) c.mode (own_rules c) rest payload_length count total (blocks_of (is_leaf c) rest i) position previous i g.going more t after (sym told_here ∙ e) (sym joined ∙ f));
          kept = λ p. kept_more seen rest i t.number (g.kept p) (rw (← g.place) whole) (block_is p ∙ ap (λ (p : ℕ). stored_block (drop p rest)) g.place);
          room = length-set seen (i % 192) t.number ∙ g.room;
          place = place_on;
        }
