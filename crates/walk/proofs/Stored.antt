-- An entry as it is stored, and the record that is read from it.
use mathlib.Core.Path.{◌≡◌, sym, ap, ap₂, ◌∙◌}
use mathlib.Core.List.{List, [], ◌∷◌, ◌++◌, append_assoc}
use Prim.Native.Nat.{ℕ, ◌+◌, ◌-◌, ◌*◌, ◌/◌, ◌%◌, ◌≤◌, ◌<◌}
use native.Mathlib.Omega.{arith}
use borrow.Author.Tests.{lt-ltb}
use lib.ListN.{length, take, drop, length-append}
use lib.Seq.{take-add, drop-drop, take-append_seam, drop-append_seam, drop_at}
use Rattle.octets.specs.Bytes.{part, Bytes}
use Rattle.octets.specs.Number.{little_bytes, field}
use Rattle.octets.proofs.Join.{part_length}
use Rattle.lookup.specs.Record.{key_len, value_len, record_len, key_of, value_of, split_record}
use Rattle.lookup.specs.Floor.{next_record}
use Rattle.std.specs.Prelude.{Some}
use Rattle.lookup.proofs.RecordLaws.{split_record_lem}
use Rattle.walk.specs.Entries.{Entry, stored}
use Rattle.walk.specs.Found.{found, first_of}

-- ---- an entry, read

pub stored_length : (e : Entry) → length (stored e) ≡ 4 + length e.key + length e.value
stored_length e = omega (arith, length-append e.key e.value)

module _ (e : Entry) (r : List ℕ) where
  front_key : take (length e.key) (drop 4 (stored e ++ r)) ≡ e.key
  front_key = rw append_assoc (take-append_seam e.key (e.value ++ r))

  pub after_stored : drop (4 + length e.key + length e.value) (stored e ++ r) ≡ r
  after_stored = drop_at (stored e) r _ (stored_length e)

  after_key : drop (4 + length e.key) (stored e ++ r) ≡ e.value ++ r
  after_key = sym (drop-drop (length e.key) 4 (stored e ++ r)) ∙ rw append_assoc (drop-append_seam e.key (e.value ++ r))

  -- whose lengths two bytes hold
  module _ (small : 4 + length e.key + length e.value ≤ 3072) where
    pub key_read : key_len (stored e ++ r) ≡ length e.key
    unfolding field
    key_read = omega arith

    pub value_read : value_len (stored e ++ r) ≡ length e.value
    unfolding field
    value_read = omega arith

    pub split_stored : split_record (stored e ++ r) ≡ Some (record { key_len = length e.key; value_len = length e.value })
    split_stored = sym (split_record_lem (stored e ++ r) _ _ (sym key_read) (sym value_read) (omega (arith, stored_length e, length-append (stored e) r)))

    pub key_stored : key_of (stored e ++ r) ≡ e.key
    key_stored = ap (λ (n : ℕ). take n (drop 4 (stored e ++ r))) key_read ∙ front_key

    pub value_stored : value_of (stored e ++ r) ≡ e.value
    value_stored =
        ap₂ (λ (m n : ℕ). part (stored e ++ r) (4 + m) n) key_read value_read ∙ ap (take (length e.value)) after_key ∙ take-append_seam e.value r

    -- the first of one or more records
    pub first_stored : (n : ℕ) → 0 < n → first_of (stored e ++ r) n ≡ found e.key e.value
    unfolding next_record
    first_stored n l =
        let k : ℕ = length e.key in
        let v : ℕ = length e.value in
        let a : 4 + k - 4 ≡ k = omega arith in
        let b : 4 + k + v - (4 + k) ≡ v = omega arith in
        rw (lt-ltb 0 n l, split_stored)
        (ap₂ found (ap (λ (m : ℕ). part (stored e ++ r) 4 m) a ∙ front_key)
        (ap (λ (m : ℕ). part (stored e ++ r) (4 + k) m) b ∙ ap (take v) after_key ∙ take-append_seam e.value r))

-- ---- bytes, read as an entry

-- the record at the front of s
abbrev pub entry_of : List ℕ → Entry
entry_of s = record { key = key_of s; value = value_of s }

two_bytes_of : (a b n : ℕ) → a < 256 → b < 256 → n ≡ a + 256 * b → little_bytes 2 n ≡ a ∷ b ∷ []
two_bytes_of a b n p q e =
    let low : n % 256 ≡ a = omega arith in
    let next : n / 256 ≡ b = omega arith in
    let high : n / 256 % 256 ≡ b = ap (λ (m : ℕ). m % 256) next ∙ omega arith in
    ap₂ (λ (x y : ℕ). x ∷ y ∷ []) low high

module _ (s : List ℕ) (fits : record_len s ≤ length s) where
  pub key_length_lem : length (key_of s) ≡ key_len s
  key_length_lem = part_length s 4 (key_len s) (omega arith)

  pub value_length_lem : length (value_of s) ≡ value_len s
  value_length_lem = part_length s (4 + key_len s) (value_len s) (omega arith)

  body : key_of s ++ value_of s ≡ take (key_len s + value_len s) (drop 4 s)
  body = sym (take-add (key_len s) (value_len s) (drop 4 s) ∙ ap (λ (l : List ℕ). key_of s ++ take (value_len s) l) (drop-drop (key_len s) 4 s))

  whole : take (record_len s) s ≡ take 4 s ++ take (key_len s + value_len s) (drop 4 s)
  whole =
      let e : record_len s ≡ 4 + (key_len s + value_len s) = omega arith in
      ap (λ (n : ℕ). take n s) e ∙ take-add 4 (key_len s + value_len s) s

pub stored_front : (s : List ℕ) → Bytes s → record_len s ≤ length s → stored (entry_of s) ≡ take (record_len s) s
unfolding field
stored_front [] b f = absurd (omega arith)
stored_front (w ∷ []) b f = absurd (omega arith)
stored_front (w ∷ x ∷ []) b f = absurd (omega arith)
stored_front (w ∷ x ∷ y ∷ []) b f = absurd (omega arith)
stored_front (w ∷ x ∷ y ∷ z ∷ t) b f =
    let s : List ℕ = w ∷ x ∷ y ∷ z ∷ t in
    let k : little_bytes 2 (length (key_of s)) ≡ w ∷ x ∷ [] = two_bytes_of w x _ (b.below 0) (b.below 1) (key_length_lem s f ∙ omega arith) in
    let v : little_bytes 2 (length (value_of s)) ≡ y ∷ z ∷ [] = two_bytes_of y z _ (b.below 2) (b.below 3) (value_length_lem s f ∙ omega arith) in
    ap₂ (λ (l m : List ℕ). l ++ (m ++ (key_of s ++ value_of s))) k v ∙ ap (λ (l : List ℕ). w ∷ x ∷ y ∷ z ∷ l) (body s f) ∙ sym (whole s f)
