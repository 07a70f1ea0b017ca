-- Demand 3 for checksum groups (01, "What demand 3 compares"): two accepted groups are the same bytes exactly when all 256 slots agree.
use Rattle.std.specs.Prelude.{ℕ, ◌+◌, ◌*◌, ◌<◌, ◌≡◌, ◌↔◌, cond, List, [], ◌∷◌, ◌++◌, replicate}
use Rattle.error.specs.declared.Validation.{Validation}
use Rattle.std.specs.Prelude.{Ok}
use Rattle.error.specs.declared.Validation.TheVariants.{Disk}
use Rattle.error.specs.Answer.{check_class}
use Rattle.octets.specs.Bytes.{Bytes, bit_set}
use Rattle.octets.specs.Number.{u32_at}
use Rattle.group.specs.Slots.{Slot, presence, word_in}
use Rattle.group.specs.Group.{checksum_slot, expand_group, validate_checksum_group}

-- 01, "What demand 3 compares": two slots agree in presence and word
pub record Same (x y : Slot) : Type 0 where
  pub presence_same : presence x ≡ presence y
  pub word_same : word_in x ≡ word_in y

-- a group's bytes are accepted with a key and a mode
pub record Accepted (key group : List ℕ) (mode : Validation) : Type 0 where
  pub bytes : Bytes group
  pub passed : validate_checksum_group key group mode ≡ Ok tt

-- each group with its own key and mode, lent to `checksum_slot` as stored
abbrev pub GroupsAgree : Type 0
GroupsAgree =
    (key₁ group₁ : List ℕ) (mode₁ : Validation) (key₂ group₂ : List ℕ) (mode₂ : Validation)
    → Accepted key₁ group₁ mode₁ → Accepted key₂ group₂ mode₂
    → (group₁ ≡ group₂) ↔ ((s : ℕ) → s < 256 → Same (checksum_slot group₁ s) (checksum_slot group₂ s))

-- a slot of the expanded form is the slot of the stored form
abbrev pub ExpandedSlots : Type 0
ExpandedSlots =
    (key group : List ℕ) (mode : Validation) → Accepted key group mode → (s : ℕ) → checksum_slot (expand_group group) s ≡ checksum_slot group s

-- so the same is said by the slots of the expanded forms
abbrev pub ExpandedGroupsAgree : Type 0
ExpandedGroupsAgree =
    (key₁ group₁ : List ℕ) (mode₁ : Validation) (key₂ group₂ : List ℕ) (mode₂ : Validation)
    → Accepted key₁ group₁ mode₁ → Accepted key₂ group₂ mode₂
    → (group₁ ≡ group₂) ↔ ((s : ℕ) → s < 256 → Same (checksum_slot (expand_group group₁) s) (checksum_slot (expand_group group₂) s))

-- 01, section 6 and "What demand 3 compares": a slot's answer isn't a refusal; its presence is the slot's bit in the group, its word the u32 at 32 + 4 s, or 0 where the slot isn't present
pub record SlotTold (group : List ℕ) (s : ℕ) (answer : Slot) : Type 0 where
  pub class : check_class answer ≡ 0
  pub presence_is : presence answer ≡ bit_set group s
  pub word_is : word_in answer ≡ cond (bit_set group s) (u32_at group (32 + 4 * s)) 0

-- so is every slot of an accepted group, lent as stored or expanded
abbrev pub SlotsAreTold : Type 0
SlotsAreTold =
    (key group : List ℕ) (mode : Validation) → Accepted key group mode → (s : ℕ) → s < 256
    → SlotTold group s (checksum_slot group s) × SlotTold group s (checksum_slot (expand_group group) s)

-- READING-RULES 9.1: a group's key: of object 1, its first
abbrev pub some_key : List ℕ
some_key = replicate 7 0 ++ (1 ∷ 4 ∷ replicate 8 0)

-- 01, section 6: slots 0 and 2 are present, and slot 1 is a hole
abbrev pub some_group : List ℕ
some_group = 5 ∷ (replicate 31 0 ++ (1 ∷ 2 ∷ 3 ∷ 4 ∷ 0 ∷ 0 ∷ 0 ∷ 0 ∷ 5 ∷ 6 ∷ 7 ∷ 8 ∷ []))

-- they are accepted, so that the claims on accepted groups aren't empty
abbrev pub SomeGroupAccepted : Type 0
SomeGroupAccepted = Accepted some_key some_group Disk
