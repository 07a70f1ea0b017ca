-- The calls of docs/PROBE-ADDED.md: the numbers and strings that each takes, in their order.
use Rattle.std.specs.Prelude.{ℕ, List, [], ◌∷◌, ◌++◌, replicate}
use Rattle.shape.specs.declared.Item.{Item}
use Rattle.shape.specs.declared.Item.TheVariants.{Number, Units}
use Rattle.shape.specs.Call.{Front}
use Rattle.shape.specs.Calls.{any_number, byte_number, flag_number, kind_number, any_string, uuid_string, label_string, Taken, ◌takes◌, front_by, strings_by}

-- the length of an image: at most 640 blocks
abbrev pub image_length : Item
image_length = Number 0 2621440

-- pages of an image: a block's number, eight bytes, and its 4,096 bytes each
abbrev pub image_pages : Item
image_pages = Units 4104 80000

-- a root's numbers, as of a made-up one without present
abbrev pub root_parts : List Item
root_parts = flag_number ∷ byte_number ∷ replicate 14 any_number

-- the table
unfoldable pub added : List Taken
added =
    60 takes (any_number ∷ kind_number ∷ (root_parts ++ (image_length ∷ uuid_string ∷ label_string ∷ any_string ∷ image_pages ∷ [])))
    ∷ []

-- the call of probe_added at the front of the input
abbrev pub added_front : List ℕ → Front
added_front input = front_by added input

-- where its strings start
unfoldable pub added_strings_at : ℕ → ℕ
added_strings_at call = strings_by added call
