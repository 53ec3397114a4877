-- The bit of each type in a set, and the order of the types. This project's own; the seven types are those of JSON Schema
-- 2020-12, validation, section 6.1.1.
use Rattle.std.specs.Prelude.{ℕ, List, [], ◌∷◌, Bool, nat_eq, ◌/◌, ◌%◌}
use Rattle.json_traits.specs.declared.types.json_type.JsonType.{JsonType}
use Rattle.json_traits.specs.declared.types.json_type.JsonType.TheVariants.{Null, Boolean, Integer, Number, String, Array, Object}

-- `ty as u8`
abbrev pub weight : JsonType → ℕ
weight Null = 1
weight Boolean = 2
weight Integer = 4
weight Number = 8
weight String = 16
weight Array = 32
weight Object = 64

-- whether two types are one
abbrev pub same : JsonType → JsonType → Bool
same a b = nat_eq (weight a) (weight b)

-- the seven, in order
abbrev pub all_types : List JsonType
all_types = Null ∷ Boolean ∷ Integer ∷ Number ∷ String ∷ Array ∷ Object ∷ []

-- whether the bit of a type is set in a byte
abbrev pub is_set : ℕ → JsonType → Bool
is_set byte ty = nat_eq (byte / weight ty % 2) 1
