-- Which values a set of types allows: JSON Schema 2020-12, validation, section 6.1.1.
use Rattle.std.specs.Prelude.{◌≡◌, ◌⊎◌, IsTrue}
use Rattle.json_model.specs.Decimal.{IsWhole}
use Rattle.json_model.specs.Tree.{Tree}
use Rattle.json_model.specs.Parts.{is_number}
use Rattle.json_traits.specs.Kinds.{type_of}
use Rattle.json_traits.specs.Numbers.{decimal_in}
use Rattle.json_traits.specs.Sets.{holds}
use Rattle.json_traits.specs.declared.types.json_type.JsonType.{JsonType}
use Rattle.json_traits.specs.declared.types.json_type.JsonType.TheVariants.{Integer}
use Rattle.json_traits.specs.declared.types.set.JsonTypeSet.{JsonTypeSet}

-- a number whose value is whole, however it is written
abbrev pub IsInteger : Tree → Type 0
IsInteger t = IsTrue (is_number t) × IsWhole (decimal_in t)

-- a tree is of its own type, and a whole number is an integer too
abbrev pub IsOfType : Tree → JsonType → Type 0
IsOfType t ty = (ty ≡ type_of t) ⊎ ((ty ≡ Integer) × IsInteger t)

-- the set holds a type that the tree is of
abbrev pub AllowsType : JsonTypeSet → Tree → Type 0
AllowsType set t = (ty : JsonType) × IsTrue (holds set ty) × IsOfType t ty
