-- What a set of types holds.
use Rattle.std.specs.Prelude.{List, [], ◌∷◌, Bool, Option, Some, None, filter}
use Rattle.json_traits.specs.declared.types.json_type.JsonType.{JsonType}
use Rattle.json_traits.specs.declared.types.set.JsonTypeSet.{JsonTypeSet}
use Rattle.json_traits.specs.Weights.{is_set, all_types}

-- whether a set holds a type
abbrev pub holds : JsonTypeSet → JsonType → Bool
holds set ty = is_set set.bits ty

-- the types that a set holds, in order
abbrev pub held : JsonTypeSet → List JsonType
held set = filter (holds set) all_types

abbrev pub first_of : List JsonType → Option JsonType
first_of [] = None
first_of (ty ∷ types) = Some ty
