-- How a set of types is shown: the names in order, with `, ` between them, in parentheses. This project's own.
use Rattle.std.specs.Prelude.{ℕ, List, [], ◌∷◌, ◌++◌, codes}
use Rattle.json_traits.specs.declared.types.json_type.JsonType.{JsonType}
use Rattle.json_traits.specs.declared.types.set.JsonTypeSet.{JsonTypeSet}
use Rattle.json_traits.specs.Names.{name_of}
use Rattle.json_traits.specs.Sets.{held}

-- each name behind a `, `
abbrev pub more_names : List JsonType → List ℕ
more_names [] = []
more_names (ty ∷ types) = codes ", " ++ name_of ty ++ more_names types

abbrev pub names : List JsonType → List ℕ
names [] = []
names (ty ∷ types) = name_of ty ++ more_names types

unfoldable pub shown : JsonTypeSet → List ℕ
shown set = codes "(" ++ names (held set) ++ codes ")"
