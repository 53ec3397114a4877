-- The type of a tree: JSON Schema 2020-12, validation, section 6.1.1. A number's is `number`, whatever its value.
use Rattle.json_model.specs.Tree.{null, boolean, number, string, Tree, scalar, array, object}
use Rattle.json_traits.specs.declared.types.json_type.JsonType.{JsonType}
use Rattle.json_traits.specs.declared.types.json_type.JsonType.TheVariants.{Null, Boolean, Number, String, Array, Object}

abbrev pub type_of : Tree → JsonType
type_of (scalar null) = Null
type_of (scalar (boolean b)) = Boolean
type_of (scalar (number d)) = Number
type_of (scalar (string s)) = String
type_of (array ts) = Array
type_of (object ms) = Object
