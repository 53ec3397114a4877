-- The names of the seven types (JSON Schema 2020-12, validation, section 6.1.1).
use Rattle.std.specs.Prelude.{ℕ, List, codes}
use Rattle.json_traits.specs.declared.types.json_type.JsonType.{JsonType}
use Rattle.json_traits.specs.declared.types.json_type.JsonType.TheVariants.{Null, Boolean, Integer, Number, String, Array, Object}

abbrev pub name_of : JsonType → List ℕ
name_of Null = codes "null"
name_of Boolean = codes "boolean"
name_of Integer = codes "integer"
name_of Number = codes "number"
name_of String = codes "string"
name_of Array = codes "array"
name_of Object = codes "object"
