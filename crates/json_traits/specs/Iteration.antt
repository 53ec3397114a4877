-- The types that an iterator has left.
use Rattle.std.specs.Prelude.{List}
use Rattle.json_traits.specs.declared.types.json_type.JsonType.{JsonType}
use Rattle.json_traits.specs.declared.types.iter.JsonTypeSetIterator.{JsonTypeSetIterator}
use Rattle.json_traits.specs.Sets.{held}

abbrev pub left : JsonTypeSetIterator → List JsonType
left it = held it.set
