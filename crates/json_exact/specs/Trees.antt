-- The JSON tree that a `Value` stands for: RFC 8259, section 3.
use Rattle.std.specs.Prelude.{ℕ, List, string_bytes}
use Rattle.json_model.specs.Tree.{Tree, scalar, null, boolean, number, string, array, object}
use Rattle.json_model.specs.Parts.{elements_from, members_from}
use Rattle.key_map.specs.Pairs.{key_of}
use Rattle.key_map.specs.declared.map.Member.{Member}
use Rattle.json_exact.specs.declared.value.Value.{Value, fold-Value}
use Rattle.json_exact.specs.declared.map.Map.{Map, fold-Map}
use Rattle.json_exact.specs.declared.value.Value.TheOpen.{Value-F, Map-F}

abbrev pub Pairs : Type 0
Pairs = List (List ℕ × Tree)

-- a value, over the trees inside it
abbrev pub value_step : Value-F Tree Pairs → Tree
value_step Value-F.Null = scalar null
value_step (Value-F.Bool b) = scalar (boolean b)
value_step (Value-F.Number n) = scalar (number n)
value_step (Value-F.String s) = scalar (string (string_bytes s))
value_step (Value-F.Array v) = array (elements_from v.items)
value_step (Value-F.Object m) = object (members_from m)

-- a map, over the trees inside it
abbrev pub map_step : Map-F Tree Pairs → Pairs
map_step m = m.members

abbrev pub tree : Value → Tree
tree = fold-Value Tree Pairs value_step map_step

-- the pairs of a map, in key order
abbrev pub pairs : Map → Pairs
pairs = fold-Map Tree Pairs value_step map_step

-- the pair of a member
abbrev pub member_pair : Member Value → List ℕ × Tree
member_pair m = (key_of m, tree m.value)
