-- The trees of the nodes.
use Rattle.json_model.specs.Tree.{Tree}
use Rattle.jsonb.specs.inner.Values.{value_of, or_null, array_at, object_at}
use Rattle.jsonb.specs.inner.Views.{place}
use Rattle.jsonb.specs.declared.kind.Kind.TheVariants as kinds
use Rattle.jsonb.specs.declared.array.JsonbArray.{JsonbArray}
use Rattle.jsonb.specs.declared.node.JsonbNode.{JsonbNode}
use Rattle.jsonb.specs.declared.number.JsonbNumber.{JsonbNumber}
use Rattle.jsonb.specs.declared.object.JsonbObject.{JsonbObject}

-- the tree that a node stands for
abbrev pub node_tree : JsonbNode → Tree
node_tree n = or_null (value_of n.kind n.bytes.now)

abbrev pub number_tree : JsonbNumber → Tree
number_tree n = or_null (value_of kinds.Number n.bytes.now)

abbrev pub array_tree : JsonbArray → Tree
array_tree a = or_null (array_at a.elements.count (place a.elements.start))

abbrev pub object_tree : JsonbObject → Tree
object_tree o = or_null (object_at o.keys.count (place o.keys.start))
