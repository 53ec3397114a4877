-- The JSON trees that nodes stand for: RFC 8259, section 3.
use Rattle.std.specs.Prelude.{map}
use Rattle.json_model.specs.Parts.{elements_from, members_from}
use Rattle.json_model.specs.Tree.{Tree, array, object}
use Rattle.json_exact.specs.Trees.{tree, pairs}
use Rattle.json_semantics.specs.declared.array.ValueArray.{ValueArray}
use Rattle.json_semantics.specs.declared.node.ValueNode.{ValueNode}
use Rattle.json_semantics.specs.declared.object.ValueObject.{ValueObject}

abbrev pub node_tree : ValueNode → Tree
node_tree n = tree n.value.now

abbrev pub object_tree : ValueObject → Tree
object_tree o = object (members_from (pairs o.members.now))

abbrev pub array_tree : ValueArray → Tree
array_tree a = array (elements_from (map tree a.elements.now))
