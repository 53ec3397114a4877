-- What the iterators have left. This project's own.
use Rattle.std.specs.Prelude.{ℕ, List, map}
use Rattle.std.specs.Borrow.{Bor}
use Rattle.json_model.specs.Tree.{Tree}
use Rattle.json_exact.specs.MapIteration.{left}
use Rattle.json_exact.specs.Trees.{tree}
use Rattle.json_semantics.specs.Trees.{node_tree}
use Rattle.json_semantics.specs.declared.elements.ValueElements.{ValueElements}
use Rattle.json_semantics.specs.declared.members.SerdeMembersIter.{SerdeMembersIter}
use Rattle.json_semantics.specs.declared.node.ValueNode.{ValueNode}

-- the pair of a borrowed key and a node
abbrev pub member_pair : Bor (List ℕ) × ValueNode → List ℕ × Tree
member_pair p = (p.0.now, node_tree p.1)

abbrev pub members_left : SerdeMembersIter → List (List ℕ × Tree)
members_left it = left it.members

abbrev pub elements_left : ValueElements → List Tree
elements_left it = map tree it.rest.now
