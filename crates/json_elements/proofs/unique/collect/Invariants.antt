use Rattle.std.proofs.Common.{◌≡◌, ◌++◌, length, map}
use Rattle.json_elements.proofs.unique.collect.Given as goal

abbrev pub invariant-loop-node : goal.invariant-loop-node
invariant-loop-node g l =
    map g.N.HasTree.tree l.nodes.items ++ g.N.Element.trees l.elements ≡ g.N.Element.trees l.initial.elements

abbrev pub decreases-loop-node : goal.decreases-loop-node
decreases-loop-node g l = length (g.N.Element.trees l.elements)
