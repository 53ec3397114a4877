use Rattle.std.proofs.Common.{map, ap, ◌∙◌}
use Rattle.jsonb.specs.Nodes.{array_tree, node_tree, object_tree}
use Rattle.jsonb.specs.Seated.{member_tree, members_left, seat_tree, seats_left}
use Rattle.jsonb.proofs.ElementLaws.{array_seen, object_seen}
use Rattle.jsonb.proofs.element.JsonbNodeElement.parts.Goals as goal

pub returns-in-Some-as_array-clause-tree : goal.returns-in-Some-as_array-clause-tree
returns-in-Some-as_array-clause-tree c =
    array_seen (array_tree c.in-Some-as_array.array) (node_tree c.args.self.now) (map seat_tree (seats_left c.elements.result))
    (ap (map seat_tree) c.elements.ensures.seats ∙ c.elements.ensures.trees) c.in-Some-as_array.ensures.tree

pub returns-in-Some-as_object-clause-tree : goal.returns-in-Some-as_object-clause-tree
returns-in-Some-as_object-clause-tree c =
    object_seen (object_tree c.in-Some-as_object.object) (node_tree c.args.self.now) (map member_tree (members_left c.members.result))
    (ap (map member_tree) c.members.ensures.seats ∙ c.members.ensures.pairs) c.in-Some-as_object.ensures.tree
