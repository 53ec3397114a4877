use Rattle.jsonb.proofs.PlaceLaws.{tree_of_place}
use Rattle.jsonb.proofs.laws.a_node_has_the_tree_of_its_place.Goals as goal

pub returns : goal.returns
returns c = λ t way h k. tree_of_place c.args.root.now c.args.node.now t way h k
