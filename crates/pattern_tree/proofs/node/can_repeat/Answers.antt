use Rattle.pattern_tree.proofs.NodeLemmas.{can_repeat_at}
use Rattle.pattern_tree.proofs.node.can_repeat.Goals as goal

pub returns : goal.returns
returns c = can_repeat_at c.args.nodes.now c.args.id _ c.repeats.result c.requires c.repeats.ensures
