use Rattle.pattern_model.proofs.OrderLaws.{spelled_ordered}
use Rattle.pattern_tree.proofs.laws.trees_are_ordered.Goals as goal

pub returns : goal.returns
returns c = spelled_ordered
