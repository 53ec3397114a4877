use Rattle.pattern_tree.proofs.Leads.{one_spelled}
use Rattle.pattern_tree.proofs.laws.one_tree.Goals as goal

pub returns : goal.returns
returns c = one_spelled
