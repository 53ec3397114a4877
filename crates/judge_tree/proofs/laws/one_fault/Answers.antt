use Rattle.judge_tree.proofs.OneAnswer.{one_fault}
use Rattle.judge_tree.proofs.laws.one_fault.Goals as goal

pub returns : goal.returns
returns c = one_fault
