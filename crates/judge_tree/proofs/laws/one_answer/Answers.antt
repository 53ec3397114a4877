use Rattle.judge_tree.proofs.OneAnswer.{one_answer}
use Rattle.judge_tree.proofs.laws.one_answer.Goals as goal

pub returns : goal.returns
returns c = one_answer c.args.schema.now c.args.document.now
