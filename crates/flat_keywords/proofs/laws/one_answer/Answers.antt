use Rattle.flat_keywords.proofs.OneAnswer.{one_answer}
use Rattle.flat_keywords.proofs.laws.one_answer.Goals as goal

pub returns : goal.returns
returns c = λ draft. one_answer draft c.args.keywords.now c.args.document.now
