use Rattle.json_exact.specs.Trees.{tree}
use Rattle.flat_keywords.proofs.OneAnswer.{one_on_trees}
use Rattle.flat_keywords.proofs.laws.one_answer_on_values.Goals as goal

pub returns : goal.returns
returns c = one_on_trees (tree c.args.keywords.now) (tree c.args.document.now)
