use Rattle.json_exact.specs.Trees.{tree}
use Rattle.flat_keywords.proofs.SomeAnswer.{answer_on_trees}
use Rattle.flat_keywords.proofs.laws.some_answer_on_values.Goals as goal

pub returns : goal.returns
returns c = answer_on_trees (tree c.args.keywords.now) (tree c.args.document.now)
