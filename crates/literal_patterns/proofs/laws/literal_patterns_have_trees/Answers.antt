use Rattle.pattern_model.proofs.LiteralMatches.{literal_matches}
use Rattle.literal_patterns.proofs.laws.literal_patterns_have_trees.Goals as goal

pub returns : goal.returns
returns c = λ x a h. let m = literal_matches x a h in (m.tree, m.has.0, m.has.1)
