use Rattle.rust_pattern_model.proofs.AlikeLaws.{alike_matches}
use Rattle.rust_pattern_model.proofs.laws.alike_trees_match_alike.Goals as goal

pub returns-clause-there : goal.returns-clause-there
returns-clause-there c = λ t u a y i j. (alike_matches t u a y i j).0

pub returns-clause-back : goal.returns-clause-back
returns-clause-back c = λ t u a y i j. (alike_matches t u a y i j).1
