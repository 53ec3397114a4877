use Rattle.jsonb_encode.proofs.Roots.{short_always, long_always}
use Rattle.jsonb_encode.proofs.laws.short_and_long_fit_each_tree.Goals as goal

pub returns-clause-short : goal.returns-clause-short
returns-clause-short c = λ t. short_always t

pub returns-clause-long : goal.returns-clause-long
returns-clause-long c = λ t. long_always t
