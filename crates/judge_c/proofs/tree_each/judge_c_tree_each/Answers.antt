use Rattle.judge_c.proofs.RightTreeAnswers.{codes_of_checked}
use Rattle.judge_c.proofs.tree_each.judge_c_tree_each.Goals as goal

pub returns-in-Ok-clause-judged : goal.returns-in-Ok-clause-judged
returns-in-Ok-clause-judged c =
    λ is. codes_of_checked c.args.schema.now c.in-Ok.ensures.0 c.in-Ok.ensures.1 c.in-Ok.compiled c.in-Ok.ensures.2
    c.args.documents.now c.args.offsets.now c.judge_all.new.codes c.judge_all.ensures
