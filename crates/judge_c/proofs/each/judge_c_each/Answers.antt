use Rattle.judge_c.proofs.RightAnswers.{codes_of_checked}
use Rattle.judge_c.proofs.each.judge_c_each.Goals as goal

pub returns-in-Ok-clause-judged : goal.returns-in-Ok-clause-judged
returns-in-Ok-clause-judged c =
    λ is. codes_of_checked c.args.keywords.now c.in-Ok.ensures.0 c.in-Ok.ensures.1 c.in-Ok.checks c.in-Ok.ensures.2
    c.args.documents.now c.args.offsets.now c.judge_all.new.codes c.judge_all.ensures
