use Rattle.judge_c.proofs.Numbers.{given_memory}
use Rattle.judge_c.proofs.one.judge_c_judge.Goals as goal

pub returns-clause-free : goal.returns-clause-free
returns-clause-free c =
    λ t u stands le lean there flat free is.
    c.judge.ensures.free t u stands le lean there flat free (given_memory c.of.result c.judge.result c.of.ensures is)
