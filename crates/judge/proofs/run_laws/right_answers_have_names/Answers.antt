use Rattle.judge.proofs.LineAnswers.{is_named}
use Rattle.judge.proofs.run_laws.right_answers_have_names.Goals as goal

pub returns : goal.returns
returns c = is_named
