use Rattle.judge.proofs.CodeAnswers.{one_code, some_code}
use Rattle.judge.proofs.LineAnswers.{one_line_answer, some_line_answer}
use Rattle.judge.proofs.run_laws.a_line_has_one_answer.Goals as goal

pub returns-clause-some_check : goal.returns-clause-some_check
returns-clause-some_check c = some_line_answer

pub returns-clause-one_check : goal.returns-clause-one_check
returns-clause-one_check c = one_line_answer

pub returns-clause-some_encode : goal.returns-clause-some_encode
returns-clause-some_encode c = some_code

pub returns-clause-one_encode : goal.returns-clause-one_encode
returns-clause-one_encode c = one_code
