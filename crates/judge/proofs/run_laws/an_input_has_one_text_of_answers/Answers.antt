use Rattle.judge.proofs.InputAnswers.{one_answers, one_codes, some_answers, some_codes}
use Rattle.judge.proofs.run_laws.an_input_has_one_text_of_answers.Goals as goal

pub returns-clause-some_check : goal.returns-clause-some_check
returns-clause-some_check c = some_answers

pub returns-clause-one_check : goal.returns-clause-one_check
returns-clause-one_check c = one_answers

pub returns-clause-some_encode : goal.returns-clause-some_encode
returns-clause-some_encode c = some_codes

pub returns-clause-one_encode : goal.returns-clause-one_encode
returns-clause-one_encode c = one_codes
