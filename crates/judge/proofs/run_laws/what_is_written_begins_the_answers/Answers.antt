use Rattle.judge.proofs.InputAnswers.{codes_begin, written_begins}
use Rattle.judge.proofs.run_laws.what_is_written_begins_the_answers.Goals as goal

pub returns-clause-check : goal.returns-clause-check
returns-clause-check c = written_begins

pub returns-clause-encode : goal.returns-clause-encode
returns-clause-encode c = codes_begin
