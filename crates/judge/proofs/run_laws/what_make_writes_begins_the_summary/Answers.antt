use Rattle.judge.proofs.Summaries.{made_begins, one_summary}
use Rattle.judge.proofs.run_laws.what_make_writes_begins_the_summary.Goals as goal

pub returns-clause-one : goal.returns-clause-one
returns-clause-one c = one_summary

pub returns-clause-begins : goal.returns-clause-begins
returns-clause-begins c = made_begins
