use Rattle.json_exact.proofs.WorthLaws.{same_as_written}
use Rattle.json_exact.proofs.WrittenOrderLaws.{below_as_written, written_total}
use Rattle.json_exact.proofs.laws.order_is_of_written_numbers.Goals as goal

pub returns-clause-below : goal.returns-clause-below
returns-clause-below c = λ d e f g. below_as_written d e c.args.a.now c.args.b.now f g

pub returns-clause-same : goal.returns-clause-same
returns-clause-same c = λ d e f g. same_as_written d e c.args.a.now c.args.b.now f g

pub returns-clause-total : goal.returns-clause-total
returns-clause-total c = written_total c.args.a.now c.args.b.now
