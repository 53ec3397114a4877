use Rattle.std.proofs.Common.{arith}
use Rattle.json_exact.proofs.PushLaws.{none_yet}
use Rattle.json_exact.proofs.significant_digits.SignificantDigits.new.Goals as goal

pub returns-clause-holds : goal.returns-clause-holds
returns-clause-holds c = none_yet 10 37 (omega arith)
