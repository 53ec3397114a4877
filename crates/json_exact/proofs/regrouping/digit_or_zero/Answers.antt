use Rattle.std.proofs.Common.{arith}
use Rattle.json_exact.proofs.DigitPlaceLaws.{below_at}
use Rattle.json_exact.proofs.regrouping.digit_or_zero.Goals as goal

pub returns-then-index-lt38-clause-below : goal.returns-then-index-lt38-clause-below
returns-then-index-lt38-clause-below c = below_at 10 c.args.digits.now c.args.index (omega arith) c.requires.digits
