use Rattle.json_exact.proofs.LiteralLaws.{one_literal}
use Rattle.json_exact.proofs.laws.one_number.Goals as goal

pub returns : goal.returns
returns c = λ v w l k. one_literal c.args.text.now v w l k
