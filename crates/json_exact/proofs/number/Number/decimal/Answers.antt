use Rattle.json_exact.proofs.NumberLaws.{worth_of}
use Rattle.json_exact.proofs.number.Number.decimal.Goals as goal

pub returns : goal.returns
returns c = worth_of c.self.inside _ c.self.invariant c.self.view_is
