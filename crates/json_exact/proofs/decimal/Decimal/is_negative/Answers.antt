use Rattle.json_exact.proofs.DigitPlaceLaws.{sign_is}
use Rattle.json_exact.proofs.decimal.Decimal.is_negative.Goals as goal

pub returns : goal.returns
returns c = sign_is c.self.inside _ c.self.invariant c.self.view_is
