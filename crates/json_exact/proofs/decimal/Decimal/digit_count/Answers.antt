use Rattle.json_exact.proofs.DigitLaws.{above_none}
use Rattle.json_exact.proofs.DigitPlaceLaws.{none_counted, some_counted, group_small, first_group_some}
use Rattle.json_exact.proofs.decimal.Decimal.digit_count.Goals as goal

pub returns-then-self-eq0 : goal.returns-then-self-eq0
returns-then-self-eq0 c = none_counted c.self.inside _ c.self.invariant c.self.view_is c.if-self-eq0.true

pub digits_behind_first-requires-clause-group : goal.digits_behind_first-requires-clause-group
digits_behind_first-requires-clause-group c = group_small c.self.inside 0 c.self.invariant

pub digits_behind_first-requires-clause-some : goal.digits_behind_first-requires-clause-some
digits_behind_first-requires-clause-some c = first_group_some c.self.inside c.self.invariant c.if-self-eq0.false

pub returns : goal.returns
returns c = some_counted c.self.inside _ c.digits_behind_first.result c.self.invariant c.self.view_is
    (above_none _ c.if-self-eq0.false) c.digits_behind_first.ensures.low c.digits_behind_first.ensures.high
