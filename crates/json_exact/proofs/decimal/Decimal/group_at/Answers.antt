use Rattle.std.proofs.Common.{arith}
use Rattle.json_exact.proofs.DigitPlaceLaws.{group_above, group_within, group_below, group_small}
use Rattle.json_exact.proofs.decimal.Decimal.group_at.Goals as goal

pub returns-then-place-self-clause-group : goal.returns-then-place-self-clause-group
returns-then-place-self-clause-group c = group_above c.self.inside _ c.args.place c.self.invariant c.self.view_is c.if-place-self.true

pub returns-then-index-ge11-clause-group : goal.returns-then-index-ge11-clause-group
returns-then-index-ge11-clause-group c = group_below c.self.inside _ c.args.place c.self.invariant c.self.view_is c.if-index-ge11.true

pub returns-clause-group : goal.returns-clause-group
returns-clause-group c =
    group_within c.self.inside _ c.args.place c.self.invariant c.self.view_is (let h = c.if-place-self.false in omega arith)
    (let h = c.if-index-ge11.false in omega arith)

pub returns-clause-below : goal.returns-clause-below
returns-clause-below c = group_small c.self.inside _ c.self.invariant
