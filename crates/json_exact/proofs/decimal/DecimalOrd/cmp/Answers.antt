use Rattle.std.proofs.Common.{◌∙◌}
use Rattle.json_exact.proofs.OrderLaws.{sign_is, both_plus, both_minus, minus_plus, plus_minus}
use Rattle.json_exact.proofs.decimal.DecimalOrd.cmp.Goals as goal

pub returns-in-true-true : goal.returns-in-true-true
returns-in-true-true c = both_minus c.args.self.now c.args.other.now _
    (sign_is c.self.inside _ c.self.invariant c.self.view_is ∙ c.in-true-true.is-0)
    (sign_is c.other.inside _ c.other.invariant c.other.view_is ∙ c.in-true-true.is-1)
    c.compare_magnitudes.ensures

pub returns-in-true-false : goal.returns-in-true-false
returns-in-true-false c = minus_plus c.args.self.now c.args.other.now
    (sign_is c.self.inside _ c.self.invariant c.self.view_is ∙ c.in-true-false.is-0)
    (sign_is c.other.inside _ c.other.invariant c.other.view_is ∙ c.in-true-false.is-1)

pub returns-in-false-true : goal.returns-in-false-true
returns-in-false-true c = plus_minus c.args.self.now c.args.other.now
    (sign_is c.self.inside _ c.self.invariant c.self.view_is ∙ c.in-false-true.is-0)
    (sign_is c.other.inside _ c.other.invariant c.other.view_is ∙ c.in-false-true.is-1)

pub returns-in-false-false : goal.returns-in-false-false
returns-in-false-false c = both_plus c.args.self.now c.args.other.now _
    (sign_is c.self.inside _ c.self.invariant c.self.view_is ∙ c.in-false-false.is-0)
    (sign_is c.other.inside _ c.other.invariant c.other.view_is ∙ c.in-false-false.is-1)
    c.compare_magnitudes-in-false-false.ensures
