use Rattle.std.proofs.Common.{◌∙◌}
use Rattle.json_exact.proofs.OrderLaws.{magnitudes_by_top, magnitudes_by_groups}
use Rattle.json_exact.proofs.decimal.Decimal.compare_magnitudes.Goals as goal

pub returns-then-self-other : goal.returns-then-self-other
returns-then-self-other c =
    c.cmp.ensures
    ∙ magnitudes_by_top c.self.inside c.other.inside _ _ c.self.invariant c.self.view_is c.other.invariant c.other.view_is c.if-self-other.true

pub returns : goal.returns
returns c =
    c.compare_groups.ensures
    ∙ magnitudes_by_groups c.self.inside c.other.inside _ _ c.self.invariant c.self.view_is c.other.invariant c.other.view_is c.if-self-other.false
