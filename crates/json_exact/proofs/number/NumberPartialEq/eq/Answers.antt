use Rattle.std.proofs.Common.{◌∙◌}
use Rattle.std.proofs.lemmas.Bool.{ne_eqb}
use Rattle.json_exact.proofs.NumberLaws.{apart, compared}
use Rattle.json_exact.proofs.number.NumberPartialEq.eq.Goals as goal

pub returns-then-self-other : goal.returns-then-self-other
returns-then-self-other c =
    compared c.self.inside c.other.inside _ _ c.eq.result c.self.invariant c.self.view_is c.other.invariant c.other.view_is c.if-self-other.true
    c.eq.ensures

pub returns-else-self-other : goal.returns-else-self-other
returns-else-self-other c =
    ne_eqb c.self.inside.fraction_digits c.other.inside.fraction_digits c.if-self-other.false
    ∙ apart c.self.inside c.other.inside _ _ c.self.view_is c.other.view_is c.if-self-other.false
