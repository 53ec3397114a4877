use Rattle.std.proofs.Common.{arith}
use Rattle.worked_steps.proofs.FewHalvings.{few_halvings}
use Rattle.worked_steps.proofs.steps.text_in_few_steps.Goals as goal

pub returns-in_err-get_counted : goal.returns-in_err-get_counted
returns-in_err-get_counted g c =
    let few = c.get_counted.ensures.few in
    omega (arith, few.2, few_halvings few.0 _ c.args.halvings few.1 c.requires)

pub returns : goal.returns
returns g c =
    let few = c.get_counted.ensures.few in
    omega (arith, few.2, few_halvings few.0 _ c.args.halvings few.1 c.requires)
