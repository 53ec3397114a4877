use Rattle.json_exact.proofs.WorthLaws.{whole_as_written}
use Rattle.json_traits.proofs.types.whole.number_is_integer.Goals as goal

pub returns : goal.returns
returns c =
    let law = whole_as_written c.decimal.result c.args.n.now c.decimal.ensures in
    (λ h. law.0 (c.is_integer.ensures.whole.0 h), λ h. c.is_integer.ensures.whole.1 (law.1 h))
