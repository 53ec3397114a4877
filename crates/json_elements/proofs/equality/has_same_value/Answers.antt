use Rattle.json_traits.proofs.EqualityLaws.{same_value}
use Rattle.json_elements.proofs.equality.has_same_value.Goals as goal

pub returns : goal.returns
returns c = same_value c.decimal.result c.decimal-2.result c.args.left.now c.args.right.now c.eq.result c.eq.ensures c.decimal.ensures
    c.decimal-2.ensures
