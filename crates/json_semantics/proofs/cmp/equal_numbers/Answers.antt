use Rattle.json_semantics.proofs.ValueLaws.{eq_number}
use Rattle.json_semantics.proofs.cmp.equal_numbers.Goals as goal

pub returns : goal.returns
returns g c =
    eq_number (g.L.HasTree.tree c.args.left.now) c.to_number.result c.decimal.result c.decimal-2.result c.eq.result
    c.to_number.ensures c.decimal.ensures c.args.right.now c.decimal-2.ensures c.eq.ensures
