use Rattle.std.proofs.Common.{rules}
use Rattle.json_semantics.proofs.ValueLaws.{eq_limit}
use Rattle.json_semantics.proofs.numeric.eq.Goals as goal

pub returns : goal.returns
returns g c =
    eq_limit (g.N.HasTree.tree c.args.value.now) c.to_number.result c.decimal.result c.args.limit _ c.to_number.ensures c.decimal.ensures
    (search rules)
