use Rattle.std.proofs.Common.{rules}
use Rattle.json_semantics.proofs.ValueLaws.{gt_limit}
use Rattle.json_semantics.proofs.numeric.gt.Goals as goal

pub returns : goal.returns
returns g c =
    gt_limit (g.N.HasTree.tree c.args.value.now) c.to_number.result c.decimal.result c.args.limit _ c.to_number.ensures c.decimal.ensures
    (search rules)
