use Rattle.std.proofs.Common.{pos}
use Rattle.json_traits.proofs.ValueLaws.{told_of_tree}
use Rattle.json_traits.proofs.json_number.JsonNumber.as_u64.Goals as goal

pub returns : goal.returns
returns g c =
    λ n fits. told_of_tree c.decimal.result (pos n) c.to_number.result (g.Self.HasTree.tree c.args.self.now) c.to_number.ensures c.decimal.ensures
    (c.to_u64.ensures n fits)
