use Rattle.json_traits.proofs.ValueLaws.{told_of_tree}
use Rattle.json_traits.proofs.json_number.JsonNumber.as_i64.Goals as goal

pub returns : goal.returns
returns g c =
    λ z fits. told_of_tree c.decimal.result z c.to_number.result (g.Self.HasTree.tree c.args.self.now) c.to_number.ensures c.decimal.ensures
    (c.to_i64.ensures z fits)
