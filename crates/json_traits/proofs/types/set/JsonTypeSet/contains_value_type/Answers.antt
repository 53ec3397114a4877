use Rattle.std.proofs.Common.{sym, ◌∙◌}
use Rattle.json_traits.proofs.AllowedLaws.{allows_number}
use Rattle.json_traits.proofs.types.set.JsonTypeSet.contains_value_type.Goals as goal

pub returns-then-contains-2 : goal.returns-then-contains-2
returns-then-contains-2 g c =
    allows_number g.N.Number.HasTree.tree c.args.self (g.N.HasTree.tree c.args.value.now) c.as_number.result c.in-Some.number c.is_integer.result
    c.as_number.ensures c.in-Some.is (let t = c.json_type.ensures in let f = c.if-contains.false in let h = c.contains.ensures in
    cc) (sym c.contains-in-Some.ensures ∙ c.if-contains-2.true) c.is_integer.ensures
