use Rattle.std.proofs.Common.{inl, refl}
use Rattle.flat_keywords.proofs.TypeLists.{alone}
use Rattle.flat_keywords.proofs.read.read_types.Goals as goal

pub returns-in-Some : goal.returns-in-Some
returns-in-Some g c =
    let v = g.N.HasTree.tree c.args.value.now in
    let t = c.in-Some.json_type in
    (inl (t, (c.in-Some.ensures t).0 refl), alone v t c.from.result c.in-Some.ensures c.from.ensures)
