use Rattle.std.proofs.Common.{ap, ◌∙◌}
use Rattle.json_traits.specs.Sets.{holds}
use Rattle.flat_keywords.proofs.WrittenTypes.{allows}
use Rattle.flat_keywords.proofs.meets.allows_written.Goals as goal

pub returns : goal.returns
returns g c =
    allows c.args.set (g.N.HasTree.tree c.args.node.now) c.contains.result c.contains-2.result c.is_written_whole.result
    (c.contains.ensures ∙ ap (holds c.args.set) c.json_type.ensures) c.contains-2.ensures c.is_written_whole.ensures
