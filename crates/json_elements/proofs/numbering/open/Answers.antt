use Rattle.json_elements.proofs.FrameLaws.{object_opened}
use Rattle.json_elements.proofs.numbering.open.Goals as goal

pub returns-in-Object : goal.returns-in-Object
returns-in-Object g c =
    object_opened (g.N.Element.pairs c.in-Object.members) (g.N.HasTree.tree c.args.node.now) c.in-Object.ensures.tree c.in-Object.ensures.rise
