use Rattle.json_elements.proofs.RestLaws.{objects_compared}
use Rattle.json_elements.proofs.equality.compare.Goals as goal

pub returns-in-Object-parts : goal.returns-in-Object-parts
returns-in-Object-parts g c =
    objects_compared (g.N.Element.pairs c.in-Object.one) (g.N.Element.pairs c.in-Object-parts.other) _ _ c.in-Object.ensures.tree
    c.in-Object-parts.ensures.tree
    c.in-Object.ensures.rise c.in-Object-parts.ensures.rise
