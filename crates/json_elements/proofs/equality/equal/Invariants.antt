use Rattle.std.proofs.Common.{◌+◌}
use Rattle.std.specs.Prelude.{◌↔◌}
use Rattle.json_model.specs.Same.{Same}
use Rattle.json_elements.specs.inner.Rests.{Agrees, AllAgree, rest_weight, rests_weight}
use Rattle.json_elements.proofs.equality.equal.Given as goal

-- what is left decides
abbrev pub invariant-loop-outer : goal.invariant-loop-outer
invariant-loop-outer g l =
    let trees = g.N.Element.trees in
    let pairs = g.N.Element.pairs in
    (Agrees trees pairs l.current × AllAgree trees pairs l.outer.items) ↔ Same (g.N.HasTree.tree l.left) (g.N.HasTree.tree l.right)

abbrev pub decreases-loop-outer : goal.decreases-loop-outer
decreases-loop-outer g l =
    rest_weight g.N.Element.trees g.N.Element.pairs l.current + rests_weight g.N.Element.trees g.N.Element.pairs l.outer.items
