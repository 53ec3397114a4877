use Rattle.std.proofs.Common.{◌≡◌, ◌+◌}
use Rattle.json_model.specs.Rising.{KeysRise}
use Rattle.json_elements.specs.Number.{element_number as number_of}
use Rattle.json_elements.specs.inner.Frames.{around, finished, frame_weight, frames_weight, Rise, AllRise}
use Rattle.json_elements.proofs.numbering.element_number.Given as goal

-- what is left gives the number
abbrev pub invariant-loop-outer : goal.invariant-loop-outer
invariant-loop-outer g l =
    let trees = g.N.Element.trees in
    let pairs = g.N.Element.pairs in
    record {
      number : around trees pairs l.outer.items (finished trees pairs l.current) ≡ number_of (g.N.HasTree.tree l.node);
      rise : Rise trees pairs l.current → AllRise trees pairs l.outer.items → KeysRise (g.N.HasTree.tree l.node);
    }

abbrev pub decreases-loop-outer : goal.decreases-loop-outer
decreases-loop-outer g l =
    frame_weight g.N.Element.trees g.N.Element.pairs l.current + frames_weight g.N.Element.trees g.N.Element.pairs l.outer.items
