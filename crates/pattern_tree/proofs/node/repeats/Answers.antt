use Rattle.std.proofs.Common.{ap, sym, ◌∙◌}
use Rattle.pattern_tree.specs.Machine.{can_repeat}
use Rattle.pattern_tree.specs.Nodes.{built}
use Rattle.pattern_tree.proofs.node.repeats.Goals as goal

pub returns-in-Single : goal.returns-in-Single
returns-in-Single c = λ ts. c.single_repeats.ensures ts ∙ ap (λ z. can_repeat (built ts z)) (sym c.in-Single.is)
