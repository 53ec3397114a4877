use Rattle.std.proofs.Common.{◌≡◌, ◌-◌}
use Rattle.pattern_model.specs.Members.{tree_has}
use Rattle.pattern_tree.specs.Patterns.{node_tree}
use Rattle.pattern_translation.specs.Witness.{least, least_from}
use Rattle.pattern_translation.proofs.witness.least_member.Given as goal

abbrev pub invariant-loop-code : goal.invariant-loop-code
invariant-loop-code l =
    least_from (tree_has (node_tree l.pattern l.id)) (1114112 - l.code) l.code ≡ least (tree_has (node_tree l.pattern l.id))
