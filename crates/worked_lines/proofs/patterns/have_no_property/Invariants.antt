use Rattle.std.proofs.Common.{◌≡◌, true, take}
use Rattle.std.specs.List.{list_all}
use Rattle.pattern_model.specs.Members.{is_no_property}
use Rattle.pattern_tree.specs.Nodes.{item_of}
use Rattle.worked_lines.proofs.patterns.have_no_property.Given as goal

abbrev pub invariant-loop-item : goal.invariant-loop-item
invariant-loop-item l = list_all (λ i. is_no_property (item_of i)) (take l.item-index l.items) ≡ true
