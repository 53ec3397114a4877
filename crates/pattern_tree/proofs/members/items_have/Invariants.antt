use Rattle.std.proofs.Common.{◌≡◌, false, take}
use Rattle.std.specs.List.{list_any}
use Rattle.pattern_model.specs.Members.{item_has}
use Rattle.pattern_tree.specs.Nodes.{item_of}
use Rattle.pattern_tree.proofs.members.items_have.Given as goal

abbrev pub invariant-loop-item : goal.invariant-loop-item
invariant-loop-item l = list_any (λ i. item_has (item_of i) l.code) (take l.item-index l.items) ≡ false
