use Rattle.std.proofs.Common.{sym, ◌∙◌, ap}
use Rattle.std.specs.List.{list_all}
use Rattle.std.proofs.lemmas.List.{take_all}
use Rattle.pattern_model.specs.Members.{is_no_property}
use Rattle.pattern_tree.specs.Nodes.{item_of}
use Rattle.worked_lines.proofs.PropertyLaws.{all_items}
use Rattle.worked_lines.proofs.patterns.have_no_property.Goals as goal

pub returns : goal.returns
returns c = λ _.
    all_items c.args.items.now
    ∙ (ap (list_all (λ i. is_no_property (item_of i))) (sym (take_all c.loop-item.item-index c.args.items.now c.loop-item-test.false))
    ∙ c.loop-item.invariant)
