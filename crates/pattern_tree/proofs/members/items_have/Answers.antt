use Rattle.std.proofs.Common.{sym, ◌∙◌, ap, arith}
use Rattle.std.specs.List.{list_any}
use Rattle.std.proofs.lemmas.List.Folds.{list_any_at}
use Rattle.std.proofs.lemmas.List.{take_all}
use Rattle.pattern_model.specs.Members.{item_has}
use Rattle.pattern_tree.specs.Nodes.{item_of}
use Rattle.pattern_tree.proofs.MemberLaws.{any_item}
use Rattle.pattern_tree.proofs.members.items_have.Goals as goal

pub returns-then-form_has : goal.returns-then-form_has
returns-then-form_has c =
    sym (any_item c.args.items.now c.args.code
    ∙ list_any_at (λ i. item_has (item_of i) c.args.code) c.args.items.now c.loop-item.item-index _ (omega arith)
    (sym c.if-form_has.ensures))

pub returns : goal.returns
returns c =
    sym (any_item c.args.items.now c.args.code
    ∙ (ap (list_any (λ i. item_has (item_of i) c.args.code)) (sym (take_all c.loop-item.item-index c.args.items.now c.loop-item-test.false))
    ∙ c.loop-item.invariant))
