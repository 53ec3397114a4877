use Rattle.std.proofs.Common.{sym, ◌∙◌, ap, arith}
use Rattle.std.specs.List.{list_all}
use Rattle.std.proofs.lemmas.List.Folds.{list_all_at, list_all-map}
use Rattle.std.proofs.lemmas.List.{take_all}
use Rattle.pattern_model.specs.Members.{is_no_property}
use Rattle.pattern_tree.specs.Nodes.{item_of}
use Rattle.pattern_translation.proofs.witness.have_no_property.Goals as goal

pub returns-then-not-is_no_property : goal.returns-then-not-is_no_property
returns-then-not-is_no_property c =
    sym (list_all-map is_no_property item_of c.args.items.now
    ∙ list_all_at (λ i. is_no_property (item_of i)) c.args.items.now c.loop-item.item-index _ (omega arith)
    (sym c.if-not-is_no_property.ensures))

pub returns : goal.returns
returns c =
    sym (list_all-map is_no_property item_of c.args.items.now
    ∙ (ap (list_all (λ i. is_no_property (item_of i))) (sym (take_all c.loop-item.item-index c.args.items.now c.loop-item-test.false))
    ∙ c.loop-item.invariant))
