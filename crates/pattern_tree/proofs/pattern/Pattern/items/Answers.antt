use Rattle.std.proofs.Common.{map, ◌∙◌}
use Rattle.pattern_tree.specs.Nodes.{item_of}
use Rattle.pattern_tree.specs.Forms.{tree_items}
use Rattle.pattern_tree.proofs.FormLaws.{fact_at, items_at}
use Rattle.pattern_tree.proofs.pattern.Pattern.items.Goals as goal

pub returns-clause-items : goal.returns-clause-items
returns-clause-items c = fact_at tree_items c.args.self.now.nodes.items c.args.id.0 c.index.result.now (map item_of c.items_of.result.now)
    c.requires c.index.ensures c.items_of.ensures.items

pub returns-clause-places : goal.returns-clause-places
returns-clause-places c =
    c.items_of.ensures.places ∙ items_at c.args.self.now c.args.id c.index.result.now c.requires c.index.ensures
