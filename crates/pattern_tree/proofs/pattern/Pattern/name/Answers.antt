use Rattle.pattern_tree.specs.Forms.{tree_name}
use Rattle.pattern_tree.proofs.FormLaws.{fact_at}
use Rattle.pattern_tree.proofs.pattern.Pattern.name.Goals as goal

pub returns : goal.returns
returns c = fact_at tree_name c.args.self.now.nodes.items c.args.id.0 c.index.result.now _ c.requires c.index.ensures c.name_of.ensures
