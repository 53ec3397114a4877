use Rattle.pattern_model.specs.Members.{tree_has}
use Rattle.pattern_tree.proofs.FormLaws.{fact_at}
use Rattle.pattern_tree.proofs.pattern.Pattern.class_has.Goals as goal

pub returns : goal.returns
returns c =
    fact_at (λ t. tree_has t c.args.code) c.args.self.now.nodes.items c.args.id.0 c.index.result.now _ c.requires.node c.index.ensures
    c.shape_has.ensures
