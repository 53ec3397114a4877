use Rattle.std.proofs.Common.{◌≡◌, ◌++◌, [], ◌∷◌, length, ap, ◌∙◌, arith}
use Rattle.pattern_tree.specs.Nodes.{trees_of, tree_at, built}
use Rattle.pattern_tree.proofs.NodeLemmas.{tree_at_new, length_trees}
use Rattle.pattern_tree.proofs.node.add.Goals as goal

pub returns-clause-adds : goal.returns-clause-adds
returns-clause-adds c = (built (trees_of c.args.nodes.now.items) c.args.shape ∷ [], c.in_ok-id.ensures.trees)

pub returns-clause-tree : goal.returns-clause-tree
returns-clause-tree c =
    let ts = trees_of c.args.nodes.now.items in
    let t = built ts c.args.shape in
    let e : c.in_ok-id.id ≡ length ts = omega (arith, c.in_ok-id.ensures.id, length_trees c.args.nodes.now.items) in
    ap (λ z. tree_at z c.in_ok-id.id) c.in_ok-id.ensures.trees ∙ (ap (tree_at (ts ++ (t ∷ []))) e ∙ tree_at_new ts t)
