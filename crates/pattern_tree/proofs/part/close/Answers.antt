use Rattle.std.proofs.Common.{◌≡◌, length, ap, sym, ◌∙◌, arith, subst, Some}
use Rattle.pattern_model.specs.Tree.{either}
use Rattle.pattern_tree.specs.Machine.{with_done, alternative_of}
use Rattle.pattern_tree.specs.Nodes.{trees_of, tree_at, opt_tree, InOption}
use Rattle.pattern_tree.proofs.NodeLemmas.{adds_twice, tree_at_adds, length_trees}
use Rattle.pattern_tree.proofs.part.close.Goals as goal

pub returns-in_ok-id-in-Some-clause-tree : goal.returns-in_ok-id-in-Some-clause-tree
returns-in_ok-id-in-Some-clause-tree c =
    let old = trees_of c.args.nodes.now.items in
    let mid = trees_of c.alternative.new.nodes.items in
    let left = c.in-Some.left in
    let bound : InOption (length c.args.nodes.now.items) (Some left) =
    subst (InOption (length c.args.nodes.now.items)) c.in-Some.is c.requires.part.done in
    let l : tree_at mid left ≡ tree_at old left =
    tree_at_adds old mid left c.in_ok-right.ensures.adds (omega (arith, length_trees c.args.nodes.now.items)) in
    c.in_ok-id-in-Some.ensures.tree
    ∙ (ap (λ z. either z (tree_at mid c.in_ok-right.right)) l
    ∙ (ap (either (tree_at old left)) c.in_ok-right.ensures.tree
    ∙ ap (λ z. with_done (opt_tree old z) (alternative_of (opt_tree old c.args.part.before) (opt_tree old c.args.part.last)))
    (sym c.in-Some.is)))

pub returns-in_ok-id-in-Some-clause-adds : goal.returns-in_ok-id-in-Some-clause-adds
returns-in_ok-id-in-Some-clause-adds c =
    adds_twice (trees_of c.args.nodes.now.items) (trees_of c.alternative.new.nodes.items) (trees_of c.add.new.nodes.items)
    c.in_ok-right.ensures.adds c.in_ok-id-in-Some.ensures.adds
