use Rattle.pattern_tree.proofs.NodeLemmas.{extended}
use Rattle.pattern_tree.proofs.part.extend.Goals as goal

pub returns-in_ok-join-in-Some-clause-frame : goal.returns-in_ok-join-in-Some-clause-frame
returns-in_ok-join-in-Some-clause-frame c =
    extended c.args.nodes.now.items c.join.new.nodes.items c.args.part c.in-Some.last c.in_ok-join-in-Some.field-0 c.args.id
    c.in_ok-join-in-Some.ensures.adds c.in_ok-join-in-Some.ensures.tree c.in-Some.is c.requires.part c.requires.id
