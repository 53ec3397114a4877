use Rattle.std.proofs.Common.{ap, refl, arith, ◌∙◌}
use Rattle.pattern_model.specs.Tree as tree
use Rattle.pattern_tree.specs.Machine.{push}
use Rattle.pattern_tree.specs.Nodes.{trees_of, frame_of, leaf_of}
use Rattle.pattern_tree.proofs.NodeLemmas.{frame_adds, adds_twice}
use Rattle.pattern_tree.proofs.StepLemmas.{goes_on, part_in}
use Rattle.pattern_tree.proofs.SpanReader.{single_stands}
use Rattle.pattern_tree.proofs.reader.Reader.single.Goals as goal

pub returns-clause-stands : goal.returns-clause-stands
returns-clause-stands c = λ wide x r t i.
    single_stands wide x c.args.self.now _ c.args.single c.args.span c.add.new.nodes.items c.in_ok-id.id c.requires.inside
    c.in_ok-id.ensures.nodes c.in_ok-self.ensures.nodes c.in_ok-self.ensures.done c.in_ok-self.ensures.last refl r t i

pub returns-clause-step : goal.returns-clause-step
returns-clause-step c =
    let old = c.args.self.now in
    let a = trees_of old.nodes.items in
    let b = trees_of c.add.new.nodes.items in
    let e = c.in_ok-id.ensures in
    let f = c.in_ok-self.ensures in
    let l : tree.Tree = tree.leaf (leaf_of c.args.single) in
    goes_on (tree.Token.leaf (leaf_of c.args.single)) old _ (push l (frame_of a old.here)) refl
    (f.frame ∙ (ap (λ z. push z (frame_of b old.here)) e.tree
    ∙ ap (push l) (frame_adds a b old.here e.adds (part_in old.nodes.items old.here c.requires.inside.here))))
    (adds_twice a b _ e.adds f.adds) refl c.requires.inside
    f.part (omega (arith, e.len, f.len)) (omega (arith, e.len, f.few))
