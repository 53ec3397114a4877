use Rattle.std.proofs.Common.{ap, arith, ◌∙◌, length}
use Rattle.std.proofs.Common.{subst}
use Rattle.pattern_model.specs.Tree.{group}
use Rattle.pattern_tree.specs.Nodes.{mark_of, InOuter}
use Rattle.pattern_tree.proofs.NodeLemmas.{adds_twice, in_outer_front, in_part_more}
use Rattle.pattern_tree.proofs.StepLemmas.{closes}
use Rattle.pattern_tree.proofs.SpanReader.{close_stands}
use Rattle.pattern_tree.proofs.reader.Reader.close.Goals as goal

pub returns-clause-stands : goal.returns-clause-stands
returns-clause-stands c = λ yes wide x r t i.
    close_stands wide x c.args.self.now _ c.in-Some.open _ c.add.new.nodes.items c.in_ok-inner.inner c.in_ok-id.id c.args.span
    c.requires.inside
    c.in-Some.ensures.items c.in_ok-inner.ensures.nodes c.in_ok-id.ensures.nodes c.in_ok-self.ensures.nodes c.in_ok-self.ensures.done
    c.in_ok-self.ensures.last r t

pub extend-requires-clause-part : goal.extend-requires-clause-part
extend-requires-clause-part c =
    let n = length c.args.self.now.nodes.items in
    let split = in_outer_front n c.pop.new.self.items c.in-Some.open (subst (InOuter n) c.in-Some.ensures.items c.requires.inside.outer) in
    in_part_more n _ c.in-Some.open.part (omega (arith, c.in_ok-inner.ensures.len, c.in_ok-id.ensures.len)) split.1

pub returns-clause-step : goal.returns-clause-step
returns-clause-step c =
    let a = c.in_ok-inner.ensures in
    let b = c.in_ok-id.ensures in
    let d = c.in_ok-self.ensures in
    closes c.args.self.now _ c.in-Some.open c.add.new.nodes.items c.in_ok-id.id
    c.in-Some.ensures.items
    (adds_twice _ _ _ a.adds b.adds)
    (b.tree ∙ ap (group (mark_of c.in-Some.open.mark)) a.tree)
    d.adds d.frame c.requires.inside d.part
    (omega (arith, a.len, b.len, d.len)) (omega (arith, a.few, b.len, d.few))
