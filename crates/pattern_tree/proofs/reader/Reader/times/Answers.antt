use Rattle.std.proofs.Common.{◌≡◌, length, subst, ap, refl, arith, ◌∙◌, sym}
use Rattle.pattern_tree.specs.declared.node.Shape.TheVariants as shapes
use Rattle.pattern_tree.specs.Parts.{with_node}
use Rattle.pattern_tree.specs.Nodes.{span_at, InOption, bounds_of, trees_of, tree_at}
use Rattle.pattern_tree.specs.Machine.{can_repeat}
use Rattle.pattern_tree.proofs.StepLemmas.{repeats_node}
use Rattle.pattern_tree.proofs.SpanReader.{times_stands}
use Rattle.pattern_tree.proofs.reader.Reader.times.Goals as goal

pub returns-clause-stands : goal.returns-clause-stands
returns-clause-stands c = λ yes start wide x r t i.
    let ns = c.args.self.now.nodes.items in
    let id = c.in-Some.id in
    let from : c.start_of.result ≡ (span_at ns id).start = c.start_of.ensures ∙ ap (λ z. (span_at z id).start) c.deref-2.ensures.value in
    times_stands wide x c.args.self.now _ c.args.counts id c.in_ok-last.last start c.args.end c.requires.inside c.in-Some.is
    (subst (InOption (length ns)) c.in-Some.is c.requires.inside.here.last)
    (ap (λ z. with_node ns (shapes.Repeat id c.args.counts) (record { start = z; end = c.args.end })) (sym from)
    ∙ c.in_ok-last.ensures.nodes)
    refl refl r t

pub returns-clause-step : goal.returns-clause-step
returns-clause-step c =
    let b = c.in_ok-last.ensures in
    repeats_node (bounds_of c.args.counts) c.args.self.now _ c.in-Some.id c.in_ok-last.last c.in-Some.is
    (ap (λ z. can_repeat (tree_at (trees_of z) c.in-Some.id)) (sym c.deref.ensures.value)
    ∙ sym c.if-not-can_repeat.ensures) b.adds refl b.tree refl c.requires.inside b.id
    (omega (arith, b.len)) (omega (arith, b.len))
