use Rattle.std.proofs.Common.{ap, Some, None, refl, arith}
use Rattle.pattern_model.specs.Tree as tree
use Rattle.pattern_tree.specs.Machine.{barred}
use Rattle.pattern_tree.specs.Nodes.{trees_of, frame_of}
use Rattle.pattern_tree.proofs.StepLemmas.{goes_on}
use Rattle.pattern_tree.proofs.SpanReader.{bar_stands}
use Rattle.pattern_tree.proofs.reader.Reader.bar.Goals as goal

pub returns-clause-stands : goal.returns-clause-stands
returns-clause-stands c = λ end wide x r t i.
    bar_stands wide x c.args.self.now _ c.in_ok-id.id c.args.start end c.requires.inside c.in_ok-id.ensures.nodes refl refl r t

pub returns-clause-step : goal.returns-clause-step
returns-clause-step c =
    let e = c.in_ok-id.ensures in
    goes_on tree.Token.bar c.args.self.now _ (barred (frame_of (trees_of c.args.self.now.nodes.items) c.args.self.now.here)) refl
    (ap (λ z. record { done = Some z; before = None; last = None }) e.tree) e.adds refl c.requires.inside
    (record { done = e.id; before = tt; last = tt }) e.len (omega arith)
