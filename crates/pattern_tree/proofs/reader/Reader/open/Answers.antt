use Rattle.std.proofs.Common.{refl}
use Rattle.pattern_tree.specs.Nodes.{mark_of}
use Rattle.pattern_tree.proofs.StepLemmas.{opened}
use Rattle.pattern_tree.proofs.SpanReader.{open_stands}
use Rattle.pattern_tree.proofs.reader.Reader.open.Goals as goal

pub returns-clause-stands : goal.returns-clause-stands
returns-clause-stands c = λ end wide x r t i.
    open_stands wide x c.args.self.now _ (record { mark = c.args.mark; part = c.args.self.now.here; start = c.args.start }) c.args.start end
    refl c.in_ok-push.ensures.items refl refl refl r t

pub returns-clause-step : goal.returns-clause-step
returns-clause-step c = opened (mark_of c.args.mark) c.args.self.now _ (record {
  mark = c.args.mark;
  part = c.args.self.now.here;
  start =
      c.args.start;
}) c.in_ok-push.ensures.items refl refl refl refl (record { done = tt; before = tt; last = tt }) c.requires.inside
