use Rattle.std.proofs.Common.{◌≡◌, ◌≤◌, length}
use Rattle.std.specs.Prelude.{IsTrue}
use Rattle.line_program.proofs.Steps.{Fed}
use Rattle.line_program.proofs.lines.feed.Given as goal

abbrev pub invariant-loop-part : goal.invariant-loop-part
invariant-loop-part g l = record {
  serves : g.C.Command.serves l.command l.kept;
  fed : Fed (g.C.Command.is_answer l.fn.command) l.fn.line.items l.piece l.rest l.line.items (g.K.Sink.written l.fn.sink) (g.K.Sink.written l.sink);
  later : g.K.Sink.faults l.fn.sink ≤ g.K.Sink.faults l.sink;
  kept : IsTrue g.K.Sink.counts_each → g.K.Sink.faults l.sink ≡ g.K.Sink.faults l.fn.sink;
}

abbrev pub decreases-loop-part : goal.decreases-loop-part
decreases-loop-part g l = length l.rest
