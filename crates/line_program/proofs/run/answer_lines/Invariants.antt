use Rattle.std.proofs.Common.{◌≡◌, ◌≤◌}
use Rattle.std.specs.Prelude.{IsTrue}
use Rattle.line_program.proofs.Runs.{Going}
use Rattle.line_program.proofs.run.answer_lines.Given as goal

abbrev pub invariant-loop-turn : goal.invariant-loop-turn
invariant-loop-turn g l = record {
  serves : g.C.Command.serves l.fn.command l.kept;
  going : Going (g.C.Command.is_answer l.fn.command) (g.S.Source.left l.fn.source) (g.S.Source.left l.source)
      (g.K.Sink.written l.fn.sink) (g.K.Sink.written l.sink) l.line.items l._turn;
  later_source : g.S.Source.faults l.fn.source ≤ g.S.Source.faults l.source;
  later_sink : g.K.Sink.faults l.fn.sink ≤ g.K.Sink.faults l.sink;
  kept_source : IsTrue g.S.Source.counts_each → g.S.Source.faults l.source ≡ g.S.Source.faults l.fn.source;
  kept_sink : IsTrue g.K.Sink.counts_each → g.K.Sink.faults l.sink ≡ g.K.Sink.faults l.fn.sink;
}
