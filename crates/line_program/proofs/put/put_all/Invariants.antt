use Rattle.std.proofs.Common.{◌≡◌, ◌++◌, ℕ, ◌≤◌, List, length}
use Rattle.std.specs.Prelude.{IsTrue}
use Rattle.std.specs.Io.KnownBytes.{Appends}
use Rattle.line_program.proofs.put.put_all.Given as goal

abbrev pub invariant-loop-rest : goal.invariant-loop-rest
invariant-loop-rest g l = record {
  put : (front : List ℕ) × (l.piece ≡ front ++ l.rest) × Appends (g.K.Sink.written l.fn.sink) (g.K.Sink.written l.sink) front;
  later : g.K.Sink.faults l.fn.sink ≤ g.K.Sink.faults l.sink;
  kept : IsTrue g.K.Sink.counts_each → g.K.Sink.faults l.sink ≡ g.K.Sink.faults l.fn.sink;
}

abbrev pub decreases-loop-rest : goal.decreases-loop-rest
decreases-loop-rest g l = length l.rest
