use Rattle.std.proofs.Common.{◌≡◌, map}
use Rattle.json_exact.specs.Trees.{tree}
use Rattle.judge.specs.Made.{multiples}
use Rattle.judge.proofs.make.document_of.Given as goal

abbrev pub invariant-loop-place : goal.invariant-loop-place
invariant-loop-place l = map tree l.elements.items ≡ multiples l.fn.number l.place
