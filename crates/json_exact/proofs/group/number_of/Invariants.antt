use Rattle.std.proofs.Common.{take, ◌≡◌}
use Rattle.json_exact.specs.Digits.{joined}
use Rattle.json_exact.proofs.group.number_of.Given as goal

abbrev pub invariant-loop-index : goal.invariant-loop-index
invariant-loop-index l = l.number ≡ joined 10000 (take l.index l.groups)
