use Rattle.std.proofs.Common.{map, string_bytes, drop}
use Rattle.std.specs.Prelude.{◌↔◌}
use Rattle.judge_tree.specs.Verdict.{IsOneOf}
use Rattle.judge_tree.proofs.checking.is_one_of.Given as goal

abbrev pub invariant-loop-i : goal.invariant-loop-i
invariant-loop-i l = IsOneOf (map string_bytes (drop l.i l.names)) l.key ↔ IsOneOf (map string_bytes l.names) l.key
