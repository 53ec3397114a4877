use Rattle.std.proofs.Common.{take}
use Rattle.std.specs.List.{AllByRecursion}
use Rattle.json_semantics.specs.Conformance.{Obeys, rules}
use Rattle.json_semantics.proofs.conformance.rules.first_broken.Given as goal

-- the rules so far are kept
abbrev pub invariant-loop-rule : goal.invariant-loop-rule
invariant-loop-rule g l = AllByRecursion (Obeys (g.N.HasTree.tree l.root)) (take l.rule-index rules)
