use Rattle.std.proofs.Common.{◌≡◌, length}
use Rattle.pattern_translation.specs.Facts.{NodesHave}
use Rattle.pattern_translation.proofs.facts.tree_facts.Given as goal

abbrev pub invariant-loop-id : goal.invariant-loop-id
invariant-loop-id l = (length l.parts.items ≡ l.id) × NodesHave l.pattern l.parts.items
