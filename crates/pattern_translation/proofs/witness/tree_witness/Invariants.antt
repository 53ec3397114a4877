use Rattle.std.proofs.Common.{◌≡◌, length}
use Rattle.pattern_translation.specs.Texts.{AreWitnesses}
use Rattle.pattern_translation.proofs.witness.tree_witness.Given as goal

abbrev pub invariant-loop-id : goal.invariant-loop-id
invariant-loop-id l = (length l.parts.items ≡ l.id) × AreWitnesses l.pattern l.parts.items
