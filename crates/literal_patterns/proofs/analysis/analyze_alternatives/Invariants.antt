use Rattle.std.proofs.Common.{length}
use denote.Text.{Utf8}
use denote.Shadow.{shadow}
use Rattle.std.specs.Str.{chars}
use Rattle.literal_patterns.proofs.AlternativeLaws.{Reached}
use Rattle.literal_patterns.proofs.analysis.analyze_alternatives.Given as goal

abbrev pub invariant-loop-texts : goal.invariant-loop-texts
invariant-loop-texts l = shadow (Utf8 l.left) × Reached (chars l.inner) (chars l.left) l.texts.items

abbrev pub decreases-loop-texts : goal.decreases-loop-texts
decreases-loop-texts l = length l.left
