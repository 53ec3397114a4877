use Rattle.std.proofs.Common.{◌≡◌, length, false}
use denote.Text.{Utf8}
use denote.Shadow.{shadow}
use Rattle.std.specs.Str.{chars}
use Rattle.rust_pattern_model.specs.Refusals.{has_other_escape}
use Rattle.pattern_translation.proofs.escapes.has_other_escape.Given as goal

abbrev pub invariant-loop-c : goal.invariant-loop-c
invariant-loop-c l = shadow (Utf8 l.left) × (has_other_escape l.in_class (chars l.left) ≡ has_other_escape false (chars l.text))

abbrev pub decreases-loop-c : goal.decreases-loop-c
decreases-loop-c l = length l.left
