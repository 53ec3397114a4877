use Rattle.std.proofs.Common.{◌≡◌, length}
use denote.Text.{Utf8}
use denote.Shadow.{shadow}
use Rattle.std.specs.Str.{chars}
use Rattle.pattern_model.specs.Digits.{digits}
use Rattle.pattern_tree.proofs.number.past_zeros.Given as goal

abbrev pub invariant-loop-c : goal.invariant-loop-c
invariant-loop-c l = shadow (Utf8 l.after) × (digits (chars l.after) ≡ digits (chars l.x))

abbrev pub decreases-loop-c : goal.decreases-loop-c
decreases-loop-c l = length l.after
