use Rattle.std.proofs.Common.{◌≡◌, ◌++◌, ◌≤◌, length}
use denote.Text.{Utf8}
use denote.Shadow.{shadow}
use Rattle.std.specs.Str.{chars}
use Rattle.std.specs.String.{string_bytes}
use Rattle.pattern_model.specs.Text.{Text}
use Rattle.pattern_model.specs.Literals.{Literals}
use Rattle.literal_patterns.proofs.literal.append_literals.Given as goal

abbrev pub invariant-loop-c : goal.invariant-loop-c
invariant-loop-c l =
    shadow (Utf8 l.rest) × ((w : Text) × Literals (chars l.text) w (chars l.rest) × (string_bytes l.into ≡ string_bytes l.initial.into ++ w)) ×
    (length l.rest ≤ length l.text)

abbrev pub decreases-loop-c : goal.decreases-loop-c
decreases-loop-c l = length l.rest
