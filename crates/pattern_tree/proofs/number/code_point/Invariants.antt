use Rattle.std.proofs.Common.{◌≡◌, ◌≤◌, length}
use Rattle.std.specs.Prelude.{option_and_then}
use denote.Text.{Utf8}
use denote.Shadow.{shadow}
use Rattle.std.specs.Str.{chars}
use Rattle.pattern_model.specs.CodePoints.{code_point, if_code_point}
use Rattle.pattern_model.specs.Digits.{hex_to_brace}
use Rattle.pattern_tree.proofs.number.code_point.Given as goal

abbrev pub invariant-loop-c : goal.invariant-loop-c
invariant-loop-c l =
    shadow (Utf8 l.after) × (option_and_then if_code_point (hex_to_brace l.number (chars l.after)) ≡ code_point (chars l.x)) ×
    (length l.after ≤ length l.x) × (l.number ≤ 1114111)

abbrev pub decreases-loop-c : goal.decreases-loop-c
decreases-loop-c l = length l.after
