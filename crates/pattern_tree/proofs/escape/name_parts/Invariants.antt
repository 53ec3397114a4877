use Rattle.std.proofs.Common.{◌≡◌, ◌≤◌, length}
use Rattle.std.specs.Prelude.{string_bytes}
use denote.Text.{Utf8}
use denote.Shadow.{shadow}
use Rattle.std.specs.Str.{chars}
use Rattle.pattern_model.specs.Text.{with_front}
use Rattle.pattern_model.specs.GroupNames.{name_parts}
use Rattle.pattern_tree.proofs.escape.name_parts.Given as goal

abbrev pub invariant-loop-after : goal.invariant-loop-after
invariant-loop-after l =
    shadow (Utf8 l.after) × (with_front (string_bytes l.name) (name_parts (chars l.after)) ≡ with_front (string_bytes l.fn.name)
    (name_parts (chars l.x))) × (length l.after ≤ length l.x)

abbrev pub decreases-loop-after : goal.decreases-loop-after
decreases-loop-after l = length l.after
