use Rattle.std.proofs.Common.{◌≡◌, ◌≤◌, length}
use denote.Text.{Utf8}
use denote.Shadow.{shadow}
use Rattle.std.specs.Str.{chars}
use Rattle.pattern_model.specs.Properties.{past_word}
use Rattle.pattern_tree.proofs.escape.past_word.Given as goal

abbrev pub invariant-loop-c : goal.invariant-loop-c
invariant-loop-c l = shadow (Utf8 l.after) × (past_word (chars l.after) ≡ past_word (chars l.x)) × (length l.after ≤ length l.x)

abbrev pub decreases-loop-c : goal.decreases-loop-c
decreases-loop-c l = length l.after
