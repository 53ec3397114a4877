use Rattle.std.proofs.Common.{◌≡◌, ◌+◌, ◌≤◌, length}
use denote.Text.{Utf8}
use denote.Shadow.{shadow}
use Rattle.std.specs.Str.{chars}
use Rattle.pattern_tree.specs.Capped.{run}
use Rattle.pattern_tree.proofs.number.run.Given as goal

abbrev pub invariant-loop-c : goal.invariant-loop-c
invariant-loop-c l = shadow (Utf8 l.after) × (run (chars l.after) + l.count ≡ run (chars l.x)) × (l.count + length l.after ≤ length l.x)

abbrev pub decreases-loop-c : goal.decreases-loop-c
decreases-loop-c l = length l.after
