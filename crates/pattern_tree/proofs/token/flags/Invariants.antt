use Rattle.std.proofs.Common.{◌≡◌, ◌≤◌, length}
use denote.Text.{Utf8}
use denote.Shadow.{shadow}
use Rattle.std.specs.Str.{chars}
use Rattle.pattern_model.specs.Groups.{flags}
use Rattle.pattern_tree.proofs.FlagLaws.{flags_from}
use Rattle.pattern_tree.proofs.token.flags.Given as goal

abbrev pub invariant-loop-c : goal.invariant-loop-c
invariant-loop-c l = shadow (Utf8 l.after) × (flags_from l.i l.m l.s l.hyphen (chars l.after) ≡ flags (chars l.x)) ×
    (length l.after ≤ length l.x)

abbrev pub decreases-loop-c : goal.decreases-loop-c
decreases-loop-c l = length l.after
