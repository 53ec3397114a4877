use Rattle.std.proofs.Common.{◌≡◌, ℕ, length}
use denote.Text.{Utf8}
use denote.Shadow.{shadow}
use Rattle.std.specs.Str.{chars}
use Rattle.pattern_model.specs.Digits.{digits, digits_from}
use Rattle.pattern_tree.specs.Capped.{run}
use Rattle.pattern_tree.proofs.number.same_run_at_most.Given as goal

abbrev pub invariant-loop-c : goal.invariant-loop-c
invariant-loop-c l = shadow (Utf8 l.left) × shadow (Utf8 l.right) × (run (chars l.left) ≡ run (chars l.right)) ×
    ((n : ℕ) × (digits_from n (chars l.left) ≡ digits (chars l.x)) × (digits_from n (chars l.right) ≡ digits (chars l.y)))

abbrev pub decreases-loop-c : goal.decreases-loop-c
decreases-loop-c l = length l.left
