use Rattle.std.proofs.Common.{◌≡◌, ℕ, ◌≤◌, length}
use denote.Text.{Utf8}
use denote.Shadow.{shadow}
use Rattle.std.specs.Str.{chars}
use Rattle.pattern_model.specs.Digits.{digits, digits_from}
use Rattle.pattern_tree.specs.Capped.{IsCapped}
use Rattle.pattern_tree.proofs.number.digits.Given as goal

abbrev pub invariant-loop-c : goal.invariant-loop-c
invariant-loop-c l = shadow (Utf8 l.after) × ((n : ℕ) × IsCapped l.number n × (digits_from n (chars l.after) ≡ digits (chars l.x))) ×
    (length l.after ≤ length l.x)

abbrev pub decreases-loop-c : goal.decreases-loop-c
decreases-loop-c l = length l.after
