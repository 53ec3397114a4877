use Rattle.std.proofs.Common.{◌≡◌, ◌++◌, length}
use Rattle.std.specs.Prelude.{string_bytes}
use denote.Text.{Utf8}
use denote.Shadow.{shadow}
use Rattle.std.specs.Str.{chars}
use Rattle.pattern_model.specs.Text.{Text}
use Rattle.pattern_translation.specs.inner.Adding.{Adds}
use Rattle.pattern_translation.proofs.written.copy.Given as goal

abbrev pub invariant-loop-c : goal.invariant-loop-c
invariant-loop-c l =
    shadow (Utf8 l.left) × ((own : Text) → chars l.text ≡ own ++ chars l.end → (done more : Text) × (own ≡ done ++ more)
    × (chars l.left ≡ more ++ chars l.end) × Adds (string_bytes l.fn.out) (string_bytes l.out) done)

abbrev pub decreases-loop-c : goal.decreases-loop-c
decreases-loop-c l = length l.left
