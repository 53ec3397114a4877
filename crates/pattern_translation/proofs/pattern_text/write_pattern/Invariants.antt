use Rattle.std.proofs.Common.{◌≡◌, ◌++◌, List, true, false, length}
use Rattle.std.specs.Prelude.{string_bytes}
use denote.Text.{Utf8}
use denote.Shadow.{shadow}
use lib.Utf8.{encodes}
use Rattle.std.specs.Str.{chars}
use Rattle.pattern_model.specs.Text.{Text}
use Rattle.pattern_model.specs.Tree.{Token}
use Rattle.pattern_model.specs.Tokens.{Reads}
use Rattle.rust_pattern_model.specs.Translation.{Writes}
use Rattle.pattern_translation.specs.inner.Adding.{refers_in}
use Rattle.pattern_translation.proofs.pattern_text.write_pattern.Given as goal

abbrev pub invariant-loop-c : goal.invariant-loop-c
invariant-loop-c l =
    shadow (Utf8 l.left) × ((ts : List Token) → Reads true (chars l.pattern) ts → refers_in ts ≡ false →
    (more : List Token) × (w : Text) × Reads true (chars l.left) more × (refers_in more ≡ false) × (string_bytes l.out ≡ encodes w)
    × ((u : Text) → Writes (chars l.left) more u → Writes (chars l.pattern) ts (w ++ u)))

abbrev pub decreases-loop-c : goal.decreases-loop-c
decreases-loop-c l = length l.left
