use Rattle.std.proofs.Common.{◌≡◌, ◌≤◌, ◌++◌, [], List, Some, true, length}
use Rattle.std.specs.Prelude.{string_bytes}
use denote.Text.{Utf8}
use denote.Shadow.{shadow}
use Rattle.std.specs.Str.{chars}
use Rattle.pattern_model.specs.Text.{Text}
use Rattle.pattern_model.specs.Tree.{Item}
use Rattle.pattern_model.specs.Classes.{class_items}
use Rattle.rust_pattern_model.specs.Translation.{WritesItems}
use Rattle.pattern_translation.specs.inner.Adding.{Adds}
use Rattle.pattern_translation.proofs.class.write_items.Given as goal

abbrev pub invariant-loop-before : goal.invariant-loop-before
invariant-loop-before l =
    shadow (Utf8 l.left) × shadow (Utf8 l.before) × (length l.left ≤ length l.text)
    × ((items : List Item) (y : Text) → class_items true (chars l.text) ≡ Some (items, y) →
    (more : List Item) × (w : Text) × (class_items true (chars l.left) ≡ Some (more, y)) × Adds (string_bytes l.fn.out) (string_bytes l.out) w
    × ((u : Text) → WritesItems (chars l.before) (chars l.left) y u → WritesItems [] (chars l.text) y (w ++ u)))

abbrev pub decreases-loop-before : goal.decreases-loop-before
decreases-loop-before l = length l.left
