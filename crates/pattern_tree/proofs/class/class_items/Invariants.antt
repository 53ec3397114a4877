use Rattle.std.proofs.Common.{◌≡◌, ◌≤◌, length, map}
use denote.Text.{Utf8}
use denote.Shadow.{shadow}
use Rattle.std.specs.Str.{chars}
use Rattle.pattern_model.specs.Text.{with_front}
use Rattle.pattern_model.specs.Classes.{class_items}
use Rattle.pattern_tree.specs.Nodes.{item_of}
use Rattle.pattern_tree.specs.Spans.{placed_of}
use Rattle.pattern_tree.proofs.ItemLemmas.{ReadTo}
use Rattle.pattern_tree.proofs.class.class_items.Given as goal

abbrev pub invariant-loop-items : goal.invariant-loop-items
invariant-loop-items l =
    record {
      utf8 : shadow (Utf8 l.after);
      value : with_front (map item_of l.items.items) (class_items l.wide (chars l.after)) ≡ class_items l.wide (chars l.x);
      len : length l.after ≤ length l.x;
      places : ReadTo l.total l.x (map placed_of l.items.items) l.after;
    }

abbrev pub decreases-loop-items : goal.decreases-loop-items
decreases-loop-items l = length l.after
