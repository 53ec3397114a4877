use Rattle.std.proofs.Common.{◌≡◌, ◌+◌, ◌-◌, ◌≤◌, ◌*◌, length}
use denote.Text.{Utf8}
use denote.Shadow.{shadow}
use Rattle.std.specs.Str.{chars}
use Rattle.pattern_tree.specs.Machine.{spelled}
use Rattle.pattern_tree.specs.Nodes.{state_of, InReader}
use Rattle.pattern_model.specs.Spans.{IsAfter}
use Rattle.pattern_tree.specs.Spans.{ReaderStands}
use Rattle.pattern_tree.specs.Places.{Placed}
use Rattle.pattern_tree.proofs.Leads.{Leads}
use Rattle.pattern_tree.proofs.Told.{Told}
use Rattle.pattern_tree.proofs.reader.read.Given as goal

abbrev pub invariant-loop-c : goal.invariant-loop-c
invariant-loop-c l = record {
  utf8 : shadow (Utf8 l.rest);
  leads : Leads l.wide (chars l.text) (state_of l.reader) (chars l.rest);
  inside : InReader l.reader;
  few : length l.reader.nodes.items + 4 * length l.rest ≤ 4 * length l.text;
  short : length l.rest ≤ length l.text;
  total : l.total ≡ length l.text;
  told : Told l.counters (spelled (state_of l.reader));
  groups : l.counters.groups + length l.rest ≤ length l.text;
  after : IsAfter (chars l.text) (l.total - length l.rest) (chars l.rest);
  stands : ReaderStands l.wide (chars l.text) l.reader (l.total - length l.rest);
  placed : Placed l.places (state_of l.reader) (l.total - length l.rest);
}

abbrev pub decreases-loop-c : goal.decreases-loop-c
decreases-loop-c l = length l.rest
