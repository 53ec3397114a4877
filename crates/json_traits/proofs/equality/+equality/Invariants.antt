use Rattle.std.proofs.Common.{◌≡◌, ◌+◌, ◌*◌, ◌≤◌, drop, length, map}
use Rattle.std.specs.Prelude.{◌↔◌}
use Rattle.json_model.specs.Nest.{nest, nest_elements, nest_members}
use Rattle.json_model.specs.Parts.{elements_from, elements_of, members_from, pairs_of}
use Rattle.json_exact.specs.MapIteration.{left}
use Rattle.json_exact.specs.Trees.{tree as value_tree, pairs}
use Rattle.json_traits.specs.Gives.{Gives}
use Rattle.json_traits.proofs.EqualityLaws.{Decide}
use Rattle.json_traits.proofs.PlaceLaws.{SameAtPlaces}
use Rattle.json_traits.proofs.equality.+equality.Given as goal

abbrev pub decreases-equals : goal.decreases-equals
decreases-equals g l = 3 * nest (value_tree l.expected.now)

abbrev pub decreases-equals_array : goal.decreases-equals_array
decreases-equals_array g l = 3 * nest_elements (elements_from (map value_tree l.expected.now)) + 2

abbrev pub decreases-equals_object : goal.decreases-equals_object
decreases-equals_object g l = 3 * nest_members (members_from (pairs l.expected.now)) + 2

abbrev pub decreases-equals_member : goal.decreases-equals_member
decreases-equals_member g l = 3 * nest (value_tree l.expected.now) + 1

-- what is left of both decides
abbrev pub invariant-equals_array-loop-i : goal.invariant-equals_array-loop-i
invariant-equals_array-loop-i g l =
    let ts = elements_of (g.F.Node.HasTree.tree l.node) in
    record {
      can : g.F.Elements.Iterator.can_next l.elements;
      left : Gives g.F.Elements.Iterator.next_gives g.F.Node.HasTree.tree l.elements (drop l.i ts);
      decides : Decide ts (map value_tree l.expected) l.i;
    }

abbrev pub invariant-equals_object-loop-name : goal.invariant-equals_object-loop-name
invariant-equals_object-loop-name g l =
    let ps = pairs_of (g.F.Node.HasTree.tree l.node) in
    let k = length l.yielded in
    record {
      can : g.F.Members.Iterator.can_next l.members;
      gives : Gives g.F.Members.Iterator.next_gives g.F.NodeFamily.pair l.members (drop k ps);
      as_many : length (drop k ps) ≡ length (left l.name-iterator);
      inside : nest_members (members_from (left l.name-iterator)) ≤ nest_members (members_from (pairs l.expected));
      decides : SameAtPlaces (members_from (drop k ps)) (members_from (left l.name-iterator)) ↔
          SameAtPlaces (members_from ps) (members_from (pairs l.expected));
    }
