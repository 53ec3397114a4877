use Rattle.std.proofs.Common.{◌+◌, ◌*◌, drop, length}
use Rattle.std.specs.Prelude.{◌↔◌}
use Rattle.json_model.specs.Nest.{nest, nest_elements, nest_members}
use Rattle.json_model.specs.Parts.{elements_from, elements_of, members_from, pairs_of}
use Rattle.json_traits.specs.Gives.{Gives}
use Rattle.json_traits.proofs.EqualityLaws.{Decide}
use Rattle.json_traits.proofs.PlaceLaws.{SameAtPlaces}
use Rattle.json_traits.proofs.node_equality.+node_equality.Given as goal

abbrev pub decreases-equal_nodes : goal.decreases-equal_nodes
decreases-equal_nodes g l = 3 * nest (g.F.Node.HasTree.tree l.left.now)

abbrev pub decreases-equal_arrays : goal.decreases-equal_arrays
decreases-equal_arrays g l = 3 * nest_elements (elements_from (elements_of (g.F.Array.HasTree.tree l.left.now))) + 2

abbrev pub decreases-equal_objects : goal.decreases-equal_objects
decreases-equal_objects g l = 3 * nest_members (members_from (pairs_of (g.F.Object.HasTree.tree l.left.now))) + 2

abbrev pub decreases-equal_members : goal.decreases-equal_members
decreases-equal_members g l = 3 * nest (g.F.NodeFamily.pair l.left.now).1 + 1

-- what is left of both decides
abbrev pub invariant-equal_arrays-loop-element : goal.invariant-equal_arrays-loop-element
invariant-equal_arrays-loop-element g l =
    let ts = elements_of (g.F.Array.HasTree.tree l.left) in
    let us = elements_of (g.F.Array.HasTree.tree l.right) in
    let k = length l.yielded in
    record {
      can : (goal.iterator-equal_arrays-loop-element g).can_next l.element-iterator;
      ends : (goal.iterator-equal_arrays-loop-element g).is_finite l.element-iterator;
      left : Gives (goal.iterator-equal_arrays-loop-element g).next_gives g.F.Node.HasTree.tree l.element-iterator (drop k ts);
      can_too : g.F.Elements.Iterator.can_next l.others;
      right : Gives g.F.Elements.Iterator.next_gives g.F.Node.HasTree.tree l.others (drop k us);
      decides : Decide ts us k;
    }

abbrev pub invariant-equal_objects-loop-member : goal.invariant-equal_objects-loop-member
invariant-equal_objects-loop-member g l =
    let ps = pairs_of (g.F.Object.HasTree.tree l.left) in
    let qs = pairs_of (g.F.Object.HasTree.tree l.right) in
    let k = length l.yielded in
    record {
      can : (goal.iterator-equal_objects-loop-member g).can_next l.member-iterator;
      ends : (goal.iterator-equal_objects-loop-member g).is_finite l.member-iterator;
      left : Gives (goal.iterator-equal_objects-loop-member g).next_gives g.F.NodeFamily.pair l.member-iterator (drop k ps);
      can_too : g.F.Members.Iterator.can_next l.others;
      right : Gives g.F.Members.Iterator.next_gives g.F.NodeFamily.pair l.others (drop k qs);
      decides : SameAtPlaces (members_from (drop k ps)) (members_from (drop k qs)) ↔ SameAtPlaces (members_from ps) (members_from qs);
    }
