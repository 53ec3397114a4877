use Rattle.std.proofs.Common.{◌+◌, ◌*◌, drop, length}
use Rattle.json_model.specs.Nest.{nest, nest_elements, nest_members}
use Rattle.json_model.specs.Parts.{elements_from, elements_of, members_from, pairs_of}
use Rattle.json_model.specs.Rising.{KeysRiseInElements, KeysRiseInMembers}
use Rattle.json_traits.specs.Gives.{Gives}
use Rattle.json_traits.proofs.rising.+rising.Given as goal

abbrev pub decreases-keys_rise_in_node : goal.decreases-keys_rise_in_node
decreases-keys_rise_in_node g l = 2 * nest (g.F.Node.HasTree.tree l.node.now)

abbrev pub decreases-keys_rise_in_elements : goal.decreases-keys_rise_in_elements
decreases-keys_rise_in_elements g l = 2 * nest_elements (elements_from (elements_of (g.F.Array.HasTree.tree l.array.now))) + 1

abbrev pub decreases-keys_rise_in_members : goal.decreases-keys_rise_in_members
decreases-keys_rise_in_members g l = 2 * nest_members (members_from (pairs_of (g.F.Object.HasTree.tree l.object.now))) + 1

-- the keys rise in all elements if they do in those that are left
abbrev pub invariant-keys_rise_in_elements-loop-element : goal.invariant-keys_rise_in_elements-loop-element
invariant-keys_rise_in_elements-loop-element g l =
    let ts = elements_of (g.F.Array.HasTree.tree l.array) in
    let k = length l.yielded in
    record {
      can : (goal.iterator-keys_rise_in_elements-loop-element g).can_next l.element-iterator;
      ends : (goal.iterator-keys_rise_in_elements-loop-element g).is_finite l.element-iterator;
      left : Gives (goal.iterator-keys_rise_in_elements-loop-element g).next_gives g.F.Node.HasTree.tree l.element-iterator (drop k ts);
      rise_on : KeysRiseInElements (elements_from (drop k ts)) → KeysRiseInElements (elements_from ts);
    }

abbrev pub invariant-keys_rise_in_members-loop-member : goal.invariant-keys_rise_in_members-loop-member
invariant-keys_rise_in_members-loop-member g l =
    let ps = pairs_of (g.F.Object.HasTree.tree l.object) in
    let k = length l.yielded in
    record {
      can : (goal.iterator-keys_rise_in_members-loop-member g).can_next l.member-iterator;
      ends : (goal.iterator-keys_rise_in_members-loop-member g).is_finite l.member-iterator;
      left : Gives (goal.iterator-keys_rise_in_members-loop-member g).next_gives g.F.NodeFamily.pair l.member-iterator (drop k ps);
      rise_on : KeysRiseInMembers (members_from (drop k ps)) → KeysRiseInMembers (members_from ps);
    }
