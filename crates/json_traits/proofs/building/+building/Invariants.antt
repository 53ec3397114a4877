use Rattle.std.proofs.Common.{◌≡◌, ◌+◌, ◌*◌, true, drop, take, length, map}
use Rattle.json_model.specs.Keys.{rises}
use Rattle.json_model.specs.Nest.{nest, nest_elements, nest_members}
use Rattle.json_model.specs.Parts.{elements_from, elements_of, members_from, pairs_of}
use Rattle.json_exact.specs.Trees.{tree as value_tree, pairs}
use Rattle.json_exact.proofs.InsertLaws.{Shares}
use Rattle.json_traits.specs.Gives.{Gives}
use Rattle.json_traits.proofs.building.+building.Given as goal

abbrev pub decreases-build : goal.decreases-build
decreases-build g l = 2 * nest (g.F.Node.HasTree.tree l.node.now)

abbrev pub decreases-build_elements : goal.decreases-build_elements
decreases-build_elements g l = 2 * nest_elements (elements_from (elements_of (g.F.Array.HasTree.tree l.array.now))) + 1

abbrev pub decreases-build_members : goal.decreases-build_members
decreases-build_members g l = 2 * nest_members (members_from (pairs_of (g.F.Object.HasTree.tree l.object.now))) + 1

-- the elements so far are built
abbrev pub invariant-build_elements-loop-element : goal.invariant-build_elements-loop-element
invariant-build_elements-loop-element g l =
    let ts = elements_of (g.F.Array.HasTree.tree l.array) in
    let k = length l.yielded in
    record {
      can : (goal.iterator-build_elements-loop-element g).can_next l.element-iterator;
      ends : (goal.iterator-build_elements-loop-element g).is_finite l.element-iterator;
      left : Gives (goal.iterator-build_elements-loop-element g).next_gives g.F.Node.HasTree.tree l.element-iterator (drop k ts);
      built : map value_tree l.values.items ≡ take k ts;
    }

-- the members so far are in the map
abbrev pub invariant-build_members-loop-member : goal.invariant-build_members-loop-member
invariant-build_members-loop-member g l =
    let ps = pairs_of (g.F.Object.HasTree.tree l.object) in
    let k = length l.yielded in
    record {
      can : (goal.iterator-build_members-loop-member g).can_next l.member-iterator;
      ends : (goal.iterator-build_members-loop-member g).is_finite l.member-iterator;
      left : Gives (goal.iterator-build_members-loop-member g).next_gives g.F.NodeFamily.pair l.member-iterator (drop k ps);
      rise : rises (map (λ p. p.0) (drop k ps)) ≡ true;
      shares : Shares (drop k ps) (pairs l.members) ps;
    }
