use Rattle.std.proofs.Common.{ap, length, length-append, subst}
use Rattle.json_model.specs.Nest.{nest}
use Rattle.json_model.specs.Parts.{elements_of, pairs_of}
use Rattle.json_model.specs.Rising.{KeysRise}
use Rattle.json_traits.proofs.MeasureLaws.{inside_below, same_inside_below, whole_below}
use Rattle.json_traits.proofs.GivesLaws.{left_item, left_end}
use Rattle.json_traits.proofs.ShapeLaws.{array_nests, object_nests, element_nests, pair_nests}
use Rattle.json_traits.proofs.RisingLaws.{scalar_rises, array_rises, object_rises, next_element, no_element, next_member, no_member}
use Rattle.json_traits.proofs.rising.+rising.Goals as goal

pub keys_rise_in_elements-loop-element-init : goal.keys_rise_in_elements-loop-element-init
keys_rise_in_elements-loop-element-init g t c = record {
  can = rw c.into_iter-element-iterator.ensures.into_iter_gives c.elements-element-items.ensures.can;
  ends = rw c.into_iter-element-iterator.ensures.into_iter_gives c.elements-element-items.ensures.ends;
  left = rw c.into_iter-element-iterator.ensures.into_iter_gives c.elements-element-items.ensures.gives;
  rise_on = λ h. h;
}

pub keys_rise_in_elements-keys_rise_in_node-requires : goal.keys_rise_in_elements-keys_rise_in_node-requires
keys_rise_in_elements-keys_rise_in_node-requires g t c =
    let ts = elements_of (g.F.Array.HasTree.tree c.args.array.now) in
    let k = length c.loop-element.yielded in
    let r = left_item {j = c.next.new.self} ts k c.loop-element.invariant.left c.in-Some.ensures.steps in
    let inside = element_nests ts k (g.F.Node.HasTree.tree c.in-Some.element) r.0.here in
    λ κs h. (inside_below _ _ _ inside c.decreases, h)

pub keys_rise_in_elements-loop-element-preserved : goal.keys_rise_in_elements-loop-element-preserved
keys_rise_in_elements-loop-element-preserved g t c =
    let ts = elements_of (g.F.Array.HasTree.tree c.args.array.now) in
    let k = length c.loop-element.yielded in
    let r = left_item {j = c.next.new.self} ts k c.loop-element.invariant.left c.in-Some.ensures.steps in
    record {
      can = c.in-Some.ensures.goes.keeps;
      ends = (c.in-Some.ensures.goes.on c.loop-element.invariant.ends).1;
      left = simp length-append r.1;
      rise_on = simp length-append (next_element ts k c.loop-element.invariant.rise_on (g.F.Node.HasTree.tree c.in-Some.element) r.0.back
          c.keys_rise_in_node.ensures);
    }

pub keys_rise_in_elements-returns : goal.keys_rise_in_elements-returns
keys_rise_in_elements-returns g t c =
    let ts = elements_of (g.F.Array.HasTree.tree c.args.array.now) in
    let k = length c.loop-element.yielded in
    no_element ts k c.loop-element.invariant.rise_on (left_end {u = c.next.new.self} ts k c.loop-element.invariant.left c.in-None.ensures.steps)

pub keys_rise_in_members-loop-member-init : goal.keys_rise_in_members-loop-member-init
keys_rise_in_members-loop-member-init g t c = record {
  can = rw c.into_iter-member-iterator.ensures.into_iter_gives c.members-member-items.ensures.can;
  ends = rw c.into_iter-member-iterator.ensures.into_iter_gives c.members-member-items.ensures.ends;
  left = rw c.into_iter-member-iterator.ensures.into_iter_gives c.members-member-items.ensures.gives;
  rise_on = λ h. h;
}

pub keys_rise_in_members-keys_rise_in_node-requires : goal.keys_rise_in_members-keys_rise_in_node-requires
keys_rise_in_members-keys_rise_in_node-requires g t c =
    let ps = pairs_of (g.F.Object.HasTree.tree c.args.object.now) in
    let k = length c.loop-member.yielded in
    let r = left_item {j = c.next.new.self} ps k c.loop-member.invariant.left c.in-Some.ensures.steps in
    let inside = pair_nests ps k (g.F.NodeFamily.pair c.in-Some.member) r.0.here in
    let is = ap nest c.value.ensures in
    λ κs h. (same_inside_below _ _ _ _ inside is c.decreases, h)

pub keys_rise_in_members-loop-member-preserved : goal.keys_rise_in_members-loop-member-preserved
keys_rise_in_members-loop-member-preserved g t c =
    let ps = pairs_of (g.F.Object.HasTree.tree c.args.object.now) in
    let k = length c.loop-member.yielded in
    let r = left_item {j = c.next.new.self} ps k c.loop-member.invariant.left c.in-Some.ensures.steps in
    record {
      can = c.in-Some.ensures.goes.keeps;
      ends = (c.in-Some.ensures.goes.on c.loop-member.invariant.ends).1;
      left = simp length-append r.1;
      rise_on =
          simp length-append (next_member ps k c.loop-member.invariant.rise_on (g.F.NodeFamily.pair c.in-Some.member) r.0.back
          (subst KeysRise c.value.ensures c.keys_rise_in_node.ensures));
    }

pub keys_rise_in_members-returns : goal.keys_rise_in_members-returns
keys_rise_in_members-returns g t c =
    let ps = pairs_of (g.F.Object.HasTree.tree c.args.object.now) in
    let k = length c.loop-member.yielded in
    no_member ps k c.loop-member.invariant.rise_on (left_end {u = c.next.new.self} ps k c.loop-member.invariant.left c.in-None.ensures.steps)
    c.members-member-items.ensures.rise

pub keys_rise_in_node-keys_rise_in_elements-requires : goal.keys_rise_in_node-keys_rise_in_elements-requires
keys_rise_in_node-keys_rise_in_elements-requires g t c =
    let whole = array_nests (g.F.Array.HasTree.tree c.in-Some.array) (g.F.Node.HasTree.tree c.args.node.now) c.in-Some.ensures in
    λ κs h. (whole_below _ _ _ whole c.decreases, h)

pub keys_rise_in_node-keys_rise_in_members-requires : goal.keys_rise_in_node-keys_rise_in_members-requires
keys_rise_in_node-keys_rise_in_members-requires g t c =
    let whole = object_nests (g.F.Object.HasTree.tree c.in-Some-as_object.object) (g.F.Node.HasTree.tree c.args.node.now) c.in-Some-as_object.ensures
    in
    λ κs h. (whole_below _ _ _ whole c.decreases, h)

pub keys_rise_in_node-returns-in-Some : goal.keys_rise_in_node-returns-in-Some
keys_rise_in_node-returns-in-Some g t c = array_rises _ _ c.in-Some.ensures c.keys_rise_in_elements.ensures

pub keys_rise_in_node-returns-in-Some-as_object : goal.keys_rise_in_node-returns-in-Some-as_object
keys_rise_in_node-returns-in-Some-as_object g t c = object_rises _ _ c.in-Some-as_object.ensures c.keys_rise_in_members.ensures

pub keys_rise_in_node-returns : goal.keys_rise_in_node-returns
keys_rise_in_node-returns g t c = scalar_rises _ c.in_default.ensures c.in_default-as_object.ensures
