use Rattle.std.proofs.Common.{◌+◌, refl, sym, ap, length, length-append, drop, ◌∙◌}
use Rattle.std.proofs.lemmas.Bool.{false≢true, iff_false}
use Rattle.std.proofs.lemmas.List.{drop_all}
use Rattle.json_model.specs.Nest.{nest}
use Rattle.json_model.specs.Parts.{elements_of, members_from, pairs_of}
use Rattle.json_traits.proofs.EqualityLaws.{same_count, next_same, next_differs, none_differs, arrays_same, objects_same, pairs_counted}
use Rattle.json_traits.proofs.GivesLaws.{left_item, left_end}
use Rattle.json_traits.proofs.MeasureLaws.{element_below, member_below, value_below, parts_below, not_fewer, no_more}
use Rattle.json_traits.proofs.PlaceLaws.{SameAtPlaces, pairs_by_place, first_differs, first_same, none_right}
use Rattle.json_traits.proofs.ShapeLaws.{array_nests, object_nests, element_nests, pair_nests}
use Rattle.json_traits.proofs.node_equality.+node_equality.Goals as goal

pub equal_arrays-returns-then-element_count : goal.equal_arrays-returns-then-element_count
equal_arrays-returns-then-element_count g t c =
    let ts = elements_of (g.F.Array.HasTree.tree c.args.left.now) in
    let us = elements_of (g.F.Array.HasTree.tree c.args.right.now) in (
      λ h. absurd (false≢true h),
      λ h. absurd (c.if-element_count.true
          (c.element_count.ensures ∙ same_count ts us h ∙ sym c.element_count-2.ensures)),
    )

pub equal_arrays-loop-element-init : goal.equal_arrays-loop-element-init
equal_arrays-loop-element-init g t c = record {
  can = rw c.into_iter-element-iterator.ensures.into_iter_gives c.elements-element-items.ensures.can;
  ends = rw c.into_iter-element-iterator.ensures.into_iter_gives c.elements-element-items.ensures.ends;
  left = rw c.into_iter-element-iterator.ensures.into_iter_gives c.elements-element-items.ensures.gives;
  can_too = c.elements-others.ensures.can;
  right = c.elements-others.ensures.gives;
  decides = (λ h. h, λ h. h);
}

pub equal_arrays-returns-in_default : goal.equal_arrays-returns-in_default
equal_arrays-returns-in_default g t c =
    let ts = elements_of (g.F.Array.HasTree.tree c.args.left.now) in
    let us = elements_of (g.F.Array.HasTree.tree c.args.right.now) in
    let k = length c.loop-element.yielded in
    let r = left_item {j = c.next.new.self} ts k c.loop-element.invariant.left c.in-Some.ensures.steps in
    let le = left_end {u = c.next-in-loop-element.new.self} us k c.loop-element.invariant.right c.in_default.ensures.steps in
    absurd (not_fewer _ _ _ _ _ r.0.within c.element_count.ensures c.element_count-2.ensures c.if-element_count.false le)

pub equal_arrays-equal_nodes-requires : goal.equal_arrays-equal_nodes-requires
equal_arrays-equal_nodes-requires g t c =
    let ts = elements_of (g.F.Array.HasTree.tree c.args.left.now) in
    let k = length c.loop-element.yielded in
    let r = left_item {j = c.next.new.self} ts k c.loop-element.invariant.left c.in-Some.ensures.steps in
    let inside = element_nests ts k (g.F.Node.HasTree.tree c.in-Some.element) r.0.here in
    λ κs h. (element_below _ _ _ inside c.decreases, h)

pub equal_arrays-returns-then-not-equal_nodes : goal.equal_arrays-returns-then-not-equal_nodes
equal_arrays-returns-then-not-equal_nodes g t c =
    let ts = elements_of (g.F.Array.HasTree.tree c.args.left.now) in
    let us = elements_of (g.F.Array.HasTree.tree c.args.right.now) in
    let k = length c.loop-element.yielded in
    let r = left_item {j = c.next.new.self} ts k c.loop-element.invariant.left c.in-Some.ensures.steps in
    let s = left_item {j = c.next-in-loop-element.new.self} us k c.loop-element.invariant.right c.in-Some-next.ensures.steps in (
      λ h. absurd (false≢true h),
      λ h. absurd (next_differs ts us k c.loop-element.invariant.decides (g.F.Node.HasTree.tree c.in-Some.element)
          (g.F.Node.HasTree.tree c.in-Some-next.other) r.0.back s.0.back
          (iff_false c.equal_nodes.ensures c.if-not-equal_nodes.true) h),
    )

pub equal_arrays-loop-element-preserved : goal.equal_arrays-loop-element-preserved
equal_arrays-loop-element-preserved g t c =
    let ts = elements_of (g.F.Array.HasTree.tree c.args.left.now) in
    let us = elements_of (g.F.Array.HasTree.tree c.args.right.now) in
    let k = length c.loop-element.yielded in
    let r = left_item {j = c.next.new.self} ts k c.loop-element.invariant.left c.in-Some.ensures.steps in
    let s = left_item {j = c.next-in-loop-element.new.self} us k c.loop-element.invariant.right c.in-Some-next.ensures.steps in
    record {
      can = c.in-Some.ensures.goes.keeps;
      ends = (c.in-Some.ensures.goes.on c.loop-element.invariant.ends).1;
      left = simp length-append r.1;
      can_too = c.in-Some-next.ensures.goes.keeps;
      right = simp length-append s.1;
      decides =
          simp length-append (next_same ts us k c.loop-element.invariant.decides (g.F.Node.HasTree.tree c.in-Some.element)
          (g.F.Node.HasTree.tree c.in-Some-next.other) r.0.back s.0.back
          (c.equal_nodes.ensures.0 c.if-not-equal_nodes.false));
    }

pub equal_arrays-returns : goal.equal_arrays-returns
equal_arrays-returns g t c =
    let ts = elements_of (g.F.Array.HasTree.tree c.args.left.now) in
    let us = elements_of (g.F.Array.HasTree.tree c.args.right.now) in
    let k = length c.loop-element.yielded in
    let le = left_end {u = c.next.new.self} ts k c.loop-element.invariant.left c.in-None.ensures.steps in
    let all = none_differs ts us k c.loop-element.invariant.decides le
    (no_more _ _ _ _ _ le c.element_count.ensures c.element_count-2.ensures c.if-element_count.false) in
    (λ _. all, λ _. refl)

pub equal_objects-returns-then-member_count : goal.equal_objects-returns-then-member_count
equal_objects-returns-then-member_count g t c =
    let ps = pairs_of (g.F.Object.HasTree.tree c.args.left.now) in
    let qs = pairs_of (g.F.Object.HasTree.tree c.args.right.now) in (
      λ h. absurd (false≢true h),
      λ h. absurd (c.if-member_count.true
          (c.member_count.ensures ∙ pairs_counted ps qs h ∙ sym c.member_count-2.ensures)),
    )

pub equal_objects-loop-member-init : goal.equal_objects-loop-member-init
equal_objects-loop-member-init g t c = record {
  can = rw c.into_iter-member-iterator.ensures.into_iter_gives c.members-member-items.ensures.can;
  ends = rw c.into_iter-member-iterator.ensures.into_iter_gives c.members-member-items.ensures.ends;
  left = rw c.into_iter-member-iterator.ensures.into_iter_gives c.members-member-items.ensures.gives;
  can_too = c.members-others.ensures.can;
  right = c.members-others.ensures.gives;
  decides = (λ h. h, λ h. h);
}

pub equal_objects-returns-in_default : goal.equal_objects-returns-in_default
equal_objects-returns-in_default g t c =
    let ps = pairs_of (g.F.Object.HasTree.tree c.args.left.now) in
    let qs = pairs_of (g.F.Object.HasTree.tree c.args.right.now) in
    let k = length c.loop-member.yielded in
    let r = left_item {j = c.next.new.self} ps k c.loop-member.invariant.left c.in-Some.ensures.steps in
    let le = left_end {u = c.next-in-loop-member.new.self} qs k c.loop-member.invariant.right c.in_default.ensures.steps in
    absurd (not_fewer _ _ _ _ _ r.0.within c.member_count.ensures c.member_count-2.ensures c.if-member_count.false le)

pub equal_objects-equal_members-requires : goal.equal_objects-equal_members-requires
equal_objects-equal_members-requires g t c =
    let ps = pairs_of (g.F.Object.HasTree.tree c.args.left.now) in
    let k = length c.loop-member.yielded in
    let r = left_item {j = c.next.new.self} ps k c.loop-member.invariant.left c.in-Some.ensures.steps in
    let inside = pair_nests ps k (g.F.NodeFamily.pair c.in-Some.member) r.0.here in
    λ κs h. (member_below _ _ _ inside c.decreases, h)

pub equal_objects-returns-then-not-equal_members : goal.equal_objects-returns-then-not-equal_members
equal_objects-returns-then-not-equal_members g t c =
    let ps = pairs_of (g.F.Object.HasTree.tree c.args.left.now) in
    let qs = pairs_of (g.F.Object.HasTree.tree c.args.right.now) in
    let k = length c.loop-member.yielded in
    let r = left_item {j = c.next.new.self} ps k c.loop-member.invariant.left c.in-Some.ensures.steps in
    let s = left_item {j = c.next-in-loop-member.new.self} qs k c.loop-member.invariant.right c.in-Some-next.ensures.steps in
    let places = pairs_by_place ps qs c.members-member-items.ensures.rise c.members-others.ensures.rise in (
      λ h. absurd (false≢true h),
      λ h. absurd (first_differs (g.F.NodeFamily.pair c.in-Some.member) (g.F.NodeFamily.pair c.in-Some-next.other) (drop k ps) (drop k qs) (drop
          (k + 1) ps) (drop (k + 1) qs) r.0.back s.0.back
          (λ e q. iff_false c.equal_members.ensures c.if-not-equal_members.true (e, q))
          (c.loop-member.invariant.decides.1 (places.0 h))),
    )

pub equal_objects-loop-member-preserved : goal.equal_objects-loop-member-preserved
equal_objects-loop-member-preserved g t c =
    let ps = pairs_of (g.F.Object.HasTree.tree c.args.left.now) in
    let qs = pairs_of (g.F.Object.HasTree.tree c.args.right.now) in
    let k = length c.loop-member.yielded in
    let r = left_item {j = c.next.new.self} ps k c.loop-member.invariant.left c.in-Some.ensures.steps in
    let s = left_item {j = c.next-in-loop-member.new.self} qs k c.loop-member.invariant.right c.in-Some-next.ensures.steps in
    let decides = first_same (g.F.NodeFamily.pair c.in-Some.member) (g.F.NodeFamily.pair c.in-Some-next.other) (drop k ps) (drop k qs)
    (drop (k + 1) ps) (drop (k + 1) qs) (SameAtPlaces (members_from ps) (members_from qs)) r.0.back s.0.back
    (c.equal_members.ensures.0 c.if-not-equal_members.false) c.loop-member.invariant.decides in
    record {
      can = c.in-Some.ensures.goes.keeps;
      ends = (c.in-Some.ensures.goes.on c.loop-member.invariant.ends).1;
      left = simp length-append r.1;
      can_too = c.in-Some-next.ensures.goes.keeps;
      right = simp length-append s.1;
      decides = simp length-append decides;
    }

pub equal_objects-returns : goal.equal_objects-returns
equal_objects-returns g t c =
    let ps = pairs_of (g.F.Object.HasTree.tree c.args.left.now) in
    let qs = pairs_of (g.F.Object.HasTree.tree c.args.right.now) in
    let k = length c.loop-member.yielded in
    let le = left_end {u = c.next.new.self} ps k c.loop-member.invariant.left c.in-None.ensures.steps in
    let none = drop_all k qs (no_more _ _ _ _ _ le c.member_count.ensures c.member_count-2.ensures c.if-member_count.false) in
    let many = ap length (drop_all k ps le ∙ sym none) in
    let places = pairs_by_place ps qs c.members-member-items.ensures.rise c.members-others.ensures.rise in
    let all = c.loop-member.invariant.decides.0 (none_right (drop k ps) (drop k qs) none many) in
    (λ _. places.1 all, λ _. refl)

pub equal_members-equal_nodes-requires : goal.equal_members-equal_nodes-requires
equal_members-equal_nodes-requires g t c =
    let is = ap nest c.value.ensures in
    λ κs h. (value_below _ _ _ is c.decreases, h)

pub equal_nodes-equal_arrays-requires : goal.equal_nodes-equal_arrays-requires
equal_nodes-equal_arrays-requires g t c =
    let whole = array_nests (g.F.Array.HasTree.tree c.in-Some-as_array.elements) (g.F.Node.HasTree.tree c.args.left.now) c.in-Some-as_array.ensures in
    λ κs h. (parts_below _ _ _ whole c.decreases, h)

pub equal_nodes-equal_objects-requires : goal.equal_nodes-equal_objects-requires
equal_nodes-equal_objects-requires g t c =
    let whole = object_nests (g.F.Object.HasTree.tree c.in-Some-as_object-2.members) (g.F.Node.HasTree.tree c.args.left.now)
    c.in-Some-as_object-2.ensures in
    λ κs h. (parts_below _ _ _ whole c.decreases, h)

pub equal_nodes-returns-in-Some-as_array : goal.equal_nodes-returns-in-Some-as_array
equal_nodes-returns-in-Some-as_array g t c =
    let same = arrays_same (g.F.Array.HasTree.tree c.in-Some-as_array.elements) (g.F.Array.HasTree.tree c.in-Some.others)
    (g.F.Node.HasTree.tree c.args.left.now) (g.F.Node.HasTree.tree c.args.right.now) c.in-Some-as_array.ensures
    c.in-Some.ensures in
    (λ h. same.0 (c.equal_arrays.ensures.0 h), λ h. c.equal_arrays.ensures.1 (same.1 h))

pub equal_nodes-returns-in-Some-as_object-2 : goal.equal_nodes-returns-in-Some-as_object-2
equal_nodes-returns-in-Some-as_object-2 g t c =
    let same = objects_same (g.F.Object.HasTree.tree c.in-Some-as_object-2.members) (g.F.Object.HasTree.tree c.in-Some-as_object.others)
    (g.F.Node.HasTree.tree c.args.left.now) (g.F.Node.HasTree.tree c.args.right.now) c.in-Some-as_object-2.ensures
    c.in-Some-as_object.ensures in
    (λ h. same.0 (c.equal_objects.ensures.0 h), λ h. c.equal_objects.ensures.1 (same.1 h))
