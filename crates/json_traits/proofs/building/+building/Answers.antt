use Rattle.std.proofs.Common.{◌+◌, ap, drop, length, length-append, map, ◌∙◌}
use Rattle.std.proofs.lemmas.List.{drop_all, take_all}
use Rattle.json_model.specs.Nest.{nest}
use Rattle.json_model.specs.Parts.{elements_of, pairs_of}
use Rattle.json_exact.specs.Trees.{tree as value_tree, pairs}
use Rattle.json_exact.proofs.InsertLaws.{none_inside, one_inside, all_inside}
use Rattle.json_traits.proofs.BuildingLaws.{built_more, array_built, object_built}
use Rattle.json_traits.proofs.MeasureLaws.{inside_below, same_inside_below, whole_below}
use Rattle.json_traits.proofs.GivesLaws.{left_item, left_end}
use Rattle.json_traits.proofs.ShapeLaws.{array_nests, object_nests, element_nests, pair_nests}
use Rattle.json_traits.proofs.building.+building.Goals as goal

pub build_elements-loop-element-init : goal.build_elements-loop-element-init
build_elements-loop-element-init g t c = record {
  can = rw c.into_iter-element-iterator.ensures.into_iter_gives c.elements-element-items.ensures.can;
  ends = rw c.into_iter-element-iterator.ensures.into_iter_gives c.elements-element-items.ensures.ends;
  left = rw c.into_iter-element-iterator.ensures.into_iter_gives c.elements-element-items.ensures.gives;
  built = ap (map value_tree) c.new-values.ensures.items;
}

pub build_elements-build-requires : goal.build_elements-build-requires
build_elements-build-requires g t c =
    let ts = elements_of (g.F.Array.HasTree.tree c.args.array.now) in
    let k = length c.loop-element.yielded in
    let r = left_item {j = c.next.new.self} ts k c.loop-element.invariant.left c.in-Some.ensures.steps in
    let inside = element_nests ts k (g.F.Node.HasTree.tree c.in-Some.element) r.0.here in
    λ κs h. (inside_below _ _ _ inside c.decreases, h)

pub build_elements-loop-element-preserved : goal.build_elements-loop-element-preserved
build_elements-loop-element-preserved g t c =
    let ts = elements_of (g.F.Array.HasTree.tree c.args.array.now) in
    let k = length c.loop-element.yielded in
    let r = left_item {j = c.next.new.self} ts k c.loop-element.invariant.left c.in-Some.ensures.steps in
    let built = built_more c.loop-element.values.items c.push.new.values.items c.in_ok-value.value ts k
    (g.F.Node.HasTree.tree c.in-Some.element) c.in_ok-push.ensures
    c.loop-element.invariant.built
    c.in_ok-value.ensures r.0.front in
    record {
      can = c.in-Some.ensures.goes.keeps;
      ends = (c.in-Some.ensures.goes.on c.loop-element.invariant.ends).1;
      left = simp length-append r.1;
      built = simp length-append built;
    }

pub build_elements-returns : goal.build_elements-returns
build_elements-returns g t c =
    let ts = elements_of (g.F.Array.HasTree.tree c.args.array.now) in
    let k = length c.loop-element.yielded in
    c.loop-element.invariant.built ∙ take_all k ts (left_end {u = c.next.new.self} ts k c.loop-element.invariant.left c.in-None.ensures.steps)

pub build_members-loop-member-init : goal.build_members-loop-member-init
build_members-loop-member-init g t c = record {
  can = rw c.into_iter-member-iterator.ensures.into_iter_gives c.members-member-items.ensures.can;
  ends = rw c.into_iter-member-iterator.ensures.into_iter_gives c.members-member-items.ensures.ends;
  left = rw c.into_iter-member-iterator.ensures.into_iter_gives c.members-member-items.ensures.gives;
  rise = c.members-member-items.ensures.rise;
  shares = none_inside (pairs_of (g.F.Object.HasTree.tree c.args.object.now)) _ c.new-members.ensures;
}

pub build_members-build-requires : goal.build_members-build-requires
build_members-build-requires g t c =
    let ps = pairs_of (g.F.Object.HasTree.tree c.args.object.now) in
    let k = length c.loop-member.yielded in
    let r = left_item {j = c.next.new.self} ps k c.loop-member.invariant.left c.in-Some.ensures.steps in
    let inside = pair_nests ps k (g.F.NodeFamily.pair c.in-Some.member) r.0.here in
    let is = ap nest c.value.ensures in
    λ κs h. (same_inside_below _ _ _ _ inside is c.decreases, h)

pub build_members-loop-member-preserved : goal.build_members-loop-member-preserved
build_members-loop-member-preserved g t c =
    let ps = pairs_of (g.F.Object.HasTree.tree c.args.object.now) in
    let k = length c.loop-member.yielded in
    let r = left_item {j = c.next.new.self} ps k c.loop-member.invariant.left c.in-Some.ensures.steps in
    let next = one_inside _ (drop k ps) (drop (k + 1) ps) (pairs c.loop-member.members) _ ps _ (value_tree c.in_ok-value.value) r.0.back
    c.loop-member.invariant.rise (c.as_str.ensures ∙ c.key-name.ensures) (c.in_ok-value.ensures ∙ c.value.ensures)
    c.loop-member.invariant.shares c.in_ok-put.ensures in
    record {
      can = c.in-Some.ensures.goes.keeps;
      ends = (c.in-Some.ensures.goes.on c.loop-member.invariant.ends).1;
      left = simp length-append r.1;
      rise = simp length-append next.0;
      shares = simp length-append next.1;
    }

pub build_members-returns : goal.build_members-returns
build_members-returns g t c =
    let ps = pairs_of (g.F.Object.HasTree.tree c.args.object.now) in
    let k = length c.loop-member.yielded in
    let none = drop_all k ps (left_end {u = c.next.new.self} ps k c.loop-member.invariant.left c.in-None.ensures.steps) in
    all_inside (drop k ps) (pairs c.loop-member.members) ps none c.iter-members.ensures.rise c.members-member-items.ensures.rise
    c.loop-member.invariant.shares

pub build-build_elements-requires : goal.build-build_elements-requires
build-build_elements-requires g t c =
    let whole = array_nests (g.F.Array.HasTree.tree c.in-Some.array) (g.F.Node.HasTree.tree c.args.node.now) c.in-Some.ensures in
    λ κs h. (whole_below _ _ _ whole c.decreases, h)

pub build-build_members-requires : goal.build-build_members-requires
build-build_members-requires g t c =
    let whole = object_nests (g.F.Object.HasTree.tree c.in-Some-as_object.object) (g.F.Node.HasTree.tree c.args.node.now) c.in-Some-as_object.ensures
    in
    λ κs h. (whole_below _ _ _ whole c.decreases, h)

pub build-returns-in-Some : goal.build-returns-in-Some
build-returns-in-Some g t c = array_built c.in_ok-values.values _ _ c.in_ok-values.ensures c.in-Some.ensures

pub build-returns-in-Some-as_object : goal.build-returns-in-Some-as_object
build-returns-in-Some-as_object g t c = object_built c.in_ok-members.members _ _ c.in_ok-members.ensures c.in-Some-as_object.ensures
