use Rattle.std.proofs.Common.{◌≡◌, ◌≤◌, false, true, refl, sym, subst, length, length-append}
use Rattle.std.proofs.lemmas.Bool.{false≢true, iff_false}
use Rattle.json_model.specs.Nest.{nest, nest_elements, nest_members}
use Rattle.json_model.specs.Parts.{elements_from, elements_of, members_from, pairs_of}
use Rattle.json_traits.proofs.MeasureLaws.{one_deeper}
use Rattle.json_traits.proofs.GivesLaws.{left_item, left_end}
use Rattle.json_traits.proofs.ShapeLaws.{array_nests, object_nests}
use Rattle.json_traits.proofs.WalkLaws.{goes_on, stops, ends, elements_within, members_within}
use Rattle.json_traits.proofs.nesting.+nesting.Goals as goal

pub elements_nest_within-loop-element-init : goal.elements_nest_within-loop-element-init
elements_nest_within-loop-element-init g t c = record {
  can = rw c.into_iter-element-iterator.ensures.into_iter_gives c.elements-element-items.ensures.can;
  ends = rw c.into_iter-element-iterator.ensures.into_iter_gives c.elements-element-items.ensures.ends;
  left = rw c.into_iter-element-iterator.ensures.into_iter_gives c.elements-element-items.ensures.gives;
  decides = elements_within c.args.limit (elements_of (g.F.Array.HasTree.tree c.args.array.now));
}

pub elements_nest_within-returns-then-not-nests_within : goal.elements_nest_within-returns-then-not-nests_within
elements_nest_within-returns-then-not-nests_within g t c =
    let xs = elements_of (g.F.Array.HasTree.tree c.args.array.now) in
    let k = length c.loop-element.yielded in
    let r = left_item {j = c.next.new.self} xs k c.loop-element.invariant.left c.in-Some.ensures.steps in (
      λ h. absurd (false≢true h),
      λ q. absurd {A = false ≡ true} (stops (λ u. nest u ≤ c.args.limit) xs k (nest_elements
          (elements_from xs) ≤ c.args.limit) c.loop-element.invariant.decides (g.F.Node.HasTree.tree c.in-Some.element) r.0.back
          (iff_false c.nests_within.ensures c.if-not-nests_within.true) q),
    )

pub elements_nest_within-loop-element-preserved : goal.elements_nest_within-loop-element-preserved
elements_nest_within-loop-element-preserved g t c =
    let xs = elements_of (g.F.Array.HasTree.tree c.args.array.now) in
    let k = length c.loop-element.yielded in
    let r = left_item {j = c.next.new.self} xs k c.loop-element.invariant.left c.in-Some.ensures.steps in
    record {
      can = c.in-Some.ensures.goes.keeps;
      ends = (c.in-Some.ensures.goes.on c.loop-element.invariant.ends).1;
      left = simp length-append r.1;
      decides =
          simp length-append (goes_on (λ u. nest u ≤ c.args.limit) xs k (nest_elements (elements_from xs) ≤ c.args.limit)
          c.loop-element.invariant.decides (g.F.Node.HasTree.tree c.in-Some.element) r.0.back
          (c.nests_within.ensures.0 c.if-not-nests_within.false));
    }

pub elements_nest_within-returns : goal.elements_nest_within-returns
elements_nest_within-returns g t c =
    let xs = elements_of (g.F.Array.HasTree.tree c.args.array.now) in
    let k = length c.loop-element.yielded in
    let all = ends (λ u. nest u ≤ c.args.limit) xs k (nest_elements (elements_from xs) ≤ c.args.limit) c.loop-element.invariant.decides
    (left_end {u = c.next.new.self} xs k c.loop-element.invariant.left c.in-None.ensures.steps) in
    (λ _. all, λ _. refl)

pub members_nest_within-loop-member-init : goal.members_nest_within-loop-member-init
members_nest_within-loop-member-init g t c = record {
  can = rw c.into_iter-member-iterator.ensures.into_iter_gives c.members-member-items.ensures.can;
  ends = rw c.into_iter-member-iterator.ensures.into_iter_gives c.members-member-items.ensures.ends;
  left = rw c.into_iter-member-iterator.ensures.into_iter_gives c.members-member-items.ensures.gives;
  decides = members_within c.args.limit (pairs_of (g.F.Object.HasTree.tree c.args.object.now));
}

pub members_nest_within-returns-then-not-nests_within : goal.members_nest_within-returns-then-not-nests_within
members_nest_within-returns-then-not-nests_within g t c =
    let xs = pairs_of (g.F.Object.HasTree.tree c.args.object.now) in
    let k = length c.loop-member.yielded in
    let r = left_item {j = c.next.new.self} xs k c.loop-member.invariant.left c.in-Some.ensures.steps in (
      λ h. absurd (false≢true h),
      λ q. absurd {A = false ≡ true} (stops (λ p. nest p.1 ≤ c.args.limit) xs k (nest_members
          (members_from xs) ≤ c.args.limit) c.loop-member.invariant.decides (g.F.NodeFamily.pair c.in-Some.member) r.0.back
          (λ p. iff_false c.nests_within.ensures c.if-not-nests_within.true (subst (λ u. nest u ≤ c.args.limit) (sym c.value.ensures) p)) q),
    )

pub members_nest_within-loop-member-preserved : goal.members_nest_within-loop-member-preserved
members_nest_within-loop-member-preserved g t c =
    let xs = pairs_of (g.F.Object.HasTree.tree c.args.object.now) in
    let k = length c.loop-member.yielded in
    let r = left_item {j = c.next.new.self} xs k c.loop-member.invariant.left c.in-Some.ensures.steps in
    record {
      can = c.in-Some.ensures.goes.keeps;
      ends = (c.in-Some.ensures.goes.on c.loop-member.invariant.ends).1;
      left = simp length-append r.1;
      decides =
          simp length-append (goes_on (λ p. nest p.1 ≤ c.args.limit) xs k (nest_members (members_from xs) ≤ c.args.limit)
          c.loop-member.invariant.decides (g.F.NodeFamily.pair c.in-Some.member) r.0.back
          (subst (λ u. nest u ≤ c.args.limit) c.value.ensures (c.nests_within.ensures.0 c.if-not-nests_within.false)));
    }

pub members_nest_within-returns : goal.members_nest_within-returns
members_nest_within-returns g t c =
    let xs = pairs_of (g.F.Object.HasTree.tree c.args.object.now) in
    let k = length c.loop-member.yielded in
    let all = ends (λ p. nest p.1 ≤ c.args.limit) xs k (nest_members (members_from xs) ≤ c.args.limit) c.loop-member.invariant.decides
    (left_end {u = c.next.new.self} xs k c.loop-member.invariant.left c.in-None.ensures.steps) in
    (λ _. all, λ _. refl)

pub nests_within-returns-then-limit-gt0 : goal.nests_within-returns-then-limit-gt0
nests_within-returns-then-limit-gt0 g t c =
    let v = g.F.Node.HasTree.tree c.args.node.now in
    let a = g.F.Array.HasTree.tree c.in-Some.array in
    let whole = array_nests a v c.in-Some.ensures in
    let less = one_deeper _ _ c.args.limit whole c.if-limit-gt0.true in
    (λ h. less.0 (c.elements_nest_within.ensures.0 h), λ h. c.elements_nest_within.ensures.1 (less.1 h))

pub nests_within-returns-then-limit-gt0-2 : goal.nests_within-returns-then-limit-gt0-2
nests_within-returns-then-limit-gt0-2 g t c =
    let v = g.F.Node.HasTree.tree c.args.node.now in
    let o = g.F.Object.HasTree.tree c.in-Some-as_object.object in
    let whole = object_nests o v c.in-Some-as_object.ensures in
    let less = one_deeper _ _ c.args.limit whole c.if-limit-gt0-2.true in
    (λ h. less.0 (c.members_nest_within.ensures.0 h), λ h. c.members_nest_within.ensures.1 (less.1 h))

-- 1
-- 2
-- 1
-- 2
