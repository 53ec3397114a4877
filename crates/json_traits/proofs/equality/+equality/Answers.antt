use Rattle.std.proofs.Common.{◌≡◌, ◌+◌, ◌≤◌, true, List, ℕ, length, length-append, map, drop, ap, sym, subst, refl, ◌∙◌}
use Rattle.std.specs.Prelude.{◌↔◌}
use Rattle.std.proofs.lemmas.Bool.{false≢true, iff_false}
use Rattle.std.proofs.lemmas.List.{length-map}
use Rattle.json_model.proofs.KindLaws.{if_array_is, if_object_is}
use Rattle.json_model.specs.Keys.{rises}
use Rattle.json_model.specs.Nest.{nest, nest_elements, nest_members}
use Rattle.json_model.specs.Parts.{elements_from, elements_of, members_from, pairs_of}
use Rattle.json_model.specs.Tree.{Tree, object}
use Rattle.json_exact.specs.MapIteration.{left}
use Rattle.json_exact.specs.Trees.{Pairs, tree as value_tree, pairs}
use Rattle.json_exact.specs.declared.value.Value.{Value}
use Rattle.json_exact.proofs.NestLaws.{element_nests}
use Rattle.json_traits.specs.Gives.{Gives}
use Rattle.json_traits.proofs.EqualityLaws.{same_as, null_tree, boolean_tree, number_tree, string_tree, array_tree, object_tree, same_array, same_object, same_members, same_count, tree_leads, next_same, next_differs, none_differs}
use Rattle.json_traits.proofs.GivesLaws.{left_item, left_end}
use Rattle.json_traits.proofs.MeasureLaws.{parts_below, element_below, member_below, as_deep, none_missing, all_passed, as_few, counted_alike, not_as_many, one_fewer, first_inside, rest_inside}
use Rattle.json_traits.proofs.PlaceLaws.{SameAtPlaces, pairs_by_place, first_differs, first_same, none_right}
use Rattle.json_traits.proofs.equality.+equality.Goals as goal

pub equals_array-returns-then-element_count-expected : goal.equals_array-returns-then-element_count-expected
equals_array-returns-then-element_count-expected g t c =
    let v = g.F.Node.HasTree.tree c.args.node.now in
    let us = map value_tree c.args.expected.now in
    let e = c.in-Some.ensures in
    let same = ap (λ (u : Tree). length (elements_of u)) (if_array_is v e) in (
      λ h. absurd (false≢true h),
      λ h. absurd (c.if-element_count-expected.true
          (c.element_count.ensures ∙ same ∙ same_count (elements_of v) us ((same_array (g.F.Array.HasTree.tree c.in-Some.array) v
          (elements_from us) e).1 h) ∙
          length-map c.args.expected.now value_tree)),
    )

pub equals_array-loop-i-init : goal.equals_array-loop-i-init
equals_array-loop-i-init g t c = record {
  can = c.elements-elements.ensures.can;
  left = subst (λ (u : Tree). Gives g.F.Elements.Iterator.next_gives g.F.Node.HasTree.tree c.elements-elements.result (elements_of u))
      (if_array_is (g.F.Node.HasTree.tree c.args.node.now) c.in-Some.ensures) c.elements-elements.ensures.gives;
  decides = (λ h. h, λ h. h);
}

pub equals_array-returns-in_default-next : goal.equals_array-returns-in_default-next
equals_array-returns-in_default-next g t c =
    let v = g.F.Node.HasTree.tree c.args.node.now in
    let same = ap (λ (u : Tree). length (elements_of u)) (if_array_is v c.in-Some.ensures) in
    let le = left_end {u = c.next.new.self} (elements_of v) c.loop-i.i c.loop-i.invariant.left c.in_default-next.ensures.steps in
    absurd (none_missing _ _ _ _ _ le same c.element_count.ensures c.if-element_count-expected.false c.loop-i-test.true)

pub equals_array-equals-requires : goal.equals_array-equals-requires
equals_array-equals-requires g t c =
    let inside = subst (λ (v : Value). nest (value_tree v) ≤ nest_elements (elements_from (map value_tree c.args.expected.now)))
    (sym c.index-expected-i.is)
    (element_nests c.args.expected.now c.loop-i.i c.index-expected-i.result c.loop-i-test.true) in
    λ κs h. (element_below _ _ _ inside c.decreases, h)

pub equals_array-returns-then-not-equals : goal.equals_array-returns-then-not-equals
equals_array-returns-then-not-equals g t c =
    let v = g.F.Node.HasTree.tree c.args.node.now in
    let ts = elements_of v in
    let us = map value_tree c.args.expected.now in
    let i = c.loop-i.i in
    let r = left_item {j = c.next.new.self} ts i c.loop-i.invariant.left c.in-Some-next.ensures.steps in
    let lead = tree_leads c.args.expected.now i c.index-expected-i.result c.loop-i-test.true c.index-expected-i.is in (
      λ h. absurd (false≢true h),
      λ h. absurd (next_differs ts us i c.loop-i.invariant.decides (g.F.Node.HasTree.tree c.in-Some-next.element)
          (value_tree c.index-expected-i.result) r.0.back lead
          (iff_false c.equals.ensures c.if-not-equals.true)
          ((same_array (g.F.Array.HasTree.tree c.in-Some.array) v (elements_from us) c.in-Some.ensures).1 h)),
    )

pub equals_array-loop-i-preserved : goal.equals_array-loop-i-preserved
equals_array-loop-i-preserved g t c =
    let ts = elements_of (g.F.Node.HasTree.tree c.args.node.now) in
    let us = map value_tree c.args.expected.now in
    let i = c.loop-i.i in
    let r = left_item {j = c.next.new.self} ts i c.loop-i.invariant.left c.in-Some-next.ensures.steps in
    let lead = tree_leads c.args.expected.now i c.index-expected-i.result c.loop-i-test.true c.index-expected-i.is in
    record {
      can = c.in-Some-next.ensures.goes.keeps;
      left = r.1;
      decides = next_same ts us i c.loop-i.invariant.decides (g.F.Node.HasTree.tree c.in-Some-next.element)
          (value_tree c.index-expected-i.result) r.0.back lead (c.equals.ensures.0 c.if-not-equals.false);
    }

pub equals_array-returns : goal.equals_array-returns
equals_array-returns g t c =
    let v = g.F.Node.HasTree.tree c.args.node.now in
    let us = map value_tree c.args.expected.now in
    let same = ap (λ (u : Tree). length (elements_of u)) (if_array_is v c.in-Some.ensures) in
    let all = none_differs (elements_of v) us c.loop-i.i c.loop-i.invariant.decides
    (all_passed _ _ _ _ _ same c.element_count.ensures c.if-element_count-expected.false c.loop-i-test.false)
    (as_few _ _ _ (length-map c.args.expected.now value_tree) c.loop-i-test.false) in
    (λ _. (same_array (g.F.Array.HasTree.tree c.in-Some.array) v (elements_from us) c.in-Some.ensures).0 all, λ _. refl)

pub equals_object-returns-then-member_count-len : goal.equals_object-returns-then-member_count-len
equals_object-returns-then-member_count-len g t c = (
  λ h. absurd (false≢true h),
  λ h. absurd (c.if-member_count-len.true
      (c.member_count.ensures ∙ same_members (g.F.Object.HasTree.tree c.in-Some.object) (g.F.Node.HasTree.tree c.args.node.now)
      (pairs c.args.expected.now) c.in-Some.ensures h ∙
      sym c.len.ensures)),
)

pub equals_object-loop-name-init : goal.equals_object-loop-name-init
equals_object-loop-name-init g t c =
    let v = g.F.Node.HasTree.tree c.args.node.now in
    let start : left c.into_iter-name-iterator.result ≡ pairs c.args.expected.now = ap left c.into_iter-name-iterator.ensures.into_iter_gives ∙
    c.iter-name-items.ensures.pairs in
    let many = ap length start in
    let nests = ap (λ (ps : Pairs). nest_members (members_from ps)) start in
    let same = ap (λ (u : Tree). length (pairs_of u)) (if_object_is v c.in-Some.ensures) in
    record {
      can = c.members-members.ensures.can;
      gives = subst (λ (u : Tree). Gives g.F.Members.Iterator.next_gives g.F.NodeFamily.pair c.members-members.result (pairs_of u))
          (if_object_is v c.in-Some.ensures) c.members-members.ensures.gives;
      as_many = counted_alike _ _ _ _ _ _ same c.member_count.ensures c.if-member_count-len.false c.len.ensures many;
      inside = as_deep _ _ nests;
      decides =
          subst (λ (ps : Pairs). SameAtPlaces (members_from (pairs_of v)) (members_from ps) ↔
          SameAtPlaces (members_from (pairs_of v)) (members_from (pairs c.args.expected.now)))
          (sym start) (λ h. h, λ h. h);
    }

pub equals_object-returns-in_default-next : goal.equals_object-returns-in_default-next
equals_object-returns-in_default-next g t c =
    let ps = pairs_of (g.F.Node.HasTree.tree c.args.node.now) in
    let k = length c.loop-name.yielded in
    let le = left_end {u = c.next-in-loop-name.new.self} ps k c.loop-name.invariant.gives c.in_default-next.ensures.steps in
    absurd (not_as_many ps k _ _ le c.loop-name.invariant.as_many (ap length c.in-Some-2.ensures.steps))

pub equals_object-equals_member-requires : goal.equals_object-equals_member-requires
equals_object-equals_member-requires g t c =
    let inside = first_inside (c.in-Some-2.name.now, value_tree c.in-Some-2.value.now) (left c.loop-name.name-iterator) _ _ c.in-Some-2.ensures.steps
    c.loop-name.invariant.inside in
    λ κs h. (member_below _ _ _ inside c.decreases, h)

pub equals_object-returns-then-not-equals_member : goal.equals_object-returns-then-not-equals_member
equals_object-returns-then-not-equals_member g t c =
    let v = g.F.Node.HasTree.tree c.args.node.now in
    let ps = pairs_of v in
    let qs = pairs c.args.expected.now in
    let k = length c.loop-name.yielded in
    let r = left_item {j = c.next-in-loop-name.new.self} ps k c.loop-name.invariant.gives c.in-Some-next.ensures.steps in
    let rise = subst (λ (u : Tree). rises (map (λ (p : List ℕ × Tree). p.0) (pairs_of u)) ≡ true) (if_object_is v c.in-Some.ensures)
    c.members-members.ensures.rise in
    let places = pairs_by_place ps qs rise c.iter-name-items.ensures.rise in (
      λ h. absurd (false≢true h),
      λ h. absurd (first_differs (g.F.NodeFamily.pair c.in-Some-next.member) (c.in-Some-2.name.now, value_tree c.in-Some-2.value.now)
          (drop k ps) (left c.loop-name.name-iterator)
          (drop (k + 1) ps) (left c.next.new.self) r.0.back c.in-Some-2.ensures.steps
          (λ e s. iff_false c.equals_member.ensures c.if-not-equals_member.true (e, s))
          (c.loop-name.invariant.decides.1 (places.0 ((same_object (g.F.Object.HasTree.tree c.in-Some.object) v (object
          (members_from qs)) c.in-Some.ensures).1 h)))),
    )

pub equals_object-loop-name-preserved : goal.equals_object-loop-name-preserved
equals_object-loop-name-preserved g t c =
    let ps = pairs_of (g.F.Node.HasTree.tree c.args.node.now) in
    let k = length c.loop-name.yielded in
    let r = left_item {j = c.next-in-loop-name.new.self} ps k c.loop-name.invariant.gives c.in-Some-next.ensures.steps in
    let steps = c.in-Some-2.ensures.steps in
    let many = one_fewer _ _ _ _ (ap length r.0.back) (ap length steps) c.loop-name.invariant.as_many in
    let decides = first_same (g.F.NodeFamily.pair c.in-Some-next.member) (c.in-Some-2.name.now, value_tree c.in-Some-2.value.now) (drop k ps)
    (left c.loop-name.name-iterator)
    (drop (k + 1) ps) (left c.next.new.self) (SameAtPlaces (members_from ps) (members_from (pairs c.args.expected.now))) r.0.back steps
    (c.equals_member.ensures.0 c.if-not-equals_member.false)
    c.loop-name.invariant.decides in
    record {
      can = c.in-Some-next.ensures.goes.keeps;
      gives = simp length-append r.1;
      as_many = simp length-append many;
      inside = rest_inside (c.in-Some-2.name.now, value_tree c.in-Some-2.value.now) (left c.loop-name.name-iterator) (left c.next.new.self) _ steps
          c.loop-name.invariant.inside;
      decides = simp length-append decides;
    }

pub equals_object-returns : goal.equals_object-returns
equals_object-returns g t c =
    let v = g.F.Node.HasTree.tree c.args.node.now in
    let ps = pairs_of v in
    let qs = pairs c.args.expected.now in
    let k = length c.loop-name.yielded in
    let rise = subst (λ (u : Tree). rises (map (λ (p : List ℕ × Tree). p.0) (pairs_of u)) ≡ true) (if_object_is v c.in-Some.ensures)
    c.members-members.ensures.rise in
    let places = pairs_by_place ps qs rise c.iter-name-items.ensures.rise in
    let all = c.loop-name.invariant.decides.0 (none_right (drop k ps) (left c.loop-name.name-iterator) c.in-None.ensures.steps.0
    c.loop-name.invariant.as_many) in
    (λ _. (same_object (g.F.Object.HasTree.tree c.in-Some.object) v (object (members_from qs)) c.in-Some.ensures).0 (places.1 all), λ _. refl)

pub equals-equals_array-requires : goal.equals-equals_array-requires
equals-equals_array-requires g t c =
    let whole = ap nest (array_tree c.args.expected.now c.in-Array.elements _ c.in-Array.is c.as_slice.ensures.value) in
    λ κs h. (parts_below _ _ _ whole c.decreases, h)

pub equals-equals_object-requires : goal.equals-equals_object-requires
equals-equals_object-requires g t c =
    let whole = ap nest (object_tree c.args.expected.now c.in-Object.members c.in-Object.is) in
    λ κs h. (parts_below _ _ _ whole c.decreases, h)

pub equals-returns-in-Null : goal.equals-returns-in-Null
equals-returns-in-Null g t c =
    let v = c.args.expected.now in
    same_as v (g.F.Node.HasTree.tree c.args.node.now) _ (null_tree v c.in-Null.is) c.equals_null.ensures

pub equals-returns-in-Bool : goal.equals-returns-in-Bool
equals-returns-in-Bool g t c =
    let v = c.args.expected.now in
    same_as v (g.F.Node.HasTree.tree c.args.node.now) _ (boolean_tree v c.in-Bool.truth c.in-Bool.is) c.equals_boolean.ensures

pub equals-returns-in-Number : goal.equals-returns-in-Number
equals-returns-in-Number g t c =
    let v = c.args.expected.now in
    same_as v (g.F.Node.HasTree.tree c.args.node.now) _ (number_tree v c.in-Number.number c.in-Number.is) c.equals_number.ensures

pub equals-returns-in-String : goal.equals-returns-in-String
equals-returns-in-String g t c =
    let v = c.args.expected.now in
    same_as v (g.F.Node.HasTree.tree c.args.node.now) _ (string_tree v c.in-String.text _ c.in-String.is c.as_str.ensures.value)
    c.equals_string.ensures

pub equals-returns-in-Array : goal.equals-returns-in-Array
equals-returns-in-Array g t c =
    let v = c.args.expected.now in
    same_as v (g.F.Node.HasTree.tree c.args.node.now) _ (array_tree v c.in-Array.elements _ c.in-Array.is c.as_slice.ensures.value)
    c.equals_array.ensures

pub equals-returns-in-Object : goal.equals-returns-in-Object
equals-returns-in-Object g t c =
    let v = c.args.expected.now in
    same_as v (g.F.Node.HasTree.tree c.args.node.now) _ (object_tree v c.in-Object.members c.in-Object.is) c.equals_object.ensures
