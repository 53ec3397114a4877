use Rattle.std.proofs.Common.{rules, ◌≡◌, ◌≤◌, [], ◌∷◌, ◌++◌, refl, sym, subst, map}
use Rattle.json_model.specs.Nest.{nest, nest_elements}
use Rattle.json_model.specs.Parts.{elements_from}
use Rattle.json_exact.specs.MapIteration.{left}
use Rattle.json_exact.specs.Trees.{tree, pairs}
use Rattle.json_exact.specs.declared.value.Value.{Value}
use Rattle.json_exact.proofs.CopyLaws.{inside_below, parts_below, array_nests, object_nests, array_copied, object_copied, one_copied, all_copied, rest_inside}
use Rattle.json_exact.proofs.InsertLaws.{one_inside, all_inside}
use Rattle.json_exact.proofs.NestLaws.{element_nests}
use Rattle.json_exact.proofs.cloning.+cloning.Goals as goal

pub clone_elements-clone_value-requires : goal.clone_elements-clone_value-requires
clone_elements-clone_value-requires t c =
    let inside = subst (λ (v : Value). nest (tree v) ≤ nest_elements (elements_from (map tree c.args.elements.now))) (sym c.index-elements-i.is)
    (element_nests c.args.elements.now c.loop-i.i c.index-elements-i.result c.loop-i-test.true) in
    (inside_below _ _ _ inside c.decreases, tt)

pub clone_members-loop-name-preserved : goal.clone_members-loop-name-preserved
clone_members-loop-name-preserved t c =
    let before = left c.loop-name.name-iterator in
    let after = left c.next.new.self in
    let next = one_inside (c.in-Some.name.now, tree c.in-Some.value.now) before after (pairs c.loop-name.copies) _ (pairs c.args.members.now)
    c.in-Some.name.now (tree c.in_ok-copy.copy) c.in-Some.ensures.steps c.loop-name.invariant.rise
    refl c.in_ok-copy.ensures c.loop-name.invariant.shares c.in_ok-put.ensures in
    record {
      inside = rest_inside (c.in-Some.name.now, tree c.in-Some.value.now) before after _ c.in-Some.ensures.steps c.loop-name.invariant.inside;
      rise = next.0;
      shares = next.1;
    }

pub clone_members-returns : goal.clone_members-returns
clone_members-returns t c =
    all_inside (left c.loop-name.name-iterator) (pairs c.loop-name.copies) (pairs c.args.members.now) c.in-None.ensures.steps.0
    c.iter-members.ensures.rise c.iter-name-items.ensures.rise c.loop-name.invariant.shares

pub clone_elements-loop-i-preserved : goal.clone_elements-loop-i-preserved
clone_elements-loop-i-preserved t c =
    let copies = c.loop-i.copies.items in
    let pushed : c.push.new.self.items ≡ copies ++ c.in_ok-copy.copy ∷ [] = search rules in
    one_copied copies c.push.new.self.items c.args.elements.now c.loop-i.i c.in_ok-copy.copy c.index-elements-i.result c.loop-i-test.true
    c.index-elements-i.is c.in_ok-copy.ensures pushed c.loop-i.invariant

pub clone_elements-returns : goal.clone_elements-returns
clone_elements-returns t c = all_copied c.loop-i.copies.items c.args.elements.now c.loop-i.i c.loop-i-test.false c.loop-i.invariant

pub clone_value-clone_elements-requires : goal.clone_value-clone_elements-requires
clone_value-clone_elements-requires t c =
    let whole = array_nests c.args.value.now c.in-Array.elements c.as_slice.result.now c.in-Array.is c.as_slice.ensures.value in
    (parts_below _ _ _ whole c.decreases, tt)

pub clone_value-clone_members-requires : goal.clone_value-clone_members-requires
clone_value-clone_members-requires t c =
    let whole = object_nests c.args.value.now c.in-Object.members c.in-Object.is in
    (parts_below _ _ _ whole c.decreases, tt)

pub clone_value-returns-in_ok-clone_elements-in-Array : goal.clone_value-returns-in_ok-clone_elements-in-Array
clone_value-returns-in_ok-clone_elements-in-Array t c =
    array_copied c.args.value.now c.in-Array.elements c.in_ok-clone_elements-in-Array.field-0 c.as_slice.result.now c.in-Array.is
    c.as_slice.ensures.value c.in_ok-clone_elements-in-Array.ensures

pub clone_value-returns-in_ok-clone_members-in-Object : goal.clone_value-returns-in_ok-clone_members-in-Object
clone_value-returns-in_ok-clone_members-in-Object t c =
    object_copied c.args.value.now c.in-Object.members c.in_ok-clone_members-in-Object.field-0 c.in-Object.is
    c.in_ok-clone_members-in-Object.ensures
