use Rattle.std.proofs.Common.{◌≡◌, ℕ, List, Bool, true, false, not, cond, refl, sym, ap, ◌∙◌, length, length-append, rules, Bor, BTreeSet}
use Rattle.std.specs.Prelude.{option_map}
use Rattle.std.specs.BTreeSet.{contains}
use Rattle.std.specs.Cmp.Lexicographic.{slice_cmp}
use Rattle.std.specs.Ordering.{nat_cmp}
use Rattle.std.proofs.lemmas.Map.Text.{is_eq-slice_cmp}
use Rattle.json_model.proofs.KindLaws.{if_array_is}
use Rattle.json_model.specs.Parts.{as_object, elements_of}
use Rattle.json_traits.proofs.GivesLaws.{left_item, left_end}
use Rattle.std.specs.List.{AllByRecursion}
use Rattle.flat_keywords.specs.inner.Passes.{HasKeys}
use Rattle.flat_keywords.specs.Verdict.{IsKeyOf}
use Rattle.flat_keywords.specs.Validity.{AreNames}
use Rattle.flat_keywords.proofs.NameLists.{starts, no_string, twice, goes_on, if_both, ends}
use Rattle.flat_keywords.proofs.RequiredKeys.{in_any_order}
use Rattle.flat_keywords.proofs.TypeLists.{of_list}
use Rattle.flat_keywords.proofs.names.read_names.Goals as goal

not_false : (b : Bool) → not b ≡ false → b ≡ true
not_false true e = refl
not_false false e = absurd cc

not_true : (b : Bool) → not b ≡ true → b ≡ false
not_true true e = absurd cc
not_true false e = refl

-- what the set of the names so far has
abbrev has : BTreeSet (Bor (List ℕ)) → Bor (List ℕ) → Bool
has seen = contains (λ x y. slice_cmp nat_cmp x.now y.now) seen

pub loop-element-init : goal.loop-element-init
loop-element-init g c =
    let t = g.N.HasTree.tree c.args.value.now in
    let same = if_array_is t c.in-Some.ensures in
    record {
      can = rw c.into_iter-element-iterator.ensures.into_iter_gives c.elements-element-items.ensures.can;
      ends = rw c.into_iter-element-iterator.ensures.into_iter_gives c.elements-element-items.ensures.ends;
      left = rw (c.into_iter-element-iterator.ensures.into_iter_gives, ← same) c.elements-element-items.ensures.gives;
      collected = starts (elements_of t) c.new-names.result.items (has c.new-seen.result) c.new-names.ensures.items (λ q. search rules);
    }

pub returns-in_default-as_string : goal.returns-in_default-as_string
returns-in_default-as_string g c =
    let t = g.N.HasTree.tree c.args.value.now in
    let k = length c.loop-element.yielded in
    let r = left_item {j = c.next.new.self} (elements_of t) k c.loop-element.invariant.left c.in-Some-element.ensures.steps in (
      refl,
      λ h. no_string (elements_of t) c.loop-element.names.items (has c.loop-element.seen) k
          (g.N.HasTree.tree c.in-Some-element.element) r.0 c.loop-element.invariant.collected
          (sym (ap (option_map (λ (s : Bor (List ℕ)). s.now)) (sym c.in_default-as_string.is) ∙ c.as_string.ensures))
          ((of_list t AreNames c.in-Some.ensures).0 h),
    )

pub returns-in-Ok-false : goal.returns-in-Ok-false
returns-in-Ok-false g c =
    let t = g.N.HasTree.tree c.args.value.now in
    let k = length c.loop-element.yielded in
    let r = left_item {j = c.next.new.self} (elements_of t) k c.loop-element.invariant.left c.in-Some-element.ensures.steps in (
      refl,
      λ h. twice (elements_of t) c.loop-element.names.items (has c.loop-element.seen) k
          (g.N.HasTree.tree c.in-Some-element.element) r.0 c.loop-element.invariant.collected
          c.in-Some-as_string.name c.in-Some-as_string.ensures
          (not_false _ (sym c.in-Ok-false.ensures.added ∙ c.in-Ok-false.field-0-test)) ((of_list t AreNames c.in-Some.ensures).0 h),
    )

pub loop-element-preserved : goal.loop-element-preserved
loop-element-preserved g c =
    let t = g.N.HasTree.tree c.args.value.now in
    let k = length c.loop-element.yielded in
    let r = left_item {j = c.next.new.self} (elements_of t) k c.loop-element.invariant.left c.in-Some-element.ensures.steps in
    record {
      can = c.in-Some-element.ensures.goes.keeps;
      ends = (c.in-Some-element.ensures.goes.on c.loop-element.invariant.ends).1;
      left = simp length-append r.1;
      collected =
          simp length-append (goes_on (elements_of t) c.loop-element.names.items (has c.loop-element.seen) k
          (g.N.HasTree.tree c.in-Some-element.element) r.0 c.loop-element.invariant.collected
          c.in-Some-as_string.name c.in-Some-as_string.ensures (has c.insert.new.self)
          (not_true _ (sym c.in-Ok-true.ensures.added ∙ c.in-Ok-true.field-0-test))
          (λ q. c.in-Ok-true.ensures.updates.0 q ∙ ap (λ b. cond b true (has c.loop-element.seen q))
          (is_eq-slice_cmp c.in-Some-as_string.name.now q.now))
          c.keep.new.names.items (c.keep.ensures c.if-not-keep.false));
    }

pub returns : goal.returns
returns g c =
    let t = g.N.HasTree.tree c.args.value.now in
    let k = length c.loop-element.yielded in
    let e = ends (elements_of t) c.loop-element.names.items (has c.loop-element.seen) k
    (left_end {u = c.next.new.self} (elements_of t) k c.loop-element.invariant.left c.in-None.ensures.steps)
    c.loop-element.invariant.collected in
    let sorted = c.put_in_key_order.new.names.items in (
      (of_list t AreNames c.in-Some.ensures).1 e.0,
      λ d. if_both (as_object d) (HasKeys sorted) (λ ps. AllByRecursion (IsKeyOf ps) (elements_of t))
          (λ ps. let moved = in_any_order c.loop-element.names.items sorted ps c.put_in_key_order.ensures in
          let asked = e.1 ps in (λ h. asked.0 (moved.1 h), λ h. moved.0 (asked.1 h))),
    )
