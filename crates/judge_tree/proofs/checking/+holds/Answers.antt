use Rattle.std.proofs.Common.{◌≡◌, true, false, ap, sym, subst, refl, ◌∙◌, map, string_bytes, length, length-append}
use Rattle.std.specs.Prelude.{◌↔◌, ◌⊎◌, IfOk, IsTrue}
use Rattle.json_model.specs.Parts.{elements_of, pairs_of}
use Rattle.json_traits.proofs.GivesLaws.{left_item, left_end}
use Rattle.judge_tree.specs.inner.Asked.{Asked, IsFrugal, asked, negated, at_key, at_others, Means}
use Rattle.judge_tree.specs.Verdict.{IsOneOf}
use Rattle.judge_tree.proofs.Opens.{asks_flat, asks_not, asks_member, asks_others}
use Rattle.json_traits.proofs.WalkLaws.{goes_on, stops, ends}
use Rattle.judge_tree.proofs.checking.+holds.Goals as goal

pub holds-returns-in-Flat : goal.holds-returns-in-Flat
holds-returns-in-Flat g t c =
    let is = ap asked c.in-Flat.is ∙ asks_flat c.in-Flat.checks in
    record {
      ok = λ h. c.passes.ensures.ok (subst IsFrugal is h);
      right = subst (λ (a : Asked). IfOk c.passes.result (λ b. IsTrue b ↔ Means a (g.F.Node.HasTree.tree c.args.node.now)))
          (sym is) c.passes.ensures.right;
    }

pub holds-returns-in-Not : goal.holds-returns-in-Not
holds-returns-in-Not g t c =
    let inside = ap (λ f. negated (asked f)) c.deref-in-Not.ensures in
    let is = inside ∙ sym (ap asked c.in-Not.is ∙ asks_not c.in-Not.inner) in
    record {
      ok = λ h. c.fails.ensures.ok (subst IsFrugal (sym is) h);
      right = subst (λ (a : Asked). IfOk c.fails.result (λ b. IsTrue b ↔ Means a (g.F.Node.HasTree.tree c.args.node.now)))
          is c.fails.ensures.right;
    }

pub holds-returns-in-Member : goal.holds-returns-in-Member
holds-returns-in-Member g t c =
    let named = ap (λ n. at_key n (asked c.deref-in-Member-2.result.now)) c.deref-in-Member.ensures in
    let inside = ap (λ f. at_key (string_bytes c.in-Member.name) (asked f)) c.deref-in-Member-2.ensures in
    let is = named ∙ inside ∙ sym (ap asked c.in-Member.is ∙ asks_member c.in-Member.name c.in-Member.inner) in
    record {
      ok = λ h. c.member_holds.ensures.ok (subst IsFrugal (sym is) h);
      right = subst (λ (a : Asked). IfOk c.member_holds.result (λ b. IsTrue b ↔ Means a (g.F.Node.HasTree.tree c.args.node.now)))
          is c.member_holds.ensures.right;
    }

pub holds-returns-in-Others : goal.holds-returns-in-Others
holds-returns-in-Others g t c =
    let named = ap (λ ns. at_others (map string_bytes ns) (asked c.deref-in-Others-2.result.now)) c.deref-in-Others.ensures.value in
    let inside = ap (λ f. at_others (map string_bytes c.in-Others.names.items) (asked f)) c.deref-in-Others-2.ensures in
    let is = named ∙ inside ∙ sym (ap asked c.in-Others.is ∙ asks_others c.in-Others.names c.in-Others.inner) in
    record {
      ok = λ h. c.others_hold.ensures.ok (subst IsFrugal (sym is) h);
      right = subst (λ (a : Asked). IfOk c.others_hold.result (λ b. IsTrue b ↔ Means a (g.F.Node.HasTree.tree c.args.node.now)))
          is c.others_hold.ensures.right;
    }

pub elements_hold-loop-element-preserved : goal.elements_hold-loop-element-preserved
elements_hold-loop-element-preserved g t c =
    let d = g.F.Node.HasTree.tree c.args.node.now in
    let k = length c.loop-element.yielded in
    let r = left_item {j = c.next.new.self} (elements_of d) k c.loop-element.invariant.left c.in-Some-element.ensures.steps in
    record {
      can = c.in-Some-element.ensures.goes.keeps;
      ends = (c.in-Some-element.ensures.goes.on c.loop-element.invariant.ends).1;
      left = simp length-append r.1;
      decides = simp length-append (goes_on (Means (asked c.args.formula.now)) (elements_of d) k _
          c.loop-element.invariant.decides _ r.0.back (c.in-Ok-true.ensures.right.0 c.in-Ok-true.field-0-test));
    }

pub elements_hold-returns-in-Ok-false : goal.elements_hold-returns-in-Ok-false
elements_hold-returns-in-Ok-false g t c =
    let d = g.F.Node.HasTree.tree c.args.node.now in
    let k = length c.loop-element.yielded in
    let r = left_item {j = c.next.new.self} (elements_of d) k c.loop-element.invariant.left c.in-Some-element.ensures.steps in
    record {
      ok = λ _. refl;
      right = (
        λ h. absurd cc,
        λ q. absurd (stops (Means (asked c.args.formula.now)) (elements_of d) k _ c.loop-element.invariant.decides _ r.0.back
            (λ p. let e : true ≡ false = sym (c.in-Ok-false.ensures.right.1 p) ∙ c.in-Ok-false.field-0-test in cc) q),
      );
    }

pub elements_hold-returns : goal.elements_hold-returns
elements_hold-returns g t c =
    let d = g.F.Node.HasTree.tree c.args.node.now in
    let k = length c.loop-element.yielded in
    let all = ends (Means (asked c.args.formula.now)) (elements_of d) k _ c.loop-element.invariant.decides (left_end {u =
    c.next.new.self} (elements_of d) k c.loop-element.invariant.left c.in-None.ensures.steps) in
    record { ok = λ _. refl; right = (λ _. all, λ _. refl) }

pub others_hold-loop-member-preserved : goal.others_hold-loop-member-preserved
others_hold-loop-member-preserved g t c =
    let d = g.F.Node.HasTree.tree c.args.node.now in
    let k = length c.loop-member.yielded in
    let r = left_item {j = c.next.new.self} (pairs_of d) k c.loop-member.invariant.left c.in-Some-member.ensures.steps in
    record {
      can = c.in-Some-member.ensures.goes.keeps;
      ends = (c.in-Some-member.ensures.goes.on c.loop-member.invariant.ends).1;
      left = simp length-append r.1;
      decides = simp length-append (goes_on (λ p. IsOneOf (map string_bytes c.args.names.now) p.0 ⊎ Means (asked
          c.args.formula.now) p.1) (pairs_of d) k _ c.loop-member.invariant.decides _ r.0.back (c.in-Ok-true.ensures.right.0
          c.in-Ok-true.field-0-test));
    }

pub others_hold-returns-in-Ok-false : goal.others_hold-returns-in-Ok-false
others_hold-returns-in-Ok-false g t c =
    let d = g.F.Node.HasTree.tree c.args.node.now in
    let k = length c.loop-member.yielded in
    let r = left_item {j = c.next.new.self} (pairs_of d) k c.loop-member.invariant.left c.in-Some-member.ensures.steps in
    record {
      ok = λ _. refl;
      right = (
        λ h. absurd cc,
        λ q. absurd (stops (λ p. IsOneOf (map string_bytes c.args.names.now) p.0 ⊎ Means (asked c.args.formula.now) p.1)
            (pairs_of d) k _ c.loop-member.invariant.decides _ r.0.back (λ p. let e : true ≡ false = sym
            (c.in-Ok-false.ensures.right.1 p) ∙ c.in-Ok-false.field-0-test in cc) q),
      );
    }

pub others_hold-returns : goal.others_hold-returns
others_hold-returns g t c =
    let d = g.F.Node.HasTree.tree c.args.node.now in
    let k = length c.loop-member.yielded in
    let all = ends (λ p. IsOneOf (map string_bytes c.args.names.now) p.0 ⊎ Means (asked c.args.formula.now) p.1)
    (pairs_of d) k _ c.loop-member.invariant.decides (left_end {u = c.next.new.self} (pairs_of d) k
    c.loop-member.invariant.left c.in-None.ensures.steps) in
    record { ok = λ _. refl; right = (λ _. all, λ _. refl) }
