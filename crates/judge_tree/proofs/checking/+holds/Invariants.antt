use Rattle.std.proofs.Common.{map, string_bytes, drop, length}
use Rattle.std.specs.Prelude.{◌↔◌, ◌⊎◌}
use Rattle.std.specs.List.{AllByRecursion}
use Rattle.json_model.specs.Parts.{elements_of, pairs_of}
use Rattle.json_traits.specs.Gives.{Gives}
use Rattle.judge_tree.specs.inner.Asked.{IsFrugal, asked, all_of, any_of, at_others, at_elements, Means}
use Rattle.judge_tree.specs.Verdict.{IsOneOf}
use Rattle.judge_tree.proofs.checking.+holds.Given as goal

abbrev pub invariant-all_hold-loop-i : goal.invariant-all_hold-loop-i
invariant-all_hold-loop-i g l =
    let d = g.F.Node.HasTree.tree l.node in
    record {
      frugal : IsFrugal (all_of (map asked l.formulas)) → IsFrugal (all_of (map asked (drop l.i l.formulas)));
      decides : Means (all_of (map asked (drop l.i l.formulas))) d ↔ Means (all_of (map asked l.formulas)) d;
    }

abbrev pub invariant-any_holds-loop-i : goal.invariant-any_holds-loop-i
invariant-any_holds-loop-i g l =
    let d = g.F.Node.HasTree.tree l.node in
    record {
      frugal : IsFrugal (any_of (map asked l.formulas)) → IsFrugal (any_of (map asked (drop l.i l.formulas)));
      decides : Means (any_of (map asked (drop l.i l.formulas))) d ↔ Means (any_of (map asked l.formulas)) d;
    }

abbrev pub invariant-elements_hold-loop-element : goal.invariant-elements_hold-loop-element
invariant-elements_hold-loop-element g l =
    let d = g.F.Node.HasTree.tree l.node in
    let k = length l.yielded in
    record {
      can : (goal.iterator-elements_hold-loop-element g).can_next l.element-iterator;
      ends : (goal.iterator-elements_hold-loop-element g).is_finite l.element-iterator;
      left : Gives (goal.iterator-elements_hold-loop-element g).next_gives g.F.Node.HasTree.tree l.element-iterator (drop k (elements_of d));
      decides :
          AllByRecursion (Means (asked l.formula)) (drop k (elements_of d)) ↔ Means (at_elements (asked l.formula)) d;
    }

abbrev pub invariant-others_hold-loop-member : goal.invariant-others_hold-loop-member
invariant-others_hold-loop-member g l =
    let d = g.F.Node.HasTree.tree l.node in
    let k = length l.yielded in
    record {
      can : (goal.iterator-others_hold-loop-member g).can_next l.member-iterator;
      ends : (goal.iterator-others_hold-loop-member g).is_finite l.member-iterator;
      left : Gives (goal.iterator-others_hold-loop-member g).next_gives g.F.NodeFamily.pair l.member-iterator (drop k (pairs_of d));
      decides :
          AllByRecursion (λ p. IsOneOf (map string_bytes l.names) p.0 ⊎ Means (asked l.formula) p.1) (drop k (pairs_of d))
          ↔ Means (at_others (map string_bytes l.names) (asked l.formula)) d;
    }
