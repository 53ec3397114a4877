use Rattle.std.proofs.Common.{length, drop}
use Rattle.json_model.specs.Parts.{elements_of}
use Rattle.json_traits.specs.Gives.{Gives}
use Rattle.flat_keywords.proofs.TypeLists.{Named}
use Rattle.flat_keywords.proofs.read.read_type_list.Given as goal

abbrev pub invariant-loop-element : goal.invariant-loop-element
invariant-loop-element g l =
    let ts = elements_of (g.N.HasTree.tree l.value) in
    let k = length l.yielded in
    record {
      can : (goal.iterator-loop-element g).can_next l.element-iterator;
      ends : (goal.iterator-loop-element g).is_finite l.element-iterator;
      left : Gives (goal.iterator-loop-element g).next_gives g.N.HasTree.tree l.element-iterator (drop k ts);
      named : Named ts l.set k;
    }
