use Rattle.std.proofs.Common.{length, drop}
use Rattle.std.specs.BTreeSet.{contains}
use Rattle.std.specs.Cmp.Lexicographic.{slice_cmp}
use Rattle.std.specs.Ordering.{nat_cmp}
use Rattle.json_model.specs.Parts.{elements_of}
use Rattle.json_traits.specs.Gives.{Gives}
use Rattle.flat_keywords.proofs.NameLists.{Collected}
use Rattle.flat_keywords.proofs.names.read_names.Given as goal

abbrev pub invariant-loop-element : goal.invariant-loop-element
invariant-loop-element g l =
    let ts = elements_of (g.N.HasTree.tree l.value) in
    let k = length l.yielded in
    record {
      can : (goal.iterator-loop-element g).can_next l.element-iterator;
      ends : (goal.iterator-loop-element g).is_finite l.element-iterator;
      left : Gives (goal.iterator-loop-element g).next_gives g.N.HasTree.tree l.element-iterator (drop k ts);
      collected : Collected ts l.names.items (contains (λ x y. slice_cmp nat_cmp x.now y.now) l.seen) k;
    }
