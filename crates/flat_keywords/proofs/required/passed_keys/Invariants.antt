use Rattle.std.proofs.Common.{◌≤◌, length, take, drop}
use Rattle.json_model.specs.Parts.{pairs_of}
use Rattle.json_traits.specs.Gives.{Gives}
use Rattle.flat_keywords.specs.inner.Passes.{HasKeys}
use Rattle.flat_keywords.proofs.required.passed_keys.Given as goal

abbrev pub invariant-loop-key : goal.invariant-loop-key
invariant-loop-key g l =
    let ps = pairs_of (g.N.Object.HasTree.tree l.object) in
    let k = length l.yielded in
    record {
      can : (goal.iterator-loop-key g).can_next l.key-iterator;
      ends : (goal.iterator-loop-key g).is_finite l.key-iterator;
      left : Gives (goal.iterator-loop-key g).next_gives (λ p. (p.0.now, g.N.HasTree.tree p.1)) l.key-iterator (drop k ps);
      within : l.passed ≤ length l.names;
      keys : HasKeys (take l.passed l.names) ps;
    }
