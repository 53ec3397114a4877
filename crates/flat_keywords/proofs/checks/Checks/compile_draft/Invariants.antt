use Rattle.std.proofs.Common.{◌≡◌, length, drop}
use Rattle.json_model.specs.Parts.{pairs_of}
use Rattle.json_traits.specs.Gives.{Gives}
use Rattle.flat_keywords.specs.Names.{reading_of}
use Rattle.flat_keywords.proofs.Compiling.{Walked}
use Rattle.flat_keywords.proofs.checks.Checks.compile_draft.Given as goal

abbrev pub invariant-loop-name : goal.invariant-loop-name
invariant-loop-name g l =
    let t = g.N.HasTree.tree l.root in
    let k = length l.yielded in
    record {
      can : (goal.iterator-loop-name g).can_next l.name-iterator;
      ends : (goal.iterator-loop-name g).is_finite l.name-iterator;
      left : Gives (goal.iterator-loop-name g).next_gives (λ p. (p.0.now, g.N.HasTree.tree p.1)) l.name-iterator (drop k (pairs_of t));
      place : l.member ≡ k;
      counted : l.count ≡ length (pairs_of t);
      reads : l.reading ≡ reading_of l.fn.draft t;
      walked : Walked l.fn.draft t l.checks k;
    }
