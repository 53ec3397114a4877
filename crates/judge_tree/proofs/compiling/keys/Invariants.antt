use Rattle.std.proofs.Common.{◌≡◌, map, string_bytes, take, drop, length}
use Rattle.json_model.specs.Parts.{pairs_of}
use Rattle.json_traits.specs.Gives.{Gives}
use Rattle.judge_tree.proofs.compiling.keys.Given as goal

abbrev pub invariant-loop-member : goal.invariant-loop-member
invariant-loop-member g l =
    let ps = pairs_of (g.F.Object.HasTree.tree l.object) in
    let k = length l.yielded in
    record {
      can : (goal.iterator-loop-member g).can_next l.member-iterator;
      ends : (goal.iterator-loop-member g).is_finite l.member-iterator;
      left : Gives (goal.iterator-loop-member g).next_gives g.F.NodeFamily.pair l.member-iterator (drop k ps);
      copied : map string_bytes l.names.items ≡ map (λ p. p.0) (take k ps);
    }
