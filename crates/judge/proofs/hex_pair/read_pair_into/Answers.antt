use Rattle.std.proofs.lemmas.Result.{IfOk-weaker}
use Rattle.judge.proofs.Pairs.{no_parts, parts_once}
use Rattle.judge.proofs.hex_pair.read_pair_into.Goals as goal

pub returns-in_default-clause-all : goal.returns-in_default-clause-all
returns-in_default-clause-all c = λ k d pair. absurd (no_parts _ k d c.in_default.ensures pair)

pub returns-then-not-branch-clause-all : goal.returns-then-not-branch-clause-all
returns-then-not-branch-clause-all c = λ k d pair.
    let cut = c.in-Some.ensures in
    let is = c.in_ok-read_hex.ensures.all k ((parts_once c.args.line.now _ _ k d cut.0 cut.1 pair).0) in
    cc

pub returns-clause-all : goal.returns-clause-all
returns-clause-all c =
    let cut = c.in-Some.ensures in
    IfOk-weaker c.read_hex-2.result _ _ (λ is all k d pair. all d ((parts_once c.args.line.now _ _ k d cut.0 cut.1 pair).1)) c.read_hex-2.ensures.all
