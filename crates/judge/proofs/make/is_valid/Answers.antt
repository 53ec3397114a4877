use Rattle.std.proofs.Common.{subst}
use Rattle.json_model.specs.Tree.{Tree}
use Rattle.jsonb_layout.specs.Stands.{Stands}
use Rattle.judge.specs.Made.{document}
use Rattle.judge.proofs.MadePairs.{judged}
use Rattle.judge.proofs.make.is_valid.Goals as goal

pub returns-in-Ok-judge : goal.returns-in-Ok-judge
returns-in-Ok-judge c = λ k stands.
    let right = rw c.deref.ensures.value at c.judge.ensures.right in
    let there = subst (λ (t : Tree). Stands c.in-Ok.bytes.items t) c.in_ok-value.ensures c.in-Ok.ensures.stands in
    judged c.args.keywords.now c.in-Ok.bytes.items k (document c.args.number) stands there c.in-Ok-judge.valid c.judge.result
    c.in-Ok-judge.is right
