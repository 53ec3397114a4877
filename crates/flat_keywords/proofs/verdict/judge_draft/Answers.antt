use Rattle.flat_keywords.proofs.Answering.{compiled_of, freely, not_refused}
use Rattle.flat_keywords.proofs.verdict.judge_draft.Goals as goal

pub returns-in-Ok-clause-refused : goal.returns-in-Ok-clause-refused
returns-in-Ok-clause-refused c = λ t stands le lean never _.
    let of = compiled_of c.args.draft c.args.keywords.now c.in-Ok.checks c.in-Ok.ensures.right in
    not_refused c.args.draft c.args.keywords.now c.in-Ok.checks of t stands never

pub returns-in-Ok-clause-free : goal.returns-in-Ok-clause-free
returns-in-Ok-clause-free c = λ t u stands le lean there flat free.
    let of = compiled_of c.args.draft c.args.keywords.now c.in-Ok.checks c.in-Ok.ensures.right in
    c.judge_slice.ensures.free u there flat (freely c.args.draft c.args.keywords.now c.in-Ok.checks of t u stands free)
