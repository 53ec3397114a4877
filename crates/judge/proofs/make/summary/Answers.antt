use Rattle.std.proofs.Common.{◌≡◌, ◌-◌, ◌++◌, string_bytes, ◌∙◌}
use Rattle.std.specs.Prelude.{codes, decimal}
use Rattle.std.proofs.lemmas.Result.{IfOk-weaker}
use Rattle.judge.proofs.MadePairs.{joined}
use Rattle.judge.specs.Made.{summary_text}
use Rattle.judge.proofs.make.summary.Goals as goal

pub returns : goal.returns
returns c =
    let count = c.args.count in
    let valid = c.args.valid in
    IfOk-weaker c.format.result
    (λ s. string_bytes s ≡ codes "pairs " ++
    (decimal count ++ (codes " valid " ++ (decimal valid ++ (codes " invalid " ++ (decimal (count - valid) ++ codes "\n"))))))
    (λ s. string_bytes s ≡ summary_text count valid) (λ s wrote. wrote ∙ joined (decimal count) (decimal valid) (decimal (count - valid)))
    c.format.ensures.ok
