use Rattle.std.proofs.Common.{arith}
use Rattle.flat_keywords.proofs.SomeAnswer.{some_answer}
use Rattle.flat_keywords.proofs.laws.some_answer.Goals as goal

pub returns : goal.returns
returns c =
    λ draft. some_answer draft c.args.keywords.now c.args.document.now (λ i. omega (arith, c.type_inv.keywords i)) (λ i. omega
    (arith, c.type_inv.document i))
