use Rattle.std.proofs.Common.{subst, List, ℕ}
use Rattle.json_exact.specs.Parsed.{IsNoLiteral}
use Rattle.json_exact.proofs.LiteralLaws.{none_read}
use Rattle.json_exact.proofs.ParseLaws.{kept_literal, answer}
use Rattle.json_exact.proofs.parse.read.Goals as goal

pub returns-in-Some-clause-read : goal.returns-in-Some-clause-read
returns-in-Some-clause-read c =
    let k = kept_literal c.args.text.now c.as_bytes.result.now c.in-Some.literal c.as_bytes.ensures.value c.in-Some.ensures.read in
    answer c.value.result c.args.text.now _ k.literal (c.value.ensures.value k.n k.size k.holds k.size_is)

pub returns-in-None-clause-read : goal.returns-in-None-clause-read
returns-in-None-clause-read c =
    subst (λ (t : List ℕ). IsNoLiteral t) c.as_bytes.ensures.value (none_read c.as_bytes.result.now c.in-None.ensures.read)
