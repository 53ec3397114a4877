use Rattle.std.proofs.Common.{codes, inr, refl}
use Rattle.judge.proofs.Pairs.{no_hex_parts, no_parts, printed_answers, verdict_pair}
use Rattle.judge.proofs.answer.CheckCommandCommand.answer.Goals as goal

pub returns-in_default-clause-answers : goal.returns-in_default-clause-answers
returns-in_default-clause-answers c = record {
  answer = codes "bad line";
  right = inr (record { no_pair = λ k d pair. no_parts _ k d c.in_default.ensures pair; named = refl });
  is = refl;
}

pub returns-in_default-2-clause-answers : goal.returns-in_default-2-clause-answers
returns-in_default-2-clause-answers c =
    let cut = c.in-Some.ensures in
    let none = rw c.in_default-2.is at c.in_ok-verdict.ensures.verdict in
    let no_pair = no_hex_parts c.args.line.now _ _ cut.0 cut.1 none in
    record { answer = codes "bad line"; right = inr (record { no_pair = no_pair; named = refl }); is = refl }

pub returns-clause-answers : goal.returns-clause-answers
returns-clause-answers c =
    let verdict = rw c.in-Some-2.is at c.in_ok-verdict.ensures.verdict in
    let pair = verdict_pair c.args.self.now.draft c.args.line.now _ _ _ c.in-Some.ensures.0 verdict in
    printed_answers c.args.self.now.draft _ _ _ c.in-Some-2.verdict c.printed.result c.ok_or.result pair verdict.verdict_on.right
    c.printed.ensures c.ok_or.ensures.ok_part
