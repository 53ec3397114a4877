use Rattle.std.proofs.Common.{codes, Err, inl, inr, refl}
use Rattle.line_program.proofs.Printed.{printed_answer}
use Rattle.judge_tree.specs.Right.{Right}
use Rattle.judge_tree.specs.declared.tree_error.TreeError.TheVariants.{OutOfMemory}
use Rattle.judge_tree_main.specs.Answers.{LineAnswer, name_of}
use Rattle.judge_tree_main.proofs.answer.CheckCommandCommand.answer.Goals as goal

pub returns-then-not-branch-clause-answers : goal.returns-then-not-branch-clause-answers
returns-then-not-branch-clause-answers c = record {
  answer = codes "bad line";
  right = inr (record { no_pair = λ k d pair. (let is = c.in_ok-read_pair_into.ensures.all k d pair in cc); named = refl });
  is = refl;
}

pub returns-clause-answers : goal.returns-clause-answers
returns-clause-answers c =
    let pair = c.in_ok-read_pair_into.ensures.pair c.if-not-branch.false in
    let right = rw (c.deref.ensures.value, c.deref-2.ensures.value) at c.judge_tree.ensures in
    printed_answer name_of (Err OutOfMemory) (Right _ _) LineAnswer c.args.line.now refl
    (λ v name said named. inl (record { schema = _; document = _; verdict = v; pair = pair; right = said; named = named }))
    c.judge_tree.result c.printed.result c.ok_or.result right c.printed.ensures c.ok_or.ensures.ok_part
