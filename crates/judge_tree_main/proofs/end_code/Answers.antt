use Rattle.std.proofs.Common.{◌∙◌}
use Rattle.judge_tree_main.proofs.end_code.Goals as goal

pub returns-in-Ok-clause-ends : goal.returns-in-Ok-clause-ends
returns-in-Ok-clause-ends g c =
    let ran = c.run_words.ensures in
    let bad_words = rw c.deref.ensures.value at ran.bad_words in
    let check = rw c.deref.ensures.value at ran.check in
    rw c.in-Ok.is (record {
      status = c.run_words.result;
      of_status = c.from.ensures ∙ c.code.ensures;
      bad_words = bad_words;
      check = check;
      untouched = ran.untouched;
      read_fault = ran.read_fault;
      write_fault = ran.write_fault;
    })
