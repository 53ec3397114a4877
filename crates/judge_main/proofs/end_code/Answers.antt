use Rattle.std.proofs.Common.{◌∙◌}
use Rattle.judge_main.proofs.end_code.Goals as goal

pub returns-in-Ok-clause-ends : goal.returns-in-Ok-clause-ends
returns-in-Ok-clause-ends g c =
    let ran = c.run.ensures in
    let bad_words = rw c.deref.ensures.value at ran.bad_words in
    let check = rw c.deref.ensures.value at ran.check in
    let check4 = rw c.deref.ensures.value at ran.check4 in
    let encode = rw c.deref.ensures.value at ran.encode in
    let make = rw c.deref.ensures.value at ran.make in
    rw c.in-Ok.is (record {
      status = c.run.result;
      of_status = c.from.ensures ∙ c.code.ensures;
      bad_words = bad_words;
      check = check;
      check4 = check4;
      encode = encode;
      make = make;
      untouched = ran.untouched;
      read_fault = ran.read_fault;
      write_fault = ran.write_fault;
    })
