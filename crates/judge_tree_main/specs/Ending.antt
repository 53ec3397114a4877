-- What the code says with which the program ends. This project's own.
use Rattle.std.specs.Prelude.{◌≡◌, ◌↔◌, ℕ, List}
use Rattle.std.specs.declared.option.Option.{Option}
use Rattle.judge.specs.Words.{IsCheck}
use Rattle.judge_tree_main.specs.Answers.{LineAnswer}
use Rattle.line_program.specs.Ran.{Ran}
use Rattle.line_program.specs.Status.{code_of}
use Rattle.line_program.specs.declared.status.Status.{Status}
use Rattle.line_program.specs.declared.status.Status.TheVariants.{BadWords, ReadFault, WriteFault}

-- the code is that of a status, which agrees with the words, with what was read and written, and with which stream failed;
-- the four lists are those of `Ran`, and the three facts say that neither stream was touched, and which stream's count of faults rose
pub record Ends (words : List (List ℕ)) (left_before left_now written_before written_now : Option (List ℕ))
    (Untouched ReadRose WriteRose : Type 0) (code : ℕ) : Type 0 where
  pub status : Status
  pub of_status : code ≡ code_of status
  pub bad_words : (status ≡ BadWords) ↔ (¬ IsCheck words)
  pub check : IsCheck words → Ran LineAnswer left_before left_now written_before written_now status
  pub untouched : status ≡ BadWords → Untouched
  pub read_fault : status ≡ ReadFault → ReadRose
  pub write_fault : status ≡ WriteFault → WriteRose
