-- What the code says with which the program ends. This project's own.
use Rattle.std.specs.Prelude.{◌≡◌, ◌↔◌, ℕ, List}
use Rattle.std.specs.declared.option.Option.{Option}
use Rattle.judge.specs.Answers.{LineAnswer, LineAnswerBy}
use Rattle.judge.specs.Codes.{CodeAnswer}
use Rattle.judge.specs.Made.{Made}
use Rattle.line_program.specs.Ran.{Ran}
use Rattle.line_program.specs.Status.{code_of}
use Rattle.judge.specs.Words.{AreGood, IsCheck, IsCheck4, IsEncode, IsMake}
use Rattle.flat_keywords.specs.declared.draft.Draft.TheVariants as drafts
use Rattle.line_program.specs.declared.status.Status.{Status}
use Rattle.line_program.specs.declared.status.Status.TheVariants.{BadWords, ReadFault, WriteFault}

-- the code is that of a status, which agrees with the words, with what was read and written, and with which stream failed;
-- the four lists are those of `Ran`, and the four facts say that the source was not touched, that neither stream was, and which
-- stream's count of faults rose
pub record Ends (words : List (List ℕ)) (left_before left_now written_before written_now : Option (List ℕ))
    (Unread Untouched ReadRose WriteRose : Type 0) (code : ℕ) : Type 0 where
  pub status : Status
  pub of_status : code ≡ code_of status
  pub bad_words : (status ≡ BadWords) ↔ (¬ AreGood words)
  pub check : IsCheck words → Ran LineAnswer left_before left_now written_before written_now status
  pub check4 : IsCheck4 words → Ran (LineAnswerBy drafts.Draft4) left_before left_now written_before written_now status
  pub encode : IsEncode words → Ran CodeAnswer left_before left_now written_before written_now status
  pub make : (count : ℕ) → IsMake words count → Unread × Made count written_before written_now status
  pub untouched : status ≡ BadWords → Untouched
  pub read_fault : status ≡ ReadFault → ReadRose
  pub write_fault : status ≡ WriteFault → WriteRose
