-- Words of the code's inner steps, which take the input a piece and a line at a time. No public contract cites them.
-- This project's own.
use Rattle.std.specs.Prelude.{◌≡◌, ◌⊎◌, ℕ, ◌^◌, ◌<◌, ◌≤◌, List, ◌++◌, length, Result, OnOk, IfErr, IsErrOf}
use Rattle.std.specs.declared.option.Option.{Option}
use Rattle.std.specs.Io.KnownBytes.{Appends}
use Rattle.line_program.specs.Answers.{Answers, AnswersOne}
use Rattle.line_program.specs.Faults.{Rose}
use Rattle.line_program.specs.Lines.{AreLines, AreShort, IsOneLine, lines_of, text_of}
use Rattle.line_program.specs.Ran.{AnswersBefore, StopsAt}
use Rattle.line_program.specs.declared.status.Status.{Status}
use Rattle.line_program.specs.declared.status.Status.TheVariants.{WriteFault, LineTooLong, OutOfMemory}

-- a line with no end yet
pub record IsOpenLine (line : List ℕ) : Type 0 where
  pub one : IsOneLine line
  pub short : length line ≤ 2 ^ 24

-- the count of faults does not fall, and a write fault comes only where it rose
pub record WriteCause {T : Type 0} (before now : ℕ) (result : Result T Status) : Type 0 where
  pub later : before ≤ now
  pub failed : IsErrOf result WriteFault → Rose before now

-- a part came after an open line: the line holds it at Ok, and else is too long or finds no memory
pub record Extends {T : Type 0} (before now part : List ℕ) (result : Result T Status) : Type 0 where
  pub added : OnOk result (now ≡ before ++ part)
  pub short : OnOk result (length now ≤ 2 ^ 24)
  pub long : IsErrOf result LineTooLong → 2 ^ 24 < length (before ++ part)
  pub memory : IsErrOf result OutOfMemory → (0 < length part) × (length (before ++ part) ≤ 2 ^ 24)
  pub kind : IfErr result (λ status. (status ≡ LineTooLong) ⊎ (status ≡ OutOfMemory))

-- ---- a line

-- the line was answered
pub record Answered (IsAnswer : List ℕ → List ℕ → Type 0) (line : List ℕ) (before now : Option (List ℕ)) : Type 0 where
  pub is_open : IsOpenLine line
  pub text : List ℕ
  pub writes : Appends before now text
  pub answers : AnswersOne IsAnswer line text

-- the run stopped at this line
pub record StoppedAt (IsAnswer : List ℕ → List ℕ → Type 0) (line : List ℕ)
    (before now : Option (List ℕ)) (status : Status) : Type 0 where
  pub begun : List ℕ
  pub writes : Appends before now begun
  pub stops : StopsAt IsAnswer status line begun

-- ---- a piece

-- a piece came after an open line: lines ended, and their answers were written
pub record Feeds (IsAnswer : List ℕ → List ℕ → Type 0) (open_before piece open_now : List ℕ)
    (before now : Option (List ℕ)) : Type 0 where
  pub ended : List (List ℕ)
  pub text : List ℕ
  pub parts : open_before ++ piece ≡ text_of ended open_now
  pub lines : AreLines ended
  pub short : AreShort ended
  pub answers : Answers IsAnswer ended text
  pub writes : Appends before now text

-- the line that has no end was answered, if it is not empty
pub record AnswersRest (IsAnswer : List ℕ → List ℕ → Type 0) (line : List ℕ) (before now : Option (List ℕ)) : Type 0 where
  pub text : List ℕ
  pub writes : Appends before now text
  pub answers : Answers IsAnswer (lines_of line) text

-- the run stopped at a line of these bytes
pub record StoppedIn (IsAnswer : List ℕ → List ℕ → Type 0) (bytes : List ℕ)
    (before now : Option (List ℕ)) (status : Status) : Type 0 where
  pub text : List ℕ
  pub writes : Appends before now text
  pub answers : AnswersBefore IsAnswer status bytes text
