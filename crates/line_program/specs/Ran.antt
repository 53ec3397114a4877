-- What a run took from its source and wrote to its sink. This project's own.
use Rattle.std.specs.Prelude.{◌≡◌, ◌⊎◌, ℕ, ◌^◌, ◌<◌, ◌≤◌, List, [], ◌∷◌, ◌++◌, length}
use Rattle.std.specs.declared.option.Option.{Option}
use Rattle.std.specs.Io.KnownBytes.{Appends, Consumes, IsAtEnd}
use Rattle.line_program.specs.Answers.{Answers}
use Rattle.line_program.specs.Lines.{AreLines, AreShort, IsOneLine, lines_of, text_of}
use Rattle.line_program.specs.declared.status.Status.{Status}
use Rattle.line_program.specs.declared.status.Status.TheVariants.{Done, BadWords, ReadFault, WriteFault, LineTooLong, InputTooLong, OutOfMemory}

-- the text is the answers to all the lines, none of which is too long
pub record AnswersAll (IsAnswer : List ℕ → List ℕ → Type 0) (taken text : List ℕ) : Type 0 where
  pub short : AreShort (lines_of taken)
  pub answers : Answers IsAnswer (lines_of taken) text

-- the text is the answers to the lines that ended, and no line is too long, that with no end included
pub record AnswersEnded (IsAnswer : List ℕ → List ℕ → Type 0) (taken text : List ℕ) : Type 0 where
  pub ended : List (List ℕ)
  pub open_line : List ℕ
  pub parts : taken ≡ text_of ended open_line
  pub lines : AreLines ended
  pub one : IsOneLine open_line
  pub short : AreShort (lines_of taken)
  pub answers : Answers IsAnswer ended text

-- the answer to the line, with the end of a line, was begun and not written whole
pub record IsCutOff (IsAnswer : List ℕ → List ℕ → Type 0) (line begun : List ℕ) : Type 0 where
  pub answer : List ℕ
  pub missing : List ℕ
  pub right : IsAnswer line answer
  pub parts : answer ++ 10 ∷ [] ≡ begun ++ missing
  pub some : 0 < length missing

-- why a run stopped at a line, of whose answer this much was written: the line is too long; a write of its answer
-- failed; or there was no memory for it, for its answer or in the sink
abbrev pub StopsAt : (List ℕ → List ℕ → Type 0) → Status → List ℕ → List ℕ → Type 0
StopsAt IsAnswer LineTooLong line begun = (2 ^ 24 < length line) × (begun ≡ [])
StopsAt IsAnswer WriteFault line begun = (length line ≤ 2 ^ 24) × IsCutOff IsAnswer line begun
StopsAt IsAnswer OutOfMemory line begun = (length line ≤ 2 ^ 24) × ((begun ≡ []) ⊎ IsCutOff IsAnswer line begun)
StopsAt IsAnswer Done line begun = ⊥
StopsAt IsAnswer BadWords line begun = ⊥
StopsAt IsAnswer ReadFault line begun = ⊥
StopsAt IsAnswer InputTooLong line begun = ⊥

-- the text is the answers to the lines before the one at which the run stopped, and then what was written of that one's
pub record AnswersBefore (IsAnswer : List ℕ → List ℕ → Type 0) (status : Status) (taken text : List ℕ) : Type 0 where
  pub front : List (List ℕ)
  pub line : List ℕ
  pub others : List (List ℕ)
  pub parts : lines_of taken ≡ front ++ line ∷ others
  pub short : AreShort front
  pub answered : List ℕ
  pub begun : List ℕ
  pub text_parts : text ≡ answered ++ begun
  pub answers : Answers IsAnswer front answered
  pub stops : StopsAt IsAnswer status line begun

-- how the text that was written answers the bytes that were taken, by the run's status
abbrev pub Agrees : (List ℕ → List ℕ → Type 0) → Status → List ℕ → List ℕ → Type 0
Agrees IsAnswer Done taken text = AnswersAll IsAnswer taken text
Agrees IsAnswer ReadFault taken text = AnswersEnded IsAnswer taken text
Agrees IsAnswer InputTooLong taken text = (2 ^ 48 ≤ length taken) × AnswersEnded IsAnswer taken text
Agrees IsAnswer WriteFault taken text = AnswersBefore IsAnswer WriteFault taken text
Agrees IsAnswer LineTooLong taken text = AnswersBefore IsAnswer LineTooLong taken text
Agrees IsAnswer OutOfMemory taken text = AnswersBefore IsAnswer OutOfMemory taken text
Agrees IsAnswer BadWords taken text = ⊥

-- what the run took from its source, what it wrote to its sink, and how the two agree with its status; the four lists
-- are the bytes left and the bytes written, before and after, where source and sink tell them
pub record Ran (IsAnswer : List ℕ → List ℕ → Type 0)
    (left_before left_now written_before written_now : Option (List ℕ)) (status : Status) : Type 0 where
  pub taken : List ℕ
  pub text : List ℕ
  pub takes : Consumes left_before left_now taken
  pub writes : Appends written_before written_now text
  pub at_end : status ≡ Done → IsAtEnd left_now
  pub agrees : Agrees IsAnswer status taken text
