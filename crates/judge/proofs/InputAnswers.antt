-- Each input has one text of answers of each command, and what a run wrote begins it.
use Rattle.std.proofs.Common.{◌≡◌, ℕ, List, ◌++◌}
use Rattle.judge.specs.Answers.{LineAnswerBy}
use Rattle.judge.specs.Codes.{CodeAnswer}
use Rattle.flat_keywords.specs.declared.draft.Draft.{Draft}
use Rattle.judge.proofs.CodeAnswers.{one_code, some_code}
use Rattle.judge.proofs.LineAnswers.{one_line_answer, some_line_answer}
use Rattle.line_program.proofs.InputAnswers.{agrees_begins, one_text, some_text}
use Rattle.line_program.specs.Answers.{Answers}
use Rattle.line_program.specs.Lines.{lines_of}
use Rattle.line_program.specs.Ran.{Agrees}
use Rattle.line_program.specs.declared.status.Status.{Status}

pub some_answers : (draft : Draft) (input : List ℕ) → (text : List ℕ) × Answers (LineAnswerBy draft) (lines_of input) text
some_answers draft input = some_text (LineAnswerBy draft) (some_line_answer draft) (lines_of input)

pub one_answers : (draft : Draft) (input s t : List ℕ) → Answers (LineAnswerBy draft) (lines_of input) s
    → Answers (LineAnswerBy draft) (lines_of input) t → s ≡ t
one_answers draft input = one_text (LineAnswerBy draft) (one_line_answer draft) (lines_of input)

pub written_begins : (draft : Draft) (status : Status) (taken text whole : List ℕ) → Agrees (LineAnswerBy draft) status taken text
    → Answers (LineAnswerBy draft) (lines_of taken) whole → (rest : List ℕ) × (whole ≡ text ++ rest)
written_begins draft = agrees_begins (LineAnswerBy draft) (one_line_answer draft)

pub some_codes : (input : List ℕ) → (text : List ℕ) × Answers CodeAnswer (lines_of input) text
some_codes input = some_text CodeAnswer some_code (lines_of input)

pub one_codes : (input s t : List ℕ) → Answers CodeAnswer (lines_of input) s → Answers CodeAnswer (lines_of input) t → s ≡ t
one_codes input = one_text CodeAnswer one_code (lines_of input)

pub codes_begin : (status : Status) (taken text whole : List ℕ) → Agrees CodeAnswer status taken text
    → Answers CodeAnswer (lines_of taken) whole → (rest : List ℕ) × (whole ≡ text ++ rest)
codes_begin = agrees_begins CodeAnswer one_code
