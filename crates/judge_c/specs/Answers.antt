-- What C gets for an answer to keywords and a document. This project's own.
use Rattle.std.specs.Prelude.{ℕ, ◌≡◌, ◌⊎◌, List, Ok, Err}
use Rattle.flat_keywords.specs.Right.{Answer, Right}
use Rattle.flat_keywords.specs.declared.errors.Fault.TheVariants.{Malformed, NotText, NumberTooWide}
use Rattle.flat_keywords.specs.declared.errors.JudgeError.TheVariants.{Keywords, NotAnObject, UnknownKeyword, BadKeyword, BadPattern, PatternNotLiteral, TooDeep, Document, OutOfMemory}
use Rattle.judge_c.specs.Codes.{bad_keyword, bad_pattern, document_code, out_of_memory, pattern_not_literal, unknown_keyword, verdict_code}
use Rattle.judge_c.specs.declared.answer.JudgeAnswer.{JudgeAnswer}

-- each answer's own number
abbrev pub code_of : Answer → ℕ
code_of (Ok valid) = verdict_code valid
code_of (Err (Keywords Malformed)) = 2
code_of (Err (Keywords NotText)) = 3
code_of (Err (Keywords NumberTooWide)) = 4
code_of (Err NotAnObject) = 5
code_of (Err (UnknownKeyword member)) = unknown_keyword
code_of (Err (BadKeyword member)) = bad_keyword
code_of (Err (BadPattern member)) = bad_pattern
code_of (Err (PatternNotLiteral member)) = pattern_not_literal
code_of (Err (TooDeep member)) = 10
code_of (Err (Document fault)) = document_code fault
code_of (Err OutOfMemory) = out_of_memory

-- the place of the faulty member in key order, from 0; where the answer names none, 0
abbrev pub member_of : Answer → ℕ
member_of (Err (UnknownKeyword member)) = member
member_of (Err (BadKeyword member)) = member
member_of (Err (BadPattern member)) = member
member_of (Err (PatternNotLiteral member)) = member
member_of (Err (TooDeep member)) = member
member_of _ = 0

-- what stands in the struct is the answer
pub record IsGiven (given : JudgeAnswer) (answer : Answer) : Type 0 where
  pub code : given.code ≡ code_of answer
  pub member : given.member ≡ member_of answer

-- it is the one right answer to the two slices
abbrev pub IsRightAnswer : List ℕ → List ℕ → JudgeAnswer → Type 0
IsRightAnswer keywords document given = (answer : Answer) × Right keywords document answer × IsGiven given answer

-- the code of a document: want of memory, or that of the one right answer
abbrev pub IsCodeOf : List ℕ → List ℕ → ℕ → Type 0
IsCodeOf keywords document code =
    (code ≡ out_of_memory) ⊎ ((answer : Answer) × Right keywords document answer × (code ≡ code_of answer))
