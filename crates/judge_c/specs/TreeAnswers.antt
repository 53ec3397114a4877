-- What C gets for an answer to a nested schema and a document. This project's own.
use Rattle.std.specs.Prelude.{ℕ, ◌≡◌, ◌⊎◌, List, Ok, Err}
use Rattle.flat_keywords.specs.declared.errors.Fault.TheVariants.{Malformed, NotText, NumberTooWide}
use Rattle.judge_tree.specs.Right.{Answer, Right}
use Rattle.judge_tree.specs.declared.tree_error.TreeError.TheVariants.{Schema, SchemaTooDeep, NotASchema, UnknownKeyword, BadKeyword, BadPattern, PatternNotLiteral, Document, OutOfMemory}
use Rattle.judge_c.specs.Codes.{bad_keyword, bad_pattern, document_code, out_of_memory, pattern_not_literal, unknown_keyword, verdict_code}
use Rattle.judge_c.specs.declared.tree_answer.JudgeTreeAnswer.{JudgeTreeAnswer}

-- each answer's own number
abbrev pub code_of : Answer → ℕ
code_of (Ok valid) = verdict_code valid
code_of (Err (Schema Malformed)) = 17
code_of (Err (Schema NotText)) = 18
code_of (Err (Schema NumberTooWide)) = 19
code_of (Err SchemaTooDeep) = 20
code_of (Err (NotASchema schema)) = 21
code_of (Err (UnknownKeyword schema member)) = unknown_keyword
code_of (Err (BadKeyword schema member)) = bad_keyword
code_of (Err (BadPattern schema member)) = bad_pattern
code_of (Err (PatternNotLiteral schema member)) = pattern_not_literal
code_of (Err (Document fault)) = document_code fault
code_of (Err OutOfMemory) = out_of_memory

-- the number of the schema at fault, from 0; where the answer names none, 0
abbrev pub schema_of : Answer → ℕ
schema_of (Err (NotASchema schema)) = schema
schema_of (Err (UnknownKeyword schema member)) = schema
schema_of (Err (BadKeyword schema member)) = schema
schema_of (Err (BadPattern schema member)) = schema
schema_of (Err (PatternNotLiteral schema member)) = schema
schema_of _ = 0

-- the place of its faulty member in key order, from 0; where the answer names none, 0
abbrev pub member_of : Answer → ℕ
member_of (Err (UnknownKeyword schema member)) = member
member_of (Err (BadKeyword schema member)) = member
member_of (Err (BadPattern schema member)) = member
member_of (Err (PatternNotLiteral schema member)) = member
member_of _ = 0

-- what stands in the struct is the answer
pub record IsGiven (given : JudgeTreeAnswer) (answer : Answer) : Type 0 where
  pub code : given.code ≡ code_of answer
  pub schema : given.schema ≡ schema_of answer
  pub member : given.member ≡ member_of answer

-- it is the one right answer to the two slices
abbrev pub IsRightAnswer : List ℕ → List ℕ → JudgeTreeAnswer → Type 0
IsRightAnswer schema document given = (answer : Answer) × Right schema document answer × IsGiven given answer

-- the code of a document: want of memory, or that of the one right answer
abbrev pub IsCodeOf : List ℕ → List ℕ → ℕ → Type 0
IsCodeOf schema document code =
    (code ≡ out_of_memory) ⊎ ((answer : Answer) × Right schema document answer × (code ≡ code_of answer))
