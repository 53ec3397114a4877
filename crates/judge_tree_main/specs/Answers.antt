-- What answers a line. This project's own.
use Rattle.std.specs.Prelude.{◌≡◌, ◌⊎◌, ℕ, true, false, List, ◌++◌, codes, Option, Some, None, Ok, Err}
use Rattle.judge.specs.Answers.{IsBadLine, IsPair, fault_name}
use Rattle.judge_tree.specs.Right.{Answer, Right}
use Rattle.judge_tree.specs.declared.tree_error.TreeError.TheVariants.{Schema, SchemaTooDeep, NotASchema, UnknownKeyword, BadKeyword, BadPattern, PatternNotLiteral, Document, OutOfMemory}

-- the printed name of an answer; want of memory is never printed and has none
abbrev pub name_of : Answer → Option (List ℕ)
name_of (Ok true) = Some (codes "valid")
name_of (Ok false) = Some (codes "invalid")
name_of (Err (Schema fault)) = Some (codes "Schema(" ++ fault_name fault ++ codes ")")
name_of (Err SchemaTooDeep) = Some (codes "SchemaTooDeep")
name_of (Err (NotASchema schema)) = Some (codes "NotASchema")
name_of (Err (UnknownKeyword schema member)) = Some (codes "UnknownKeyword")
name_of (Err (BadKeyword schema member)) = Some (codes "BadKeyword")
name_of (Err (BadPattern schema member)) = Some (codes "BadPattern")
name_of (Err (PatternNotLiteral schema member)) = Some (codes "PatternNotLiteral")
name_of (Err (Document fault)) = Some (codes "Document(" ++ fault_name fault ++ codes ")")
name_of (Err OutOfMemory) = None

-- the line is a pair, and its answer is the printed name of what is right of the two byte slices
pub record IsJudged (line answer : List ℕ) : Type 0 where
  pub schema : List ℕ
  pub document : List ℕ
  pub verdict : Answer
  pub pair : IsPair line schema document
  pub right : Right schema document verdict
  pub named : name_of verdict ≡ Some answer

-- the answer to a line
abbrev pub LineAnswer : List ℕ → List ℕ → Type 0
LineAnswer line answer = IsJudged line answer ⊎ IsBadLine line answer
