-- What answers a line. This project's own.
use Rattle.std.specs.Prelude.{◌≡◌, ◌⊎◌, ℕ, Bool, true, false, List, ◌∷◌, ◌++◌, codes, Option, Some, None, Result, Ok, Err}
use Rattle.jsonb.specs.HexText.{IsHexText}
use Rattle.flat_keywords.specs.Right.{RightBy}
use Rattle.flat_keywords.specs.declared.draft.Draft.{Draft}
use Rattle.flat_keywords.specs.declared.draft.Draft.TheVariants as drafts
use Rattle.flat_keywords.specs.declared.errors.Fault.{Fault}
use Rattle.flat_keywords.specs.declared.errors.Fault.TheVariants.{Malformed, NotText, NumberTooWide}
use Rattle.flat_keywords.specs.declared.errors.JudgeError.{JudgeError}
use Rattle.flat_keywords.specs.declared.errors.JudgeError.TheVariants.{Keywords, NotAnObject, UnknownKeyword, BadKeyword, BadPattern, PatternNotLiteral, TooDeep, Document, OutOfMemory}

-- the line is two hex texts with one space between
pub record IsPair (line keywords document : List ℕ) : Type 0 where
  pub first : List ℕ
  pub second : List ℕ
  pub whole : line ≡ first ++ 32 ∷ second
  pub keywords_text : IsHexText first keywords
  pub document_text : IsHexText second document

abbrev pub fault_name : Fault → List ℕ
fault_name Malformed = codes "Malformed"
fault_name NotText = codes "NotText"
fault_name NumberTooWide = codes "NumberTooWide"

-- the printed name of an answer; want of memory is never printed and has none
abbrev pub name_of : Result Bool JudgeError → Option (List ℕ)
name_of (Ok true) = Some (codes "valid")
name_of (Ok false) = Some (codes "invalid")
name_of (Err (Keywords fault)) = Some (codes "Keywords(" ++ fault_name fault ++ codes ")")
name_of (Err NotAnObject) = Some (codes "NotAnObject")
name_of (Err (UnknownKeyword member)) = Some (codes "UnknownKeyword")
name_of (Err (BadKeyword member)) = Some (codes "BadKeyword")
name_of (Err (BadPattern member)) = Some (codes "BadPattern")
name_of (Err (PatternNotLiteral member)) = Some (codes "PatternNotLiteral")
name_of (Err (TooDeep member)) = Some (codes "TooDeep")
name_of (Err (Document fault)) = Some (codes "Document(" ++ fault_name fault ++ codes ")")
name_of (Err OutOfMemory) = None

-- the line is a pair, and its answer is the printed name of what is right of the two byte slices by a draft
pub record IsJudged (draft : Draft) (line answer : List ℕ) : Type 0 where
  pub keywords : List ℕ
  pub document : List ℕ
  pub verdict : Result Bool JudgeError
  pub pair : IsPair line keywords document
  pub right : RightBy draft keywords document verdict
  pub named : name_of verdict ≡ Some answer

-- the line is no pair, and its answer says so
pub record IsBadLine (line answer : List ℕ) : Type 0 where
  pub no_pair : (keywords document : List ℕ) → IsPair line keywords document → ⊥
  pub named : answer ≡ codes "bad line"

-- the answer to a line of the commands `check` and `check4`, by their draft
abbrev pub LineAnswerBy : Draft → List ℕ → List ℕ → Type 0
LineAnswerBy draft line answer = IsJudged draft line answer ⊎ IsBadLine line answer

-- the answer to a line of the command `check`
abbrev pub LineAnswer : List ℕ → List ℕ → Type 0
LineAnswer = LineAnswerBy drafts.Draft2020
