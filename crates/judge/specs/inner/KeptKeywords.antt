-- What is kept of the keywords of a line. This project's own.
use Rattle.std.specs.Prelude.{◌≡◌, ◌⊎◌, ℕ, Bool, List, Result, Err, IfSome, MatchResult}
use Rattle.jsonb.specs.HexText.{IsHexText}
use Rattle.flat_keywords.specs.Compiled.{IsCompiledOf}
use Rattle.flat_keywords.specs.Right.{IsRefusedFor, RightBy}
use Rattle.flat_keywords.specs.declared.checks.Checks.{Checks}
use Rattle.flat_keywords.specs.declared.draft.Draft.{Draft}
use Rattle.flat_keywords.specs.declared.errors.JudgeError.{JudgeError}
use Rattle.flat_keywords.specs.declared.errors.JudgeError.TheVariants.{OutOfMemory}
use Rattle.judge.specs.declared.kept.LastKeywords.{LastKeywords}

-- the outcome is that of compiling the keywords of a hex text by a draft: their checks, or what they are refused for
pub record IsOutcomeOf (draft : Draft) (text : List ℕ) (outcome : Result Checks JudgeError) : Type 0 where
  pub keywords : List ℕ
  pub hex : IsHexText text keywords
  pub compiled : MatchResult outcome (IsCompiledOf draft keywords) (IsRefusedFor draft keywords)

-- nothing is kept, or the outcome is that of the text
abbrev pub IsKept : Draft → LastKeywords → Type 0
IsKept draft last = IfSome last.outcome (IsOutcomeOf draft last.text.items)

-- the verdict is right of the keywords of a hex text and of a document, or there was no memory for it
pub record IsVerdictOn (draft : Draft) (text document : List ℕ) (verdict : Result Bool JudgeError) : Type 0 where
  pub keywords : List ℕ
  pub hex : IsHexText text keywords
  pub right : (verdict ≡ Err OutOfMemory) ⊎ RightBy draft keywords document verdict

-- the verdict is right of two hex texts, or there was no memory for it
pub record IsVerdictOnTexts (draft : Draft) (first second : List ℕ) (verdict : Result Bool JudgeError) : Type 0 where
  pub document : List ℕ
  pub hex : IsHexText second document
  pub verdict_on : IsVerdictOn draft first document verdict
