-- What compiling gives: checks that a document passes exactly where it is valid, or the fault of a member. This project's
-- own. What it is to pass checks is said by the clauses that cite these words, and nowhere else.
use Rattle.std.specs.Prelude.{List, ℕ, ◌≡◌, ◌↔◌, Some, Ok}
use Rattle.json_model.specs.Tree.{Tree}
use Rattle.jsonb.specs.Root.{IsRead}
use Rattle.flat_keywords.specs.Validity.{AsksUnique, HasFaultBy, IsBadBy, IsBadPatternBy, IsCopiedBy, IsFair, IsNotLiteralBy, IsTooDeepBy, IsUnknownBy, IsValidBy, NeverAsksUniqueBy}
use Rattle.flat_keywords.specs.Verdict.{HoldsAt, VerdictBy}
use Rattle.flat_keywords.specs.inner.Passes.{NeedsNoMemory, Passes}
use Rattle.flat_keywords.specs.declared.checks.Checks.{Checks}
use Rattle.flat_keywords.specs.declared.draft.Draft.{Draft}
use Rattle.flat_keywords.specs.declared.draft.Draft.TheVariants as drafts
use Rattle.flat_keywords.specs.declared.draft.Reading.{Reading}
use Rattle.flat_keywords.specs.declared.draft.Reading.TheVariants as reading
use Rattle.flat_keywords.specs.declared.errors.KeywordError.{KeywordError}
use Rattle.flat_keywords.specs.declared.errors.KeywordError.TheVariants.{NotAnObject, UnknownKeyword, BadKeyword, BadPattern, PatternNotLiteral, TooDeep, OutOfMemory}

-- member number m is p and has the fault e
abbrev pub IsFaultBy : Reading → ℕ → List ℕ × Tree → KeywordError → Type 0
IsFaultBy r m p NotAnObject = ⊥
IsFaultBy r m p (UnknownKeyword n) = (n ≡ m) × IsUnknownBy r p
IsFaultBy r m p (BadKeyword n) = (n ≡ m) × IsBadBy r p
IsFaultBy r m p (BadPattern n) = (n ≡ m) × IsBadPatternBy r p
IsFaultBy r m p (PatternNotLiteral n) = (n ≡ m) × IsNotLiteralBy r p
IsFaultBy r m p (TooDeep n) = (n ≡ m) × IsTooDeepBy r p
IsFaultBy r m p OutOfMemory = IsCopiedBy r p

-- by a draft the keyword object t has no fault, and a document passes the checks c exactly where it is valid; where t does not ask for
-- unique elements, the checks need no memory
pub record IsCompiledBy (draft : Draft) (t : Tree) (c : Checks) : Type 0 where
  pub valid : IsValidBy draft t
  pub passes : (d : Tree) → Passes c d ↔ VerdictBy draft t d
  pub memory : NeverAsksUniqueBy draft t → NeedsNoMemory c

abbrev pub HasThisFaultBy : Draft → Tree → KeywordError → Type 0
HasThisFaultBy draft t e = HasFaultBy draft t (Some e)

-- the slice stands for a keyword object that by a draft has no fault, and the checks c are compiled of it
pub record IsCompiledOf (draft : Draft) (keywords : List ℕ) (c : Checks) : Type 0 where
  pub object : Tree
  pub read : IsRead keywords (Ok object)
  pub compiled : IsCompiledBy draft object c

-- ---- by 2020-12

abbrev pub IsFault : ℕ → List ℕ × Tree → KeywordError → Type 0
IsFault = IsFaultBy reading.Draft2020

abbrev pub IsCompiled : Tree → Checks → Type 0
IsCompiled = IsCompiledBy drafts.Draft2020

-- the member p has no fault, and a document passes the checks c exactly where it meets p; where p does not ask for unique elements,
-- the checks need no memory
pub record IsCompiledMember (p : List ℕ × Tree) (c : Checks) : Type 0 where
  pub fair : IsFair p
  pub passes : (d : Tree) → Passes c d ↔ HoldsAt d p
  pub memory : (AsksUnique p → ⊥) → NeedsNoMemory c

abbrev pub HasThisFault : Tree → KeywordError → Type 0
HasThisFault = HasThisFaultBy drafts.Draft2020
