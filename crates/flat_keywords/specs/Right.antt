-- The one right answer to two slices: that of the first cause that stands, or the verdict. The order is this project's
-- own: the keywords' bytes, the keywords' faults, the document's bytes.
use Rattle.std.specs.Prelude.{ℕ, ◌≡◌, ◌↔◌, IsTrue, Bool, List, Option, Some, None, Result, Ok, Err}
use Rattle.json_model.specs.Tree.{Tree}
use Rattle.jsonb.specs.Root.{IsRead}
use Rattle.jsonb.specs.declared.error.JsonbError.{JsonbError}
use Rattle.jsonb.specs.declared.error.JsonbError.TheVariants as read
use Rattle.flat_keywords.specs.Validity.{HasFaultBy}
use Rattle.flat_keywords.specs.Verdict.{VerdictBy}
use Rattle.flat_keywords.specs.declared.draft.Draft.{Draft}
use Rattle.flat_keywords.specs.declared.draft.Draft.TheVariants as drafts
use Rattle.flat_keywords.specs.declared.errors.Fault.TheVariants as faults
use Rattle.flat_keywords.specs.declared.errors.JudgeError.{JudgeError}
use Rattle.flat_keywords.specs.declared.errors.JudgeError.TheVariants.{Keywords, NotAnObject, UnknownKeyword, BadKeyword, BadPattern, PatternNotLiteral, TooDeep, Document, OutOfMemory}
use Rattle.flat_keywords.specs.declared.errors.KeywordError.{KeywordError}
use Rattle.flat_keywords.specs.declared.errors.KeywordError.TheVariants as keyword

-- ---- which answer is which of a reader, or of the keywords

abbrev pub keywords_error : JsonbError → JudgeError
keywords_error read.Malformed = Keywords faults.Malformed
keywords_error read.NotText = Keywords faults.NotText
keywords_error read.NumberTooWide = Keywords faults.NumberTooWide
keywords_error read.OutOfMemory = OutOfMemory

abbrev pub document_error : JsonbError → JudgeError
document_error read.Malformed = Document faults.Malformed
document_error read.NotText = Document faults.NotText
document_error read.NumberTooWide = Document faults.NumberTooWide
document_error read.OutOfMemory = OutOfMemory

abbrev pub keyword_error : KeywordError → JudgeError
keyword_error keyword.NotAnObject = NotAnObject
keyword_error (keyword.UnknownKeyword m) = UnknownKeyword m
keyword_error (keyword.BadKeyword m) = BadKeyword m
keyword_error (keyword.BadPattern m) = BadPattern m
keyword_error (keyword.PatternNotLiteral m) = PatternNotLiteral m
keyword_error (keyword.TooDeep m) = TooDeep m
keyword_error keyword.OutOfMemory = OutOfMemory

-- ---- the answer

abbrev pub Answer : Type 0
Answer = Result Bool JudgeError

-- by what is read of the document
abbrev pub RightOf : Draft → Tree → Result Tree JsonbError → Answer → Type 0
RightOf _ k (Err e) r = r ≡ Err (document_error e)
RightOf draft k (Ok d) r = (b : Bool) × (r ≡ Ok b) × (IsTrue b ↔ VerdictBy draft k d)

-- by the fault of the keywords, and then by the document
abbrev pub RightWith : Draft → Tree → Option KeywordError → List ℕ → Answer → Type 0
RightWith _ k (Some e) document r = r ≡ Err (keyword_error e)
RightWith draft k None document r = (s : Result Tree JsonbError) × IsRead document s × RightOf draft k s r

-- by what is read of the keywords, and then by the rest
abbrev pub RightFrom : Draft → Result Tree JsonbError → List ℕ → Answer → Type 0
RightFrom _ (Err e) document r = r ≡ Err (keywords_error e)
RightFrom draft (Ok k) document r = (f : Option KeywordError) × HasFaultBy draft k f × RightWith draft k f document r

-- r is the right answer to the two slices by a draft
unfoldable pub RightBy : Draft → List ℕ → List ℕ → Answer → Type 0
RightBy draft keywords document r = (s : Result Tree JsonbError) × IsRead keywords s × RightFrom draft s document r

-- and by 2020-12
abbrev pub Right : List ℕ → List ℕ → Answer → Type 0
Right = RightBy drafts.Draft2020

-- the error is the right answer to the keywords, whatever the document
abbrev pub IsRefusedFor : Draft → List ℕ → JudgeError → Type 0
IsRefusedFor draft keywords e = (document : List ℕ) → RightBy draft keywords document (Err e)

-- ---- the answer to two trees: the first fault of the keywords, or the verdict

abbrev pub RightOnTreesBy : Draft → Tree → Tree → Result Bool KeywordError → Type 0
RightOnTreesBy draft k d (Err e) = HasFaultBy draft k (Some e)
RightOnTreesBy draft k d (Ok b) = HasFaultBy draft k None × (IsTrue b ↔ VerdictBy draft k d)

abbrev pub RightOnTrees : Tree → Tree → Result Bool KeywordError → Type 0
RightOnTrees = RightOnTreesBy drafts.Draft2020
