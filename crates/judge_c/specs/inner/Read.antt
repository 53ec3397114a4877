-- Slices as they are read here, and the code of a document under rules that were compiled. The code's own words.
use Rattle.std.specs.Prelude.{ℕ, ◌≡◌, ◌↔◌, ◌⊎◌, ⊤, IsTrue, Bool, List, Result, Ok, Err}
use Rattle.json_model.specs.Tree.{Tree}
use Rattle.jsonb.specs.Root.{IsRead}
use Rattle.jsonb.specs.declared.error.JsonbError.{JsonbError}
use Rattle.jsonb.specs.declared.error.JsonbError.TheVariants as read
use Rattle.flat_keywords.specs.declared.errors.Fault.{Fault}
use Rattle.flat_keywords.specs.declared.errors.Fault.TheVariants.{Malformed, NotText, NumberTooWide}
use Rattle.judge_c.specs.Codes.{document_code, out_of_memory, verdict_code}
use Rattle.judge_c.specs.declared.reading.Unread.{Unread}
use Rattle.judge_c.specs.declared.reading.Unread.TheVariants.{Faulty, OutOfMemory}

-- what the reader calls a fault
abbrev pub error_of : Fault → JsonbError
error_of Malformed = read.Malformed
error_of NotText = read.NotText
error_of NumberTooWide = read.NumberTooWide

-- memory is wanting, or the slice has the fault
abbrev pub IsUnread : List ℕ → Unread → Type 0
IsUnread b (Faulty fault) = IsRead b (Err (error_of fault))
IsUnread b OutOfMemory = ⊤

-- the code for what is read of a document, where `passes` says which trees pass
abbrev pub CodeOfRead : (Tree → Type 0) → Result Tree JsonbError → ℕ → Type 0
CodeOfRead passes (Ok d) code = (b : Bool) × (code ≡ verdict_code b) × (IsTrue b ↔ passes d)
CodeOfRead passes (Err e) code = (fault : Fault) × (e ≡ error_of fault) × (code ≡ document_code fault)

-- want of memory, or the code for what is read of the document
abbrev pub IsChecked : (Tree → Type 0) → List ℕ → ℕ → Type 0
IsChecked passes document code =
    (code ≡ out_of_memory) ⊎ ((d : Result Tree JsonbError) × IsRead document d × CodeOfRead passes d code)
