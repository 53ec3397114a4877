-- The one right answer to two slices: that of the first cause that stands, or the verdict. The order is this project's own: the
-- schema's bytes, that the schema nests too deep, the first fault of the schema, the document's bytes.
use Rattle.std.specs.Prelude.{ℕ, ◌≡◌, ◌↔◌, IsTrue, Bool, List, Option, Some, None, Result, Ok, Err}
use Rattle.json_model.specs.Tree.{Tree}
use Rattle.jsonb.specs.Root.{IsRead}
use Rattle.jsonb.specs.declared.error.JsonbError.{JsonbError}
use Rattle.jsonb.specs.declared.error.JsonbError.TheVariants as read
use Rattle.flat_keywords.specs.declared.errors.Fault.TheVariants as faults
use Rattle.judge_tree.specs.Compiled.{HasFault}
use Rattle.judge_tree.specs.Verdict.{IsValidUnder}
use Rattle.judge_tree.specs.declared.errors.SchemaError.{SchemaError}
use Rattle.judge_tree.specs.declared.errors.SchemaError.TheVariants as refused
use Rattle.judge_tree.specs.declared.tree_error.TreeError.{TreeError}
use Rattle.judge_tree.specs.declared.tree_error.TreeError.TheVariants.{Schema, SchemaTooDeep, NotASchema, UnknownKeyword, BadKeyword, BadPattern, PatternNotLiteral, Document, OutOfMemory}

-- ---- which answer is which of a reader, or of the schema

abbrev pub slice_error : JsonbError → TreeError
slice_error read.Malformed = Schema faults.Malformed
slice_error read.NotText = Schema faults.NotText
slice_error read.NumberTooWide = Schema faults.NumberTooWide
slice_error read.OutOfMemory = OutOfMemory

abbrev pub document_error : JsonbError → TreeError
document_error read.Malformed = Document faults.Malformed
document_error read.NotText = Document faults.NotText
document_error read.NumberTooWide = Document faults.NumberTooWide
document_error read.OutOfMemory = OutOfMemory

abbrev pub schema_error : SchemaError → TreeError
schema_error refused.SchemaTooDeep = SchemaTooDeep
schema_error (refused.NotASchema n) = NotASchema n
schema_error (refused.UnknownKeyword n m) = UnknownKeyword n m
schema_error (refused.BadKeyword n m) = BadKeyword n m
schema_error (refused.BadPattern n m) = BadPattern n m
schema_error (refused.PatternNotLiteral n m) = PatternNotLiteral n m
schema_error refused.OutOfMemory = OutOfMemory

-- ---- the answer

abbrev pub Answer : Type 0
Answer = Result Bool TreeError

-- by what is read of the document
abbrev pub RightOf : Tree → Result Tree JsonbError → Answer → Type 0
RightOf s (Err e) r = r ≡ Err (document_error e)
RightOf s (Ok d) r = (b : Bool) × (r ≡ Ok b) × (IsTrue b ↔ IsValidUnder s d)

-- by the fault of the schema, and then by the document
abbrev pub RightWith : Tree → Option SchemaError → List ℕ → Answer → Type 0
RightWith s (Some e) document r = r ≡ Err (schema_error e)
RightWith s None document r = (d : Result Tree JsonbError) × IsRead document d × RightOf s d r

-- by what is read of the schema, and then by the rest
abbrev pub RightFrom : Result Tree JsonbError → List ℕ → Answer → Type 0
RightFrom (Err e) document r = r ≡ Err (slice_error e)
RightFrom (Ok s) document r = (f : Option SchemaError) × HasFault s f × RightWith s f document r

-- r is the right answer to the two slices
unfoldable pub Right : List ℕ → List ℕ → Answer → Type 0
Right schema document r = (s : Result Tree JsonbError) × IsRead schema s × RightFrom s document r

-- the error is the right answer to the schema, whatever the document
abbrev pub IsRefusedFor : List ℕ → TreeError → Type 0
IsRefusedFor schema e = (document : List ℕ) → Right schema document (Err e)
