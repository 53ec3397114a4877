-- What compiling says of the schema, and what a compiled schema says of a document, are right answers.
use Rattle.std.proofs.Common.{◌≡◌, ℕ, List, Some, None, refl, sym, ap, ◌∙◌, ◌⊎◌, ◌<◌, inl, inr, length}
use Rattle.std.specs.Prelude.{Result, Ok, Err}
use Rattle.json_model.specs.Tree.{Tree}
use Rattle.jsonb.specs.Root.{IsRead}
use Rattle.jsonb.specs.declared.error.JsonbError.{JsonbError}
use Rattle.flat_keywords.specs.declared.errors.Fault.{Fault}
use Rattle.flat_keywords.specs.declared.errors.Fault.TheVariants.{Malformed, NotText, NumberTooWide}
use Rattle.judge_tree.specs.Compiled.{IsCompiled, IsRefused, Passes}
use Rattle.judge_tree.specs.Right.{Answer, Right, slice_error, document_error, schema_error}
use Rattle.judge_tree.specs.declared.errors.SchemaError.{SchemaError}
use Rattle.judge_tree.specs.declared.schema.Schema.{Schema}
use Rattle.judge_tree.specs.declared.tree_error.TreeError.{TreeError}
use Rattle.judge_tree.specs.declared.tree_error.TreeError.TheVariants as tree
use Rattle.judge_c.specs.TreeAnswers.{IsCodeOf}
use Rattle.judge_c.specs.Many.{IsCodedAt}
use Rattle.judge_c.specs.inner.Read.{CodeOfRead, IsChecked, error_of}
use Rattle.judge_c.proofs.Coded.{all_coded_by}

-- want of memory, or the right answer to the schema and every document
abbrev pub IsRefusal : List ℕ → TreeError → Type 0
IsRefusal s x = (x ≡ tree.OutOfMemory) ⊎ ((d : List ℕ) → Right s d (Err x))

abbrev err : TreeError → Answer
err x = Err x

of_slice : (f : Fault) → tree.Schema f ≡ slice_error (error_of f)
of_slice Malformed = refl
of_slice NotText = refl
of_slice NumberTooWide = refl

of_document : (f : Fault) → tree.Document f ≡ document_error (error_of f)
of_document Malformed = refl
of_document NotText = refl
of_document NumberTooWide = refl

module _ (s : List ℕ) where
  -- bytes that are refused
  pub slice_refused : (f : Fault) → IsRead s (Err (error_of f)) → IsRefusal s (tree.Schema f)
  unfolding Right
  slice_refused f h = inr (λ d. (Err (error_of f), h, ap err (of_slice f)))

  module _ (t : Tree) (reads : IsRead s (Ok t)) where
    -- a schema that is refused
    pub schema_refused : (e : SchemaError) (x : TreeError) → x ≡ schema_error e → IsRefused t e → IsRefusal s x
    unfolding Right
    schema_refused e x is (inl h) = inl (is ∙ ap schema_error h)
    schema_refused e x is (inr fault) = inr (λ d. (Ok t, reads, (Some e, fault, ap err is)))

    module _ (c : Schema) (compiled : IsCompiled t c) where
      code_of_read : (d : List ℕ) (r : Result Tree JsonbError) (n : ℕ) → IsRead d r → CodeOfRead (Passes c) r n → IsCodeOf s d n
      unfolding Right
      code_of_read d (Err e) n h said =
          inr (
            Err (tree.Document said.0),
            (Ok t, reads, (None, compiled.valid, (Err e, h, ap err (of_document said.0 ∙ ap document_error (sym said.1))))),
            said.2,
          )
      code_of_read d (Ok u) n h said =
          inr (
            Ok said.0,
            (
              Ok t,
              reads,
              (
                None,
                compiled.valid,
                (
                  Ok u,
                  h,
                  (
                    said.0,
                    refl,
                    (λ x. (compiled.passes u).0 (said.2.0 x), λ x. said.2.1 ((compiled.passes u).1 x)),
                  ),
                ),
              ),
            ),
            said.1,
          )

      code_of_checked : (d : List ℕ) (n : ℕ) → IsChecked (Passes c) d n → IsCodeOf s d n
      code_of_checked d n (inl h) = inl h
      code_of_checked d n (inr h) = code_of_read d h.0 n h.1 h.2

      -- the codes of documents under the compiled schema are those of the right answers
      pub codes_of_checked : (ds os cs : List ℕ) → ((i : ℕ) → i < length cs → IsCodedAt (IsChecked (Passes c)) ds os cs i)
          → (i : ℕ) → i < length cs → IsCodedAt (IsCodeOf s) ds os cs i
      codes_of_checked = all_coded_by (IsChecked (Passes c)) (IsCodeOf s) code_of_checked
