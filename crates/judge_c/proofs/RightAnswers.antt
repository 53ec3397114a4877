-- What compiling says of the keywords, and what compiled keywords say of a document, are right answers.
use Rattle.std.proofs.Common.{◌≡◌, ℕ, List, Some, None, refl, sym, ap, ◌∙◌, ◌⊎◌, ◌<◌, inl, inr, length}
use Rattle.std.specs.Prelude.{Result, Ok, Err}
use Rattle.json_model.specs.Tree.{Tree}
use Rattle.jsonb.specs.Root.{IsRead}
use Rattle.jsonb.specs.declared.error.JsonbError.{JsonbError}
use Rattle.flat_keywords.proofs.Answering.{err_is, err}
use Rattle.flat_keywords.specs.Compiled.{IsCompiled, HasThisFault}
use Rattle.flat_keywords.specs.inner.Passes.{Passes}
use Rattle.flat_keywords.specs.Right.{Right, RightBy, keywords_error, document_error, keyword_error}
use Rattle.flat_keywords.specs.declared.checks.Checks.{Checks}
use Rattle.flat_keywords.specs.declared.errors.Fault.{Fault}
use Rattle.flat_keywords.specs.declared.errors.Fault.TheVariants.{Malformed, NotText, NumberTooWide}
use Rattle.flat_keywords.specs.declared.errors.JudgeError.{JudgeError}
use Rattle.flat_keywords.specs.declared.errors.JudgeError.TheVariants.{Keywords, Document, OutOfMemory}
use Rattle.flat_keywords.specs.declared.errors.KeywordError.{KeywordError}
use Rattle.flat_keywords.specs.declared.errors.KeywordError.TheVariants as keyword
use Rattle.judge_c.specs.Answers.{IsCodeOf}
use Rattle.judge_c.specs.Many.{IsCodedAt}
use Rattle.judge_c.specs.inner.Read.{CodeOfRead, IsChecked, error_of}
use Rattle.judge_c.proofs.Coded.{all_coded_by}

-- want of memory, or the right answer to the keywords and every document
abbrev pub IsRefusal : List ℕ → JudgeError → Type 0
IsRefusal k x = (x ≡ OutOfMemory) ⊎ ((d : List ℕ) → Right k d (Err x))

of_keywords : (f : Fault) → Keywords f ≡ keywords_error (error_of f)
of_keywords Malformed = refl
of_keywords NotText = refl
of_keywords NumberTooWide = refl

of_document : (f : Fault) → Document f ≡ document_error (error_of f)
of_document Malformed = refl
of_document NotText = refl
of_document NumberTooWide = refl

module _ (k : List ℕ) where
  -- bytes that are refused
  pub keywords_refused : (f : Fault) → IsRead k (Err (error_of f)) → IsRefusal k (Keywords f)
  unfolding RightBy
  keywords_refused f h = inr (λ d. (Err (error_of f), h, ap err (of_keywords f)))

  module _ (t : Tree) (reads : IsRead k (Ok t)) where
    -- a keyword object that is refused
    pub keyword_refused : (e : KeywordError) (x : JudgeError) → x ≡ keyword_error e
        → (◌≡◌ {A = Result Checks KeywordError} (Err e) (Err keyword.OutOfMemory)) ⊎ HasThisFault t e → IsRefusal k x
    unfolding RightBy
    keyword_refused e x is (inl h) = inl (is ∙ ap keyword_error (err_is e keyword.OutOfMemory h))
    keyword_refused e x is (inr fault) = inr (λ d. (Ok t, reads, (Some e, fault, ap err is)))

    module _ (c : Checks) (compiled : IsCompiled t c) where
      code_of_read : (d : List ℕ) (s : Result Tree JsonbError) (n : ℕ) → IsRead d s → CodeOfRead (Passes c) s n → IsCodeOf k d n
      unfolding RightBy
      code_of_read d (Err e) n h said =
          inr (
            Err (Document said.0),
            (Ok t, reads, (None, compiled.valid, (Err e, h, ap err (of_document said.0 ∙ ap document_error (sym said.1))))),
            said.2,
          )
      code_of_read d (Ok u) n h said =
          inr (
            Ok said.0,
            (
              Ok t,
              reads,
              (
                None,
                compiled.valid,
                (
                  Ok u,
                  h,
                  (
                    said.0,
                    refl,
                    (λ x. (compiled.passes u).0 (said.2.0 x), λ x. said.2.1 ((compiled.passes u).1 x)),
                  ),
                ),
              ),
            ),
            said.1,
          )

      code_of_checked : (d : List ℕ) (n : ℕ) → IsChecked (Passes c) d n → IsCodeOf k d n
      code_of_checked d n (inl h) = inl h
      code_of_checked d n (inr h) = code_of_read d h.0 n h.1 h.2

      -- the codes of documents under the compiled keywords are those of the right answers
      pub codes_of_checked : (ds os cs : List ℕ) → ((i : ℕ) → i < length cs → IsCodedAt (IsChecked (Passes c)) ds os cs i)
          → (i : ℕ) → i < length cs → IsCodedAt (IsCodeOf k) ds os cs i
      codes_of_checked = all_coded_by (IsChecked (Passes c)) (IsCodeOf k) code_of_checked
