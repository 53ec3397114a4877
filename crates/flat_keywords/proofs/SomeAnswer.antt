-- Each pair of slices has a right answer, and each pair of trees.
use Rattle.std.proofs.Common.{ℕ, Bool, List, Option, Some, None, refl}
use Rattle.std.specs.Prelude.{Result, Ok, Err}
use Rattle.json_model.specs.Tree.{Tree}
use Rattle.jsonb_layout.proofs.Tools.{IsBytes}
use Rattle.jsonb.specs.declared.error.JsonbError.{JsonbError}
use Rattle.flat_keywords.specs.Right.{Answer, RightBy, RightFrom, RightOf, RightOnTrees, RightWith, document_error, keyword_error, keywords_error}
use Rattle.flat_keywords.specs.Validity.{HasFaultBy, IsValidBy}
use Rattle.flat_keywords.specs.declared.draft.Draft.{Draft}
use Rattle.flat_keywords.specs.declared.draft.Draft.TheVariants as drafts
use Rattle.flat_keywords.specs.declared.errors.KeywordError.{KeywordError}
use Rattle.flat_keywords.proofs.SomeFault.{some_fault}
use Rattle.flat_keywords.proofs.SomeRead.{some_read}
use Rattle.flat_keywords.proofs.SomeVerdict.{some_verdict}

module _ (draft : Draft) where
  -- to what is read of the document
  answer_of : (k : Tree) → IsValidBy draft k → (s : Result Tree JsonbError) → (r : Answer) × RightOf draft k s r
  answer_of k valid (Err e) = (Err (document_error e), refl)
  answer_of k valid (Ok d) = let v = some_verdict draft k d valid in (Ok v.0, (v.0, refl, v.1))

  -- to the keywords' fault, and the document
  answer_with : (k : Tree) (f : Option KeywordError) → HasFaultBy draft k f → (document : List ℕ) → IsBytes document →
      (r : Answer) × RightWith draft k f document r
  answer_with k (Some e) h document fits = (Err (keyword_error e), refl)
  answer_with k None valid document fits =
      let s = some_read document fits in
      let r = answer_of k valid s.0 in
      (r.0, (s.0, s.1, r.1))

  -- to what is read of the keywords, and the document
  answer_from : (s : Result Tree JsonbError) (document : List ℕ) → IsBytes document → (r : Answer) × RightFrom draft s document r
  answer_from (Err e) document fits = (Err (keywords_error e), refl)
  answer_from (Ok k) document fits =
      let f = some_fault draft k in
      let r = answer_with k f.0 f.1 document fits in
      (r.0, (f.0, f.1, r.1))

  pub some_answer : (keywords document : List ℕ) → IsBytes keywords → IsBytes document → (r : Answer) × RightBy draft keywords document r
  unfolding RightBy
  some_answer keywords document k_fits d_fits =
      let s = some_read keywords k_fits in
      let r = answer_from s.0 document d_fits in
      (r.0, (s.0, s.1, r.1))

-- ---- two trees

answer_to : (k d : Tree) (f : Option KeywordError) → HasFaultBy drafts.Draft2020 k f → (r : Result Bool KeywordError) × RightOnTrees k d r
answer_to k d (Some e) h = (Err e, h)
answer_to k d None h = let v = some_verdict drafts.Draft2020 k d h in (Ok v.0, (h, v.1))

pub answer_on_trees : (k d : Tree) → (r : Result Bool KeywordError) × RightOnTrees k d r
answer_on_trees k d = let f = some_fault drafts.Draft2020 k in answer_to k d f.0 f.1
