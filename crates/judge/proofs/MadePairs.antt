-- The pairs of `make`.
use Rattle.std.proofs.Common.{◌≡◌, ◌⊎◌, inl, inr, Bool, Option, Some, None, ℕ, List, [], ◌∷◌, ◌++◌, pos, sym, subst, ◌∙◌, append_assoc}
use Rattle.std.specs.Prelude.{◌↔◌, IsTrue, Result, Ok, Err, codes}
use Rattle.json_exact.specs.Serde.{number_tree, whole}
use Rattle.json_exact.specs.Trees.{tree}
use Rattle.json_exact.specs.declared.value.Value.{the_lemmas}
use Rattle.json_exact.specs.declared.value.Value as V
use Rattle.json_model.specs.Decimal.{Decimal as Written}
use Rattle.json_model.specs.Tree.{Tree, number, scalar}
use Rattle.jsonb.specs.Root.{IsRead}
use Rattle.jsonb.specs.declared.error.JsonbError.{JsonbError}
use Rattle.jsonb_layout.proofs.Containers.{one_tree}
use Rattle.jsonb_layout.specs.Stands.{Stands}
use Rattle.serde_json.specs.Data as serde
use Rattle.json_semantics.proofs.ConformanceLaws.{tree_number}
use Rattle.flat_keywords.specs.Right.{Answer, Right, RightBy, RightFrom, RightOf, RightWith, document_error, keyword_error, keywords_error}
use Rattle.flat_keywords.specs.Verdict.{Verdict}
use Rattle.flat_keywords.specs.declared.draft.Draft.TheVariants as drafts
use Rattle.flat_keywords.specs.declared.errors.JudgeError.{JudgeError}
use Rattle.flat_keywords.specs.declared.errors.JudgeError.TheVariants.{OutOfMemory}
use Rattle.flat_keywords.specs.declared.errors.KeywordError.{KeywordError}

-- ---- values and texts

one_some : (t u : Tree) → ◌≡◌ {A = Option Tree} (Some t) (Some u) → t ≡ u
one_some t u e = cc

-- the value of a natural number has its tree
pub natural_tree : (n : ℕ) (w : Written) → number_tree (serde.unsigned n) ≡ Some (scalar (number w)) → tree (V.Number w) ≡ whole (pos n)
natural_tree n w e = tree_number w ∙ sym (one_some _ _ e)

-- the parts of a summary, joined from the last
pub joined : (a b c : List ℕ) → codes "pairs " ++ (a ++ (codes " valid " ++ (b ++ (codes " invalid " ++ (c ++ codes "\n")))))
    ≡ codes "pairs " ++ a ++ codes " valid " ++ b ++ codes " invalid " ++ c ++ 10 ∷ []
joined a b c = simp append_assoc

-- ---- the verdict on a pair

one_truth : (a b : Bool) → ◌≡◌ {A = Answer} (Ok a) (Ok b) → a ≡ b
one_truth a b e = cc

no_truth : (a : Bool) (e : JudgeError) → ◌≡◌ {A = Answer} (Ok a) (Err e) → ⊥
no_truth a e h = absurd cc

-- where the bytes of two trees get a verdict, it is that of the trees
module _ (keywords_bytes document_bytes : List ℕ) (k d : Tree) (stands : Stands keywords_bytes k) (stands_too : Stands document_bytes d)
    (valid : Bool) where
  by_document : (s : Result Tree JsonbError) → IsRead document_bytes s → RightOf drafts.Draft2020 k s (Ok valid) → IsTrue valid ↔ Verdict k d
  by_document (Err e) reads right = absurd (no_truth valid (document_error e) right)
  by_document (Ok u) reads right =
      let same : u ≡ d = one_tree document_bytes u d reads.0 stands_too in
      let truth : valid ≡ right.0 = one_truth valid right.0 right.1 in
      subst (λ (b : Bool). IsTrue b ↔ Verdict k d) (sym truth) (subst (λ (t : Tree). IsTrue right.0 ↔ Verdict k t) same right.2)

  by_fault : (fault : Option KeywordError) → RightWith drafts.Draft2020 k fault document_bytes (Ok valid) → IsTrue valid ↔ Verdict k d
  by_fault (Some e) right = absurd (no_truth valid (keyword_error e) right)
  by_fault None right = by_document right.0 right.1 right.2

  by_keywords : (s : Result Tree JsonbError) → IsRead keywords_bytes s → RightFrom drafts.Draft2020 s document_bytes (Ok valid)
      → IsTrue valid ↔ Verdict k d
  by_keywords (Err e) reads right = absurd (no_truth valid (keywords_error e) right)
  by_keywords (Ok t) reads right =
      let same : t ≡ k = one_tree keywords_bytes t k reads.0 stands in
      by_fault right.0 (subst (λ (u : Tree). RightWith drafts.Draft2020 u right.0 document_bytes (Ok valid)) same right.2)

  -- what `judge` says of them
  pub judged : (r : Answer) → r ≡ Ok valid → (r ≡ Err OutOfMemory) ⊎ Right keywords_bytes document_bytes r → IsTrue valid ↔ Verdict k d
  unfolding RightBy
  judged r is (inl memory) = absurd (no_truth valid OutOfMemory (sym is ∙ memory))
  judged r is (inr right) =
      let here = subst (λ (a : Answer). Right keywords_bytes document_bytes a) is right in
      by_keywords here.0 here.1 here.2
