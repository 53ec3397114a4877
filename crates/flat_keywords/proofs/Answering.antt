-- Each answer of `judge` is the right one: keywords are compiled or refused, and then the document is judged.
use Rattle.std.proofs.Common.{◌≡◌, ◌≤◌, ℕ, List, Bool, Some, None, refl, sym, ap, subst, ◌∙◌, ◌⊎◌, inl, inr}
use Rattle.std.specs.Prelude.{Result, Ok, Err, ◌↔◌, IsTrue, MatchResult}
use Rattle.json_model.specs.Json.{IsJson}
use Rattle.json_model.specs.Parts.{as_array}
use Rattle.json_model.specs.Nest.{nest}
use Rattle.json_model.specs.Tree.{Tree}
use Rattle.jsonb_layout.proofs.Containers.{one_tree}
use Rattle.jsonb_layout.specs.Stands.{Stands}
use Rattle.jsonb.specs.Root.{IsRead}
use Rattle.jsonb.specs.declared.error.JsonbError.{JsonbError}
use Rattle.jsonb.specs.declared.error.JsonbError.TheVariants as read
use Rattle.flat_keywords.specs.Compiled.{HasThisFaultBy, IsCompiledOf}
use Rattle.flat_keywords.specs.inner.Passes.{NeedsNoMemory, Passes}
use Rattle.flat_keywords.specs.Right.{Answer, IsRefusedFor, RightBy, keywords_error, document_error, keyword_error}
use Rattle.flat_keywords.specs.Validity.{ChecksFreelyBy, IsLeanBy, IsValidBy, NeverAsksUniqueBy}
use Rattle.flat_keywords.specs.declared.checks.Checks.{Checks}
use Rattle.flat_keywords.specs.declared.draft.Draft.{Draft}
use Rattle.flat_keywords.specs.declared.errors.JudgeError.{JudgeError}
use Rattle.flat_keywords.specs.declared.errors.JudgeError.TheVariants as judged
use Rattle.flat_keywords.specs.declared.errors.KeywordError.{KeywordError}
use Rattle.flat_keywords.specs.declared.errors.KeywordError.TheVariants as keyword

-- want of memory, or right
abbrev pub Answers : Draft → List ℕ → List ℕ → Answer → Type 0
Answers draft k d r = (r ≡ Err judged.OutOfMemory) ⊎ RightBy draft k d r

-- want of memory, or the checks of the keywords, or what they are refused for
abbrev pub Compiles : Draft → List ℕ → Result Checks JudgeError → Type 0
Compiles draft k r = (r ≡ Err judged.OutOfMemory) ⊎ MatchResult r (IsCompiledOf draft k) (IsRefusedFor draft k)

-- what a reader says: want of memory, or what is read
abbrev pub Said : {X : Type 0} → List ℕ → Result X JsonbError → Result Tree JsonbError → Type 0
Said b r s = (r ≡ Err read.OutOfMemory) ⊎ IsRead b s

-- Two errors are equal where their results are.
pub err_is : {A E : Type 0} (x y : E) → ◌≡◌ {A = Result A E} (Err x) (Err y) → x ≡ y
err_is x y e = cc

abbrev pub err : JudgeError → Answer
err x = Err x

abbrev no_checks : JudgeError → Result Checks JudgeError
no_checks x = Err x

-- what a reader read
read_of : {X : Type 0} (b : List ℕ) (node : X) (t : Tree) → Said {X = X} b (Ok node) (Ok t) → IsRead b (Ok t)
read_of b node t (inl h) = absurd cc
read_of b node t (inr h) = h

memory_alone : (e : KeywordError) → keyword_error e ≡ judged.OutOfMemory → e ≡ keyword.OutOfMemory
memory_alone keyword.NotAnObject h = absurd cc
memory_alone (keyword.UnknownKeyword m) h = absurd cc
memory_alone (keyword.BadKeyword m) h = absurd cc
memory_alone (keyword.BadPattern m) h = absurd cc
memory_alone (keyword.PatternNotLiteral m) h = absurd cc
memory_alone (keyword.TooDeep m) h = absurd cc
memory_alone keyword.OutOfMemory h = refl

-- ---- the keywords

module _ {X : Type 0} (draft : Draft) (k : List ℕ) where
  pub keywords_refused : (e : JsonbError) (x : JudgeError) → x ≡ keywords_error e → Said {X = X} k (Err e) (Err e) → Compiles draft k (Err x)
  unfolding RightBy
  keywords_refused e x is (inl h) = inl (ap no_checks (is ∙ ap keywords_error (err_is e read.OutOfMemory h)))
  keywords_refused e x is (inr h) = inr (λ d. (Err e, h, ap err is))

  module _ (node : X) (t : Tree) (said : Said {X = X} k (Ok node) (Ok t)) where
    pub keyword_refused : (e : KeywordError) (x : JudgeError) → x ≡ keyword_error e
        → (◌≡◌ {A = Result Checks KeywordError} (Err e) (Err keyword.OutOfMemory)) ⊎ HasThisFaultBy draft t e → Compiles draft k (Err x)
    unfolding RightBy
    keyword_refused e x is (inl h) = inl (ap no_checks (is ∙ ap keyword_error (err_is e keyword.OutOfMemory h)))
    keyword_refused e x is (inr fault) = inr (λ d. (Ok t, read_of k node t said, (Some e, fault, ap err is)))

    -- where the keywords nest at most one level, without `const` and `pattern`, they are not refused for want of memory
    pub keyword_refused_with_memory : (e : KeywordError) (x : JudgeError) → x ≡ keyword_error e
        → (nest t ≤ 1 → IsLeanBy draft t → ◌≡◌ {A = Result Checks KeywordError} (Err e) (Err keyword.OutOfMemory) → ⊥)
        → (u : Tree) → Stands k u → nest u ≤ 1 → IsLeanBy draft u
        → ◌≡◌ {A = Result Checks JudgeError} (Err x) (Err judged.OutOfMemory) → ⊥
    keyword_refused_with_memory e x is free u stands le lean h =
        let same : t ≡ u = one_tree k t u (read_of k node t said).0 stands in
        let only : e ≡ keyword.OutOfMemory = memory_alone e (sym is ∙ err_is x judged.OutOfMemory h) in
        free (subst (λ (v : Tree). nest v ≤ 1) (sym same) le) (subst (IsLeanBy draft) (sym same) lean)
        (ap (λ (y : KeywordError). let r : Result Checks KeywordError = Err y in r) only)

-- ---- the document, by checks that were compiled of the keywords

module _ {X : Type 0} (draft : Draft) (k d : List ℕ) (c : Checks) (of : IsCompiledOf draft k c) where
  pub document_refused : (e : JsonbError) (x : JudgeError) → x ≡ document_error e → Said {X = X} d (Err e) (Err e) → Answers draft k d (Err x)
  unfolding RightBy
  document_refused e x is (inl h) = inl (ap err (is ∙ ap document_error (err_is e read.OutOfMemory h)))
  document_refused e x is (inr h) = inr (Ok of.object, of.read, (None, of.compiled.valid, (Err e, h, ap err is)))

  pub verdict : (node : X) (u : Tree) (b : Bool) → Said {X = X} d (Ok node) (Ok u) → (IsTrue b ↔ Passes c u) → Answers draft k d (Ok b)
  unfolding RightBy
  verdict node u b (inl h) is = absurd cc
  verdict node u b (inr h) is =
      let same = of.compiled.passes u in
      inr (Ok of.object, of.read, (None, of.compiled.valid, (Ok u, h, (b, refl, (λ x. same.0 (is.0 x), λ x. is.1 (same.1 x))))))

-- ---- both

module _ (draft : Draft) (k : List ℕ) (c : Checks) where
  pub compiled_of : Compiles draft k (Ok c) → IsCompiledOf draft k c
  compiled_of (inl h) = absurd cc
  compiled_of (inr of) = of

  module _ (of : IsCompiledOf draft k c) where
    -- keywords that were compiled are JSON, and valid
    pub not_refused : (u : Tree) → Stands k u → (IsJson u × IsValidBy draft u → ⊥) → ⊥
    not_refused u stands never = never (subst (λ (v : Tree). IsJson v × IsValidBy draft v) (one_tree k of.object u of.read.0 stands)
        (of.read.1, of.compiled.valid))

    -- where checking takes no memory, the checks need none, or the document is no array
    pub freely : (u v : Tree) → Stands k u → ChecksFreelyBy draft u v → NeedsNoMemory c ⊎ (as_array v ≡ None)
    freely u v stands (inl never) =
        inl (of.compiled.memory (subst (λ (x : Tree). NeverAsksUniqueBy draft x) (sym (one_tree k of.object u of.read.0 stands)) never))
    freely u v stands (inr none) = inr none
