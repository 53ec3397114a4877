-- Each answer of `judge_tree` is the right one: the schema is compiled or refused, and then the document is judged.
use Rattle.std.proofs.Common.{◌≡◌, ℕ, List, Bool, Some, None, refl, ap, ◌∙◌, ◌⊎◌, inl, inr}
use Rattle.std.specs.Prelude.{Result, Ok, Err, ◌↔◌, IsTrue, MatchResult}
use Rattle.json_model.specs.Tree.{Tree}
use Rattle.jsonb.specs.Root.{IsRead}
use Rattle.jsonb.specs.declared.error.JsonbError.{JsonbError}
use Rattle.jsonb.specs.declared.error.JsonbError.TheVariants as read
use Rattle.flat_keywords.proofs.Answering.{Said, err_is}
use Rattle.judge_tree.specs.Compiled.{IsCompiled, IsCompiledOf, IsRefused, Passes}
use Rattle.judge_tree.specs.Right.{Answer, IsRefusedFor, Right, document_error, schema_error, slice_error}
use Rattle.judge_tree.specs.declared.errors.SchemaError.{SchemaError}
use Rattle.judge_tree.specs.declared.schema.Schema.{Schema}
use Rattle.judge_tree.specs.declared.tree_error.TreeError.{TreeError}
use Rattle.judge_tree.specs.declared.tree_error.TreeError.TheVariants as judged

-- want of memory, or right
abbrev Answers : List ℕ → List ℕ → Answer → Type 0
Answers s d r = (r ≡ Err judged.OutOfMemory) ⊎ Right s d r

-- want of memory, or the compiled schema, or what it is refused for
abbrev Compiles : List ℕ → Result Schema TreeError → Type 0
Compiles s r = (r ≡ Err judged.OutOfMemory) ⊎ MatchResult r (IsCompiledOf s) (IsRefusedFor s)

abbrev err : TreeError → Answer
err x = Err x

abbrev no_schema : TreeError → Result Schema TreeError
no_schema x = Err x

-- what a reader read
read_of : {X : Type 0} (b : List ℕ) (node : X) (t : Tree) → Said {X = X} b (Ok node) (Ok t) → IsRead b (Ok t)
read_of b node t (inl h) = absurd cc
read_of b node t (inr h) = h

module _ {X : Type 0} (s : List ℕ) where
  -- the schema's bytes are refused
  pub slice_refused : (e : JsonbError) (x : TreeError) → x ≡ slice_error e → Said {X = X} s (Err e) (Err e) → Compiles s (Err x)
  unfolding Right
  slice_refused e x is (inl h) = inl (ap no_schema (is ∙ ap slice_error (err_is e read.OutOfMemory h)))
  slice_refused e x is (inr h) = inr (λ d. (Err e, h, ap err is))

  module _ (node : X) (t : Tree) (said : Said {X = X} s (Ok node) (Ok t)) where
    -- the schema is refused
    pub schema_refused : (e : SchemaError) (x : TreeError) → x ≡ schema_error e → IsRefused t e → Compiles s (Err x)
    unfolding Right
    schema_refused e x is (inl h) = inl (ap no_schema (is ∙ ap schema_error h))
    schema_refused e x is (inr fault) = inr (λ d. (Ok t, read_of s node t said, (Some e, fault, ap err is)))

    -- the schema is compiled
    pub compiled : (c : Schema) → IsCompiled t c → Compiles s (Ok c)
    compiled c h = inr (record { tree = t; read = read_of s node t said; compiled = h })

module _ {X : Type 0} (s d : List ℕ) (c : Schema) (of : IsCompiledOf s c) where
  -- the document's bytes are refused
  pub document_refused : (e : JsonbError) (x : TreeError) → x ≡ document_error e → Said {X = X} d (Err e) (Err e) → Answers s d (Err x)
  unfolding Right
  document_refused e x is (inl h) = inl (ap err (is ∙ ap document_error (err_is e read.OutOfMemory h)))
  document_refused e x is (inr h) = inr (Ok of.tree, of.read, (None, of.compiled.valid, (Err e, h, ap err is)))

  -- the document gets its verdict
  pub verdict : (node : X) (u : Tree) (b : Bool) → Said {X = X} d (Ok node) (Ok u) → (IsTrue b ↔ Passes c u) → Answers s d (Ok b)
  unfolding Right
  verdict node u b (inl h) is = absurd cc
  verdict node u b (inr h) is =
      let same = of.compiled.passes u in
      inr (Ok of.tree, of.read, (None, of.compiled.valid, (Ok u, h, (b, refl, (λ x. same.0 (is.0 x), λ x. is.1 (same.1 x))))))
