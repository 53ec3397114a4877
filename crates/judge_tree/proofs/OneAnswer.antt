-- Each pair of slices has at most one right answer, and each tree at most one fault as a schema.
use Rattle.std.proofs.Common.{◌≡◌, ℕ, List, Bool, Option, Some, None, refl, sym, ap, subst, ◌∙◌, inl, inr}
use Rattle.std.specs.Prelude.{Result, Ok, Err}
use Rattle.json_model.specs.Tree.{Tree}
use Rattle.jsonb.proofs.OneRead.{one_read}
use Rattle.jsonb.specs.declared.error.JsonbError.{JsonbError}
use Rattle.flat_keywords.proofs.OneAnswer.{one_truth}
use Rattle.judge_tree.specs.Compiled.{HasFault}
use Rattle.judge_tree.specs.Right.{Answer, Right, RightFrom, RightOf, RightWith}
use Rattle.judge_tree.specs.Verdict.{IsValidUnder}
use Rattle.judge_tree.specs.Walks.{went, stopped}
use Rattle.judge_tree.specs.declared.errors.SchemaError.{SchemaError}
use Rattle.judge_tree.proofs.OneOutcome.{walks_once}

-- a tree has at most one fault as a schema
pub one_fault : (t : Tree) (e f : Option SchemaError) → HasFault t e → HasFault t f → e ≡ f
one_fault t None None h k = refl
one_fault t None (Some f) h (inl k) = absurd (k.1 h.shallow)
one_fault t None (Some f) h (inr k) = let e : went h.walk.0 ≡ stopped f = walks_once t 0 (went h.walk.0) (stopped f) h.walk.1 k.1 in absurd cc
one_fault t (Some e) None (inl h) k = absurd (h.1 k.shallow)
one_fault t (Some e) None (inr h) k = let e : stopped e ≡ went k.walk.0 = walks_once t 0 (stopped e) (went k.walk.0) h.1 k.walk.1 in absurd cc
one_fault t (Some e) (Some f) (inl h) (inl k) = ap Some (h.0 ∙ sym k.0)
one_fault t (Some e) (Some f) (inl h) (inr k) = absurd (h.1 k.0)
one_fault t (Some e) (Some f) (inr h) (inl k) = absurd (k.1 h.0)
one_fault t (Some e) (Some f) (inr h) (inr k) = let same : stopped e ≡ stopped f = walks_once t 0 (stopped e) (stopped f) h.1 k.1 in cc

right_of : (s : Tree) (d : Result Tree JsonbError) (r q : Answer) → RightOf s d r → RightOf s d q → r ≡ q
right_of s (Err e) r q h k = h ∙ sym k
right_of s (Ok u) r q h k = h.1 ∙ ap (λ (b : Bool). let a : Answer = Ok b in a) (one_truth h.0 k.0 (IsValidUnder s u) h.2 k.2) ∙ sym k.1

right_with : (s : Tree) (e : Option SchemaError) (d : List ℕ) (r q : Answer) → RightWith s e d r → RightWith s e d q → r ≡ q
right_with s (Some e) d r q h k = h ∙ sym k
right_with s None d r q h k = right_of s h.0 r q h.2 (subst (λ (x : Result Tree JsonbError). RightOf s x q) (one_read d k.0 h.0 k.1 h.1) k.2)

right_from : (s : Result Tree JsonbError) (d : List ℕ) (r q : Answer) → RightFrom s d r → RightFrom s d q → r ≡ q
right_from (Err e) d r q h k = h ∙ sym k
right_from (Ok t) d r q h k =
    right_with t h.0 d r q h.2 (subst (λ (e : Option SchemaError). RightWith t e d q) (one_fault t k.0 h.0 k.1 h.1) k.2)

pub one_answer : (s d : List ℕ) (r q : Answer) → Right s d r → Right s d q → r ≡ q
unfolding Right
one_answer s d r q h k = right_from h.0 d r q h.2 (subst (λ (x : Result Tree JsonbError). RightFrom x d q) (one_read s k.0 h.0 k.1 h.1) k.2)
