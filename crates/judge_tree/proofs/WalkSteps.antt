-- A walk over the schemas of a list, one step further; and what a walk over an object or an array is.
use Rattle.std.proofs.Common.{◌≡◌, ◌+◌, ◌≤◌, ◌<◌, ℕ, List, [], ◌∷◌, drop, length, subst, sym, ap, refl, inl, inr, arith, Some}
use Rattle.std.proofs.lemmas.List.{drop_all}
use Rattle.std.specs.Prelude.{Result, MatchResult}
use Rattle.json_model.proofs.KindLaws.{pairs_in_from}
use Rattle.json_model.specs.Nest.{nest, nest_elements, nest_members}
use Rattle.json_model.specs.Parts.{elements_from, elements_of, if_array, if_object, members_from, pairs_of}
use Rattle.json_model.specs.Tree.{Tree, array}
use Rattle.json_traits.proofs.ShapeLaws.{array_is_made, object_is_made, object_shape}
use Rattle.judge_tree.specs.Unique.{NeverAsks, NoMemberAsks, NoPropertyAsks, NoValueAsks}
use Rattle.judge_tree.specs.Verdict.{IsValidUnder, MeetsAtKeys, MeetsEach, MeetsProperties, property_names}
use Rattle.judge_tree.specs.Walks.{Outcome, went, stopped, Continues, Walks, WalksEach, WalksElements, WalksList, WalksProperties, WalksValues}
use Rattle.judge_tree.specs.inner.Built.{IsBuilt, Stops}
use Rattle.judge_tree.specs.declared.compiled.Compiled.{Compiled}
use Rattle.judge_tree.specs.declared.errors.SchemaError.{SchemaError}

-- a walk over what is left of a list, whose first element takes a step
module _ {X : Type 0} (Rest : List X → ℕ → Outcome → Type 0) (xs : List X) (k next : ℕ) (x : X) (back : drop k xs ≡ x ∷ drop (k + 1) xs)
    (Step : Outcome → Type 0) (More : ℕ → Outcome → Type 0)
    (made : (w o : Outcome) → Step w → Continues w (λ i. More i o) o → Rest (x ∷ drop (k + 1) xs) next o) where
  -- the step went on to number i, and so does the walk over the rest
  pub step_went : (i : ℕ) → Step (went i) → (o : Outcome) → More i o → Rest (drop k xs) next o
  step_went i s o h = subst (λ (zs : List X). Rest zs next o) (sym back) (made (went i) o s h)

  -- the step stopped, and so does the whole walk
  pub step_stopped : (e : SchemaError) (W : Outcome → Type 0) → ((o : Outcome) → Rest (drop k xs) next o → W o) → Stops Step e → Stops W e
  step_stopped e W on (inl m) = inl m
  step_stopped e W on (inr s) =
      inr (on (stopped e) (subst (λ (zs : List X). Rest zs next (stopped e)) (sym back) (made (stopped e) (stopped e) s refl)))

-- nothing is left to walk over
pub nothing_left : {X : Type 0} (Rest : List X → Type 0) (xs : List X) (k : ℕ) → length xs ≤ k → Rest [] → Rest (drop k xs)
nothing_left Rest xs k le h = subst Rest (sym (drop_all k xs le)) h

-- an object is compiled where its members are
pub object_is_built : (t u : Tree) (n : ℕ) (r : Result Compiled SchemaError) → Some t ≡ if_object u →
    let ps = pairs_of t in
    let W = WalksEach (members_from ps) n 0 (n + 1) in
    MatchResult r (IsBuilt (MeetsEach (property_names ps) (members_from ps)) (NoMemberAsks (members_from ps)) W) (Stops W)
    → MatchResult r (IsBuilt (IsValidUnder u) (NeverAsks u) (Walks u n)) (Stops (Walks u n))
object_is_built t u n r e h =
    let ps = pairs_of t in
    let W = WalksEach (members_from ps) n 0 (n + 1) in
    subst (λ (w : Tree). MatchResult r (IsBuilt (IsValidUnder w) (NeverAsks w) (Walks w n)) (Stops (Walks w n))) (sym (object_shape t u e))
    (subst (λ (qs : List (List ℕ × Tree)). MatchResult r (IsBuilt (MeetsEach (property_names qs) (members_from ps))
    (NoMemberAsks (members_from ps)) W) (Stops W))
    (sym (pairs_in_from ps)) h)

-- the value of `properties` is compiled where the schemas in it are
pub properties_are_built : (t u : Tree) (n m next : ℕ) (c : Compiled) → Some t ≡ if_object u →
    let us = members_from (pairs_of u) in
    IsBuilt (MeetsAtKeys us) (NoValueAsks us) (WalksValues us next) c → IsBuilt (MeetsProperties u) (NoPropertyAsks u) (WalksProperties u n m next) c
properties_are_built t u n m next c e h =
    subst (λ (w : Tree). IsBuilt (MeetsProperties w) (NoPropertyAsks w) (WalksProperties w n m next) c) (sym (object_is_made t u e)) h

pub walks_of_properties : (t u : Tree) (n m next : ℕ) (o : Outcome) → Some t ≡ if_object u → WalksValues (members_from (pairs_of u)) next o
    → WalksProperties u n m next o
walks_of_properties t u n m next o e h = subst (λ (w : Tree). WalksProperties w n m next o) (sym (object_is_made t u e)) h

list_walks : (ts : List Tree) (n m next : ℕ) (o : Outcome) → 0 < length ts → WalksElements (elements_from ts) next o
    → WalksList (array (elements_from ts)) n m next o
list_walks [] n m next o lt h = absurd (omega arith)
list_walks (t ∷ ts) n m next o lt h = h

-- a walk over a list that is not empty is one over its elements
pub walks_of_list : (t u : Tree) (n m next : ℕ) (o : Outcome) → Some t ≡ if_array u → 0 < length (elements_of u)
    → WalksElements (elements_from (elements_of u)) next o → WalksList u n m next o
walks_of_list t u n m next o e lt h =
    subst (λ (w : Tree). WalksList w n m next o) (sym (array_is_made t u e)) (list_walks (elements_of u) n m next o lt h)

-- an object, and an array, nests one deeper than its parts
pub object_parts_nest : (t u : Tree) → Some t ≡ if_object u → nest u ≡ 1 + nest_members (members_from (pairs_of u))
object_parts_nest t u e = ap nest (object_is_made t u e)

pub array_parts_nest : (t u : Tree) → Some t ≡ if_array u → nest u ≡ 1 + nest_elements (elements_from (elements_of u))
array_parts_nest t u e = ap nest (array_is_made t u e)
