-- What a formula asks of a document. The code's own words.
use Rattle.std.specs.Prelude.{ℕ, Bool, true, false, IsTrue, ◌⊎◌, List, [], ◌∷◌, IfSome, map, string_bytes, ⊤}
use Rattle.std.specs.List.{AllByRecursion}
use Rattle.json_model.specs.Parts.{elements_of, lookup, pairs_of}
use Rattle.json_model.specs.Tree.{Tree}
use Rattle.flat_keywords.specs.inner.Passes as flat_checks
use Rattle.flat_keywords.specs.declared.checks.Checks.{Checks}
use Rattle.judge_tree.specs.Verdict.{IsOneOf}
use Rattle.judge_tree.specs.declared.formula.Formula.{Formula}
use Rattle.judge_tree.specs.declared.formula.Formula.TheOpen.{Formula-F}
use Rattle.judge_tree.specs.declared.formula.Formula.TheFolds.{fold-Formula}

pub data Asked : Type 0 where
  truth : Bool → Asked
  flat : Checks → Asked
  both : Asked → Asked → Asked
  either : Asked → Asked → Asked
  negated : Asked → Asked
  at_key : List ℕ → Asked → Asked
  at_others : List (List ℕ) → Asked → Asked
  at_elements : Asked → Asked

-- the document d meets what is asked
abbrev pub Means : Asked → Tree → Type 0
Means (truth b) d = IsTrue b
Means (flat c) d = flat_checks.Passes c d
Means (both a b) d = Means a d × Means b d
Means (either a b) d = Means a d ⊎ Means b d
Means (negated a) d = Means a d → ⊥
Means (at_key k a) d = IfSome (lookup k (pairs_of d)) (λ x. Means a x)
Means (at_others ks a) d = AllByRecursion (λ p. IsOneOf ks p.0 ⊎ Means a p.1) (pairs_of d)
Means (at_elements a) d = AllByRecursion (λ x. Means a x) (elements_of d)

-- no memory is needed to check what is asked
abbrev pub IsFrugal : Asked → Type 0
IsFrugal (truth b) = ⊤
IsFrugal (flat c) = flat_checks.NeedsNoMemory c
IsFrugal (both a b) = IsFrugal a × IsFrugal b
IsFrugal (either a b) = IsFrugal a × IsFrugal b
IsFrugal (negated a) = IsFrugal a
IsFrugal (at_key k a) = IsFrugal a
IsFrugal (at_others ks a) = IsFrugal a
IsFrugal (at_elements a) = IsFrugal a

-- each of them
abbrev pub all_of : List Asked → Asked
all_of [] = truth true
all_of (a ∷ rest) = both a (all_of rest)

-- one of them at least
abbrev pub any_of : List Asked → Asked
any_of [] = truth false
any_of (a ∷ rest) = either a (any_of rest)

-- one layer of a formula, over what is asked inside
abbrev pub asked_step : Formula-F Asked → Asked
asked_step (Formula-F.Truth b) = truth b
asked_step (Formula-F.Flat c) = flat c
asked_step (Formula-F.All fs) = all_of fs.items
asked_step (Formula-F.Any fs) = any_of fs.items
asked_step (Formula-F.Not f) = negated f.value
asked_step (Formula-F.Member s f) = at_key (string_bytes s) f.value
asked_step (Formula-F.Others ns f) = at_others (map string_bytes ns.items) f.value
asked_step (Formula-F.Elements f) = at_elements f.value

-- what a formula asks
abbrev pub asked : Formula → Asked
asked = fold-Formula Asked asked_step
