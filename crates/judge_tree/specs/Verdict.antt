-- When a document is valid under a schema: JSON Schema Core 2020-12, section 4.3.2 for `true` and `false`, 10.2.1 for `allOf`, `anyOf`
-- and `not`, and 10.3 for `items`, `properties` and `additionalProperties`. Every other member asks what its flat keyword asks. What is
-- no schema, and a value that has not the form of its applicator, gets no verdict (`Walks`).
use Rattle.std.specs.Prelude.{ℕ, ◌≡◌, List, [], ◌∷◌, ◌⊎◌, ⊤, IsTrue, IfSome, codes, map, option_map, unwrap_or}
use Rattle.std.specs.List.{AllByRecursion}
use Rattle.json_model.specs.Parts.{elements_of, lookup, pairs_in, pairs_of}
use Rattle.json_model.specs.Tree.{null, boolean, number, string, Tree, scalar, array, object, Elements, no_elements, element, Members, no_members, member}
use Rattle.flat_keywords.specs.Verdict.{HoldsAt}
use Rattle.judge_tree.specs.Applicators.{applicator_of, line_of}

-- the keys under `properties`
abbrev pub property_names : List (List ℕ × Tree) → List (List ℕ)
property_names ps = unwrap_or (option_map (λ v. map (λ p. p.0) (pairs_of v)) (lookup (codes "properties") ps)) []

-- the key is one of the names
abbrev pub IsOneOf : List (List ℕ) → List ℕ → Type 0
IsOneOf [] k = ⊥
IsOneOf (n ∷ ns) k = (n ≡ k) ⊎ IsOneOf ns k

abbrev mutual
  -- the document d is valid under the schema s
  pub IsValidUnder : Tree → Tree → Type 0
  IsValidUnder (scalar null) d = ⊥
  IsValidUnder (scalar (boolean b)) d = IsTrue b
  IsValidUnder (scalar (number n)) d = ⊥
  IsValidUnder (scalar (string s)) d = ⊥
  IsValidUnder (array ts) d = ⊥
  IsValidUnder (object ms) d = MeetsEach (property_names (pairs_in ms)) ms d

  -- d meets each member of a schema; ns are the keys under its `properties`
  pub MeetsEach : List (List ℕ) → Members → Tree → Type 0
  MeetsEach ns no_members d = ⊤
  MeetsEach ns (member k v ms) d = line_of (applicator_of k) (record {
    flat = HoldsAt d (k, v);
    properties = MeetsProperties v d;
    others = AllByRecursion (λ p. IsOneOf ns p.0 ⊎ IsValidUnder v p.1) (pairs_of d);
    items = AllByRecursion (λ x. IsValidUnder v x) (elements_of d);
    all = MeetsAll v d;
    any = MeetsAny v d;
    negated = IsValidUnder v d → ⊥;
  }) × MeetsEach ns ms d

  -- each member of d that has a schema in v is valid under it
  pub MeetsProperties : Tree → Tree → Type 0
  MeetsProperties (scalar s) d = ⊤
  MeetsProperties (array ts) d = ⊤
  MeetsProperties (object us) d = MeetsAtKeys us d

  pub MeetsAtKeys : Members → Tree → Type 0
  MeetsAtKeys no_members d = ⊤
  MeetsAtKeys (member k u us) d = IfSome (lookup k (pairs_of d)) (λ x. IsValidUnder u x) × MeetsAtKeys us d

  -- d is valid under each schema in v
  pub MeetsAll : Tree → Tree → Type 0
  MeetsAll (scalar s) d = ⊤
  MeetsAll (array us) d = MeetsAllOf us d
  MeetsAll (object ms) d = ⊤

  pub MeetsAllOf : Elements → Tree → Type 0
  MeetsAllOf no_elements d = ⊤
  MeetsAllOf (element u us) d = IsValidUnder u d × MeetsAllOf us d

  -- d is valid under one schema in v at least
  pub MeetsAny : Tree → Tree → Type 0
  MeetsAny (scalar s) d = ⊥
  MeetsAny (array us) d = MeetsAnyOf us d
  MeetsAny (object ms) d = ⊥

  pub MeetsAnyOf : Elements → Tree → Type 0
  MeetsAnyOf no_elements d = ⊥
  MeetsAnyOf (element u us) d = IsValidUnder u d ⊎ MeetsAnyOf us d
