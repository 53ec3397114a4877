-- JSON equality: JSON Schema Core 2020-12, section 4.2.2.
use Rattle.std.specs.Prelude.{ℕ, ◌≡◌, ◌<◌, List, length, ⊤, IsSomeAnd, slice_get}
use Rattle.json_model.specs.Decimal.{IsSameValue}
use Rattle.json_model.specs.Tree.{Scalar, null, boolean, number, string, Tree, scalar, array, object, Elements, no_elements, element, Members, no_members, member}
use Rattle.json_model.specs.Parts.{pairs_in, lookup}

abbrev pub SameScalar : Scalar → Scalar → Type 0
SameScalar null null = ⊤
SameScalar (boolean a) (boolean b) = a ≡ b
SameScalar (number a) (number b) = IsSameValue a b
SameScalar (string a) (string b) = a ≡ b
SameScalar _ _ = ⊥

abbrev mutual
  pub Same : Tree → Tree → Type 0
  Same (scalar a) (scalar b) = SameScalar a b
  Same (array a) (array b) = SameElements a b
  Same (object a) (object b) = (length (pairs_in a) ≡ length (pairs_in b)) × SameMembers a b
  Same _ _ = ⊥

  -- place by place
  pub SameElements : Elements → Elements → Type 0
  SameElements no_elements no_elements = ⊤
  SameElements (element t ts) (element u us) = Same t u × SameElements ts us
  SameElements _ _ = ⊥

  -- each key of the first is a key of the second, and the trees under it are the same
  pub SameMembers : Members → Members → Type 0
  SameMembers no_members ns = ⊤
  SameMembers (member k t ms) ns = IsSomeAnd (lookup k (pairs_in ns)) (λ u. Same t u) × SameMembers ms ns

-- no two places hold the same tree
abbrev pub IsUnique : List Tree → Type 0
IsUnique ts = (i j : ℕ) → i < j → IsSomeAnd (slice_get ts i) (λ t. IsSomeAnd (slice_get ts j) (λ u. Same t u)) → ⊥
