-- Raw trees: the values of RFC 8259, section 3, whose strings and keys are any bytes and whose numbers are any decimals.
use Rattle.std.specs.Prelude.{ℕ, Bool, List, [], ◌∷◌}
use Rattle.json_model.specs.Decimal.{Decimal}

-- what has no tree inside it
pub data Scalar : Type 0 where
  null : Scalar
  boolean : Bool → Scalar
  number : Decimal → Scalar
  string : List ℕ → Scalar

mutual
  pub data Tree : Type 0 where
    scalar : Scalar → Tree
    array : Elements → Tree
    object : Members → Tree

  pub data Elements : Type 0 where
    no_elements : Elements
    element : Tree → Elements → Elements

  pub data Members : Type 0 where
    no_members : Members
    member : List ℕ → Tree → Members → Members

abbrev pub keys : Members → List (List ℕ)
keys no_members = []
keys (member k t ms) = k ∷ keys ms

abbrev pub values : Members → Elements
values no_members = no_elements
values (member k t ms) = element t (values ms)
