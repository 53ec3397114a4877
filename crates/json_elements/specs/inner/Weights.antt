-- How much a walk over a tree has to do: one step for a scalar; for a container one to go in, one to go out, and those of what
-- stands in it.
use Rattle.std.specs.Prelude.{ℕ, ◌+◌}
use Rattle.json_model.specs.Tree.{Tree, scalar, array, object, Elements, no_elements, element, Members, no_members, member}

abbrev mutual
  pub weight : Tree → ℕ
  weight (scalar s) = 1
  weight (array ts) = 2 + elements_weight ts
  weight (object ms) = 2 + members_weight ms

  pub elements_weight : Elements → ℕ
  elements_weight no_elements = 0
  elements_weight (element t ts) = weight t + elements_weight ts

  pub members_weight : Members → ℕ
  members_weight no_members = 0
  members_weight (member k t ms) = weight t + members_weight ms
