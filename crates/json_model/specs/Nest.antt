-- How deep containers stand in each other: 0 for a scalar, 1 for a container without containers, and so on. This
-- project's own.
use Rattle.std.specs.Prelude.{ℕ, ◌+◌, max}
use Rattle.json_model.specs.Tree.{Tree, scalar, array, object, Elements, no_elements, element, Members, no_members, member}

abbrev mutual
  pub nest : Tree → ℕ
  nest (scalar s) = 0
  nest (array ts) = 1 + nest_elements ts
  nest (object ms) = 1 + nest_members ms

  pub nest_elements : Elements → ℕ
  nest_elements no_elements = 0
  nest_elements (element t ts) = max (nest t) (nest_elements ts)

  pub nest_members : Members → ℕ
  nest_members no_members = 0
  nest_members (member k t ms) = max (nest t) (nest_members ms)
