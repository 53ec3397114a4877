-- Raw trees whose objects have their members in key order, at each level, as PostgreSQL's `jsonb` has them.
use Rattle.std.specs.Prelude.{◌≡◌, true}
use Rattle.json_model.specs.Keys.{rises}
use Rattle.json_model.specs.Tree.{Tree, scalar, array, object, Elements, no_elements, element, Members, no_members, member, keys}

abbrev mutual
  pub KeysRise : Tree → Type 0
  KeysRise (scalar s) = Unit {0}
  KeysRise (array ts) = KeysRiseInElements ts
  KeysRise (object ms) = (rises (keys ms) ≡ true) × KeysRiseInMembers ms

  -- the keys in each element rise
  pub KeysRiseInElements : Elements → Type 0
  KeysRiseInElements no_elements = Unit {0}
  KeysRiseInElements (element t ts) = KeysRise t × KeysRiseInElements ts

  -- the keys in each member's value rise
  pub KeysRiseInMembers : Members → Type 0
  KeysRiseInMembers no_members = Unit {0}
  KeysRiseInMembers (member k t ms) = KeysRise t × KeysRiseInMembers ms
