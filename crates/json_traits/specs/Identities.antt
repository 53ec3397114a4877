-- What an identity is, and whose a container's is. This project's own.
use Rattle.std.specs.Prelude.{ℕ, Option, None}
use Rattle.json_model.specs.Tree.{Tree, scalar, array, object}
use Rattle.json_traits.specs.declared.identity.NodeIdentity.{NodeIdentity}

-- the address and the tag
abbrev pub pair : NodeIdentity → ℕ × ℕ
pair i = (i.address, i.tag)

-- what arrays and objects have, and scalars have not
abbrev pub if_container : {A : Type 0} → Tree → Option A → Option A
if_container (scalar s) identity = None
if_container (array ts) identity = identity
if_container (object ms) identity = identity
