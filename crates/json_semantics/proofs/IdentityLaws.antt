-- Of what has no identity, no container has one.
use Rattle.std.proofs.Common.{◌≡◌, Option, None, refl}
use Rattle.json_model.specs.Tree.{Tree, scalar, array, object}
use Rattle.json_traits.specs.Identities.{if_container}
use Rattle.json_traits.specs.declared.identity.NodeIdentity.{NodeIdentity}

pub no_identity : (t : Tree) → ◌≡◌ {A = Option NodeIdentity} None (if_container t None)
no_identity (scalar s) = refl
no_identity (array ts) = refl
no_identity (object ms) = refl
