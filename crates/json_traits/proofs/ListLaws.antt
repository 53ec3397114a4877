-- The first of the types that a test passes, and the others.
use Rattle.std.proofs.Common.{◌≡◌, Bool, not, ◌&&◌, [], ◌∷◌, Some, None, arith}
use Rattle.std.specs.List.{filter}
use Rattle.json_traits.specs.declared.types.json_type.JsonType.{JsonType}
use Rattle.json_traits.specs.Weights.{same, all_types}
use Rattle.json_traits.specs.Sets.{first_of}

-- without the first of them, the others are left
pub rest_is : (f g : JsonType → Bool) (t : JsonType) → ((u : JsonType) → g u ≡ f u && not (same u t)) → Some t ≡ first_of (filter f all_types) →
    filter f all_types ≡ t ∷ filter g all_types
rest_is f g t h e = grind arith

pub none_left : (f : JsonType → Bool) → None ≡ first_of (filter f all_types) → filter f all_types ≡ []
none_left f e = grind arith
