-- Two places of a list that hold the same tree.
use Rattle.std.specs.Prelude.{ℕ, List, IsSomeAnd, slice_get}
use Rattle.json_model.specs.Same.{Same}
use Rattle.json_model.specs.Tree.{Tree}

abbrev pub IsSameAt : List Tree → ℕ → ℕ → Type 0
IsSameAt ts j k = IsSomeAnd (slice_get ts j) (λ t. IsSomeAnd (slice_get ts k) (λ u. Same t u))
