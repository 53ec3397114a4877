-- What reading a whole slice gives.
use Rattle.std.specs.Prelude.{ℕ, List, Result, Ok, Err}
use Rattle.json_model.specs.Json.{IsText, HasNarrow, IsJson}
use Rattle.json_model.specs.Tree.{Tree}
use Rattle.jsonb_layout.specs.Stands.{Stands}
use Rattle.jsonb.specs.Nodes.{node_tree}
use Rattle.jsonb.specs.declared.error.JsonbError.{JsonbError}
use Rattle.jsonb.specs.declared.error.JsonbError.TheVariants as errors
use Rattle.jsonb.specs.declared.node.JsonbNode.{JsonbNode}

-- Why bytes are refused. No tree has two of these causes, and none of a tree that is JSON.
abbrev pub Cause : List ℕ → JsonbError → Type 0
Cause b errors.Malformed = (t : Tree) → Stands b t → ⊥
Cause b errors.NotText = (t : Tree) × Stands b t × (IsText t → ⊥)
Cause b errors.NumberTooWide = (t : Tree) × Stands b t × IsText t × (HasNarrow t → ⊥)
Cause b errors.OutOfMemory = ⊥

-- The bytes stand for a tree that is JSON, or they are refused by their cause.
abbrev pub IsRead : List ℕ → Result Tree JsonbError → Type 0
IsRead b (Ok t) = Stands b t × IsJson t
IsRead b (Err e) = Cause b e

abbrev pub read_tree : Result JsonbNode JsonbError → Result Tree JsonbError
read_tree (Ok n) = Ok (node_tree n)
read_tree (Err e) = Err e
