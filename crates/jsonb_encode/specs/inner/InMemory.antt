-- What is true of the tree of each value in memory.
use Rattle.json_model.specs.Json.{HasNarrow}
use Rattle.json_model.specs.Tree.{Tree}
use Rattle.jsonb_encode.specs.Limits.{IsStorable}

pub record IsInMemory (t : Tree) : Type 0 where
  pub value : IsStorable t
  pub narrow : HasNarrow t
