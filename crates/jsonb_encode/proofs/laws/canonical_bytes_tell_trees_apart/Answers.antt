use Rattle.jsonb_encode.proofs.TreeStands.{canonical_apart}
use Rattle.jsonb_encode.proofs.laws.canonical_bytes_tell_trees_apart.Goals as goal

pub returns : goal.returns
returns c = λ t u a b v w. canonical_apart t u a b v w
