use Rattle.jsonb_encode.proofs.CanonicalSeats.{equal_by_trees}
use Rattle.jsonb.proofs.laws.canonical_slices_are_equal_by_their_trees.Goals as goal

pub returns : goal.returns
returns c = λ t u a b h k. equal_by_trees t u a b h k
